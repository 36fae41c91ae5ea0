-- Those elements of a list of which a test holds.
use mathlib.Core.Path.{◌≡◌, refl, ap, ◌∙◌}
use mathlib.Core.Bool.{Bool, true, false, ◌&&◌, ◌||◌, cond}
use mathlib.Core.List.{List, [], ◌∷◌, ◌++◌, map}
use Prim.Native.Nat.{suc, ◌≤◌, ◌<◌}
use native.Mathlib.Omega.{arith}
use lib.ListN.{length}
use Rattle.wire.specs.Bytes.{All, none, more}
use Rattle.calls.specs.Lists.{those, any_of}
use Rattle.calls.proofs.lists.BoolLaws.{clash}

module _ {A : Type 0} (t : A → Bool) where
  -- the first element and the rest
  pub those-hit : {l : List A} {x : A} {rest : List A} → l ≡ x ∷ rest → t x ≡ true → those t l ≡ x ∷ those t rest
  unfolding those
  those-hit {x = x} {rest = rest} e h = ap (those t) e ∙ ap (λ (b : Bool). cond b (x ∷ those t rest) (those t rest)) h

  pub those-miss : {l : List A} {x : A} {rest : List A} → l ≡ x ∷ rest → t x ≡ false → those t l ≡ those t rest
  unfolding those
  those-miss {x = x} {rest = rest} e h = ap (those t) e ∙ ap (λ (b : Bool). cond b (x ∷ those t rest) (those t rest)) h

  pub those-none : {l : List A} → l ≡ [] → those t l ≡ []
  unfolding those
  those-none e = ap (those t) e

  -- of one element
  pub those-one : (x : A) → t x ≡ true → those t (x ∷ []) ≡ x ∷ []
  unfolding those
  those-one x e = those-hit {rest = []} refl e

  pub those-other : (x : A) → t x ≡ false → those t (x ∷ []) ≡ []
  unfolding those
  those-other x e = those-miss {rest = []} refl e

  -- of one list after another
  pub those-append : (l m : List A) → those t (l ++ m) ≡ those t l ++ those t m
  unfolding those
  those-append [] m = refl
  those-append (x ∷ l) m = go (t x) (those-append l m)
    where
      go : (b : Bool) → those t (l ++ m) ≡ those t l ++ those t m
          → cond b (x ∷ those t (l ++ m)) (those t (l ++ m)) ≡ cond b (x ∷ those t l) (those t l) ++ those t m
      go true e = ap (λ r. x ∷ r) e
      go false e = e

  pub those-length : (s : List A) → length (those t s) ≤ length s
  unfolding those
  those-length [] = omega arith
  those-length (a ∷ s) = go (t a) (those-length s)
    where
      go : (b : Bool) → length (those t s) ≤ length s → length (cond b (a ∷ those t s) (those t s)) ≤ suc (length s)
      go true h = omega arith
      go false h = omega arith

-- of a list that a function makes
pub those-map : {A B : Type 0} (t : B → Bool) (f : A → B) (l : List A) → those t (map f l) ≡ map f (those (λ x. t (f x)) l)
unfolding those
those-map t f [] = refl
those-map t f (x ∷ l) = rw (those-map t f l) (go (t (f x)))
  where
    go : (b : Bool) → cond b (f x ∷ map f (those (λ x. t (f x)) l)) (map f (those (λ x. t (f x)) l)) ≡ map f (cond b (x ∷ those (λ x. t (f x)) l) (those (λ x. t (f x)) l))
    go true = refl
    go false = refl

-- by tests that agree, that always hold and that never do
module _ {A : Type 0} where
  pub those-same : {t u : A → Bool} {xs : List A} → All (λ x. t x ≡ u x) xs → those t xs ≡ those u xs
  unfolding those
  those-same none = refl
  those-same (more h r) = rw (h, those-same r)

  pub those-all : {t : A → Bool} {xs : List A} → All (λ x. t x ≡ true) xs → those t xs ≡ xs
  unfolding those
  those-all none = refl
  those-all (more h r) = rw (h, those-all r)

  pub those-never : {t : A → Bool} {xs : List A} → All (λ x. t x ≡ false) xs → those t xs ≡ []
  unfolding those
  those-never none = refl
  those-never (more h r) = rw (h, those-never r)

  pub those-those : (t u : A → Bool) → ((x : A) → t x ≡ true → u x ≡ true) → (xs : List A) → those t (those u xs) ≡ those t xs
  unfolding those
  those-those t u f [] = refl
  those-those t u f (x ∷ xs) = go (t x) refl (u x) refl (those-those t u f xs)
    where
      go : (a : Bool) → t x ≡ a → (b : Bool) → u x ≡ b → those t (those u xs) ≡ those t xs
          → those t (cond b (x ∷ those u xs) (those u xs)) ≡ cond a (x ∷ those t xs) (those t xs)
      go true p true q ih = rw (p, ih)
      go true p false q ih = absurd (clash (f x p) q)
      go false p true q ih = rw (p, ih)
      go false p false q ih = ih

  pub those-fewer : (t u : A → Bool) → ((x : A) → u x ≡ true → t x ≡ false) → (xs : List A) → any_of u xs ≡ true → length (those t xs) < length xs
  unfolding those any_of
  those-fewer t u f [] h = absurd (clash h refl)
  those-fewer t u f (x ∷ xs) h = go (t x) refl (u x) refl h (those-length t xs) (those-fewer t u f xs)
    where
      go : (a : Bool) → t x ≡ a → (b : Bool) → u x ≡ b → (b || any_of u xs) ≡ true → length (those t xs) ≤ length xs
          → (any_of u xs ≡ true → length (those t xs) < length xs) → length (cond a (x ∷ those t xs) (those t xs)) < suc (length xs)
      go true p true q h l ih = absurd (clash p (f x q))
      go true p false q h l ih = omega (arith, ih h)
      go false p true q h l ih = omega arith
      go false p false q h l ih = omega arith

-- one test after another
pub those-both : {A : Type 0} (t u : A → Bool) (xs : List A) → those t (those u xs) ≡ those (λ x. u x && t x) xs
unfolding those
those-both t u [] = refl
those-both {A} t u (x ∷ xs) = go (u x) refl (t x) refl (those-both t u xs)
  where
    go : (a : Bool) → u x ≡ a → (b : Bool) → t x ≡ b → those t (those u xs) ≡ those (λ x. u x && t x) xs
        → those t (cond a (x ∷ those u xs) (those u xs)) ≡ cond (a && b) (x ∷ those (λ x. u x && t x) xs) (those (λ x. u x && t x) xs)
    go true p true q ih = rw (q, ih)
    go true p false q ih = rw q ih
    go false p b q ih = ih
