-- A test of every element of a list, or of some element.
use mathlib.Core.Path.{◌≡◌, refl, ap, sym, ◌∙◌}
use mathlib.Core.Bool.{Bool, true, false, ◌&&◌, ◌||◌, cond}
use mathlib.Core.List.{List, [], ◌∷◌, ◌++◌, map}
use Prim.Native.Nat.{ℕ, zero, suc, ◌≤◌}
use lib.ListN.{length, drop, drop_of_length-le}
use Rattle.calls.specs.Lists.{all_of, any_of}
use Rattle.calls.specs.Sorting.{insert, into, sorted_by}
use Rattle.calls.proofs.lists.BoolLaws.{both, parts}

-- every element: the first one and the rest
module _ {A : Type 0} (t : A → Bool) {l : List A} {x : A} {rest : List A} (here : l ≡ x ∷ rest) where
  pub all-of-next : t x ≡ true → all_of t rest ≡ all_of t l
  unfolding all_of
  all-of-next h = sym (ap (all_of t) here ∙ ap (λ (b : Bool). b && all_of t rest) h)

  pub all-of-stop : t x ≡ false → all_of t l ≡ false
  unfolding all_of
  all-of-stop h = ap (all_of t) here ∙ ap (λ (b : Bool). b && all_of t rest) h

module _ {A : Type 0} (t : A → Bool) where
  pub all-of-first : {l rest : List A} {x : A} → all_of t l ≡ true → l ≡ x ∷ rest → t x ≡ true
  unfolding all_of
  all-of-first {rest = rest} {x = x} h e = (parts (t x) (all_of t rest) (sym (ap (all_of t) e) ∙ h)).0

  pub all-of-none : {l : List A} → l ≡ [] → all_of t l ≡ true
  unfolding all_of
  all-of-none e = ap (all_of t) e

  -- from an index on
  pub all-of-drop : (l : List A) (i : ℕ) → all_of t l ≡ true → all_of t (drop i l) ≡ true
  unfolding all_of
  all-of-drop l zero h = h
  all-of-drop [] (suc i) h = h
  all-of-drop (x ∷ xs) (suc i) h = all-of-drop xs i (parts (t x) (all_of t xs) h).1

  pub all-of-past : (l : List A) (i : ℕ) → length l ≤ i → all_of t (drop i l) ≡ true
  all-of-past l i h = all-of-none (drop_of_length-le l h)

  -- of one list after another
  pub all-of-append : (l m : List A) → all_of t l ≡ true → all_of t m ≡ true → all_of t (l ++ m) ≡ true
  unfolding all_of
  all-of-append [] m h k = k
  all-of-append (x ∷ l) m h k = let p = parts (t x) (all_of t l) h in both p.0 (all-of-append l m p.1 k)

-- of a list that a function makes
pub all_of_map : {A B : Type 0} (t : B → Bool) (f : A → B) (l : List A) → all_of t (map f l) ≡ all_of (λ x. t (f x)) l
unfolding all_of
all_of_map t f [] = refl
all_of_map t f (x ∷ l) = ap (λ (b : Bool). t (f x) && b) (all_of_map t f l)

-- some element
module _ {A : Type 0} (t : A → Bool) where
  pub any-of-next : {l : List A} {x : A} {rest : List A} → l ≡ x ∷ rest → t x ≡ false → any_of t l ≡ any_of t rest
  unfolding any_of
  any-of-next {rest = rest} e h = ap (any_of t) e ∙ ap (λ (b : Bool). b || any_of t rest) h

  pub any-of-stop : {l : List A} {x : A} {rest : List A} → l ≡ x ∷ rest → t x ≡ true → any_of t l ≡ true
  unfolding any_of
  any-of-stop {rest = rest} e h = ap (any_of t) e ∙ ap (λ (b : Bool). b || any_of t rest) h

  pub any-of-none : {l : List A} → l ≡ [] → any_of t l ≡ false
  unfolding any_of
  any-of-none e = ap (any_of t) e

  pub any-of-fails : (l : List A) → ((a : A) → t a ≡ false) → any_of t l ≡ false
  unfolding any_of
  any-of-fails [] h = refl
  any-of-fails (x ∷ l) h = rw (h x, any-of-fails l h)

-- of a sorted list
module _ {A : Type 0} (t : A → Bool) (less : A → A → Bool) where
  all-of-insert : (x : A) (l : List A) → all_of t (insert less x l) ≡ (t x && all_of t l)
  unfolding all_of insert
  all-of-insert x [] = refl
  all-of-insert x (y ∷ l) = go (less y x) (all-of-insert x l)
    where
      go : (b : Bool) → all_of t (insert less x l) ≡ (t x && all_of t l)
          → all_of t (cond b (y ∷ insert less x l) (x ∷ y ∷ l)) ≡ (t x && (t y && all_of t l))
      go true ih = ap (λ (b : Bool). t y && b) ih ∙ swap (t y) (t x)
        where
          swap : (a b : Bool) → (a && (b && all_of t l)) ≡ (b && (a && all_of t l))
          swap true b = refl
          swap false true = refl
          swap false false = refl
      go false ih = refl

  pub all-of-sorted : (xs : List A) → all_of t (sorted_by less xs) ≡ all_of t xs
  unfolding all_of into
  all-of-sorted [] = refl
  all-of-sorted (x ∷ xs) = all-of-insert x (sorted_by less xs) ∙ ap (λ (b : Bool). t x && b) (all-of-sorted xs)
