-- A test of some element of a list.
use mathlib.Core.Path.{◌≡◌, refl}
use mathlib.Core.Bool.{Bool, true, false, ◌||◌, cond, or-true}
use mathlib.Core.List.{List, [], ◌∷◌, ◌++◌}
use Prim.Native.Nat.{ℕ, zero, suc, ◌<◌}
use native.Mathlib.Omega.{arith}
use lib.ListN.{length, get_or}
use Rattle.calls.specs.Lists.{any_of, those}
use Rattle.calls.proofs.lists.BoolLaws.{clash}

module _ {A : Type 0} where
  pub any-those : (t u : A → Bool) → ((x : A) → u x ≡ true → t x ≡ true) → (xs : List A) → any_of u xs ≡ true → any_of u (those t xs) ≡ true
  unfolding those any_of
  any-those t u f [] h = h
  any-those t u f (x ∷ xs) h = go (t x) refl (u x) refl h (any-those t u f xs)
    where
      go : (a : Bool) → t x ≡ a → (b : Bool) → u x ≡ b → (b || any_of u xs) ≡ true → (any_of u xs ≡ true → any_of u (those t xs) ≡ true)
          → any_of u (cond a (x ∷ those t xs) (those t xs)) ≡ true
      go true p true q h ih = rw q
      go true p false q h ih = rw q (ih h)
      go false p true q h ih = absurd (clash (f x q) p)
      go false p false q h ih = ih h

  pub any_append : (t : A → Bool) (xs ys : List A) → any_of t xs ≡ true → any_of t (xs ++ ys) ≡ true
  unfolding any_of
  any_append t [] ys h = absurd (clash h refl)
  any_append t (x ∷ xs) ys h = go (t x) h (any_append t xs ys)
    where
      go : (u : Bool) → (u || any_of t xs) ≡ true → (any_of t xs ≡ true → any_of t (xs ++ ys) ≡ true) → (u || any_of t (xs ++ ys)) ≡ true
      go true h ih = refl
      go false h ih = ih h

  -- one of those is one of all
  pub any-back : (t u : A → Bool) (xs : List A) → any_of u (those t xs) ≡ true → any_of u xs ≡ true
  unfolding those any_of
  any-back t u [] h = h
  any-back t u (x ∷ xs) h = go (t x) (u x) refl h (any-back t u xs)
    where
      go : (a b : Bool) → u x ≡ b → any_of u (cond a (x ∷ those t xs) (those t xs)) ≡ true → (any_of u (those t xs) ≡ true → any_of u xs ≡ true)
          → (b || any_of u xs) ≡ true
      go a true q h ih = refl
      go true false q h ih = ih (rw q at h)
      go false false q h ih = ih h

-- an element at an index
pub any_at : {A : Type 0} (t : A → Bool) (xs : List A) (i : ℕ) (d : A) → i < length xs → t (get_or xs i d) ≡ true → any_of t xs ≡ true
unfolding any_of
any_at t [] i d h e = absurd (omega arith)
any_at t (x ∷ xs) zero d h e = rw e
any_at t (x ∷ xs) (suc i) d h e = rw (any_at t xs i d (omega arith) e) (or-true (t x))
