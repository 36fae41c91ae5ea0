-- The sort in parts: those of a test that stand before the others, and the ranks that an order goes by first.
use mathlib.Core.Path.{◌≡◌, refl, ap, sym, ◌∙◌}
use mathlib.Core.Bool.{Bool, true, false, not, ◌&&◌, cond}
use mathlib.Core.List.{List, [], ◌∷◌, ◌++◌}
use Prim.Native.Nat.{ℕ, ◌<◌}
use native.Mathlib.Omega.{arith}
use lib.Dec.{ltb, leb, eqb}
use borrow.Author.Tests.{ltb-true, ltb-false, leb-true, leb-false, lt-ltb, le-ltb, eq-eqb, ne_eqb}
use Rattle.wire.specs.Bytes.{All, none, more}
use Rattle.calls.specs.Lists.{those}
use Rattle.calls.specs.Sorting.{Weak, sorted_by, Rising}
use Rattle.calls.proofs.lists.AllLaws.{all_any}
use Rattle.calls.proofs.lists.BoolLaws.{clash}
use Rattle.calls.proofs.lists.SortLaws.{those-sorted, rising-sorted}
use Rattle.calls.proofs.lists.ThoseLaws.{those-both, those-same, those-never}

module _ {A : Type 0} {less : A → A → Bool} (w : Weak less) where
  -- where those of a test stand before the others, the sort is theirs and then the others'
  front-back : (t : A → Bool) → ((x y : A) → t x ≡ true → t y ≡ false → less x y ≡ true) → {l : List A} → Rising less l
      → those t l ++ those (λ x. not (t x)) l ≡ l
  unfolding those
  front-back t f Rising.none = refl
  front-back t f (Rising.more {x = x} {xs = l} h r) = go (t x) refl (front-back t f r)
    where
      behind : {m : List A} → t x ≡ false → All (λ y. less y x ≡ false) m → All (λ y. t y ≡ false) m
      behind e none = none
      behind e (more {a = y} p q) = more (on (t y) refl) (behind e q)
        where
          on : (u : Bool) → t y ≡ u → u ≡ false
          on true z = absurd (clash (f y x z e) p)
          on false z = refl

      go : (u : Bool) → t x ≡ u → those t l ++ those (λ x. not (t x)) l ≡ l
          → cond u (x ∷ those t l) (those t l) ++ cond (not u) (x ∷ those (λ x. not (t x)) l) (those (λ x. not (t x)) l) ≡ x ∷ l
      go true e ih = ap (λ (m : List A). x ∷ m) ih
      go false e ih =
          let z : those t l ≡ [] = those-never (behind e h) in
          rw z (ap (λ (m : List A). x ∷ m) (rw z at ih))

  pub sorted-parts : (t : A → Bool) → ((x y : A) → t x ≡ true → t y ≡ false → less x y ≡ true) → (xs : List A)
      → sorted_by less xs ≡ sorted_by less (those t xs) ++ sorted_by less (those (λ x. not (t x)) xs)
  sorted-parts t f xs =
      rw (← those-sorted w t xs, ← those-sorted w (λ x. not (t x)) xs) (sym (front-back t f (rising-sorted w xs)))

-- a rank of each element that the order goes by first: the sort is that of the lower ranks, of a rank and of the higher ones
eq-parts : (a k : ℕ) → (not (ltb a k) && leb a k) ≡ eqb a k
eq-parts a k = go (ltb a k) refl (leb a k) refl
  where
    go : (t : Bool) → ltb a k ≡ t → (u : Bool) → leb a k ≡ u → (not t && u) ≡ eqb a k
    go true p u q = sym (ne_eqb a k (λ e. omega (arith, ltb-true a k p)))
    go false p true q = sym (eq-eqb a k (omega (arith, ltb-false a k p, leb-true a k q)))
    go false p false q = sym (ne_eqb a k (λ e. omega (arith, leb-false a k q)))

gt-parts : (a k : ℕ) → (not (ltb a k) && not (leb a k)) ≡ ltb k a
gt-parts a k = go (ltb a k) refl (leb a k) refl
  where
    go : (t : Bool) → ltb a k ≡ t → (u : Bool) → leb a k ≡ u → (not t && not u) ≡ ltb k a
    go true p u q = sym (le-ltb k a (omega (arith, ltb-true a k p)))
    go false p true q = sym (le-ltb k a (leb-true a k q))
    go false p false q = sym (lt-ltb k a (leb-false a k q))

module _ {A : Type 0} {less : A → A → Bool} (w : Weak less) (rank : A → ℕ) (f : (x y : A) → rank x < rank y → less x y ≡ true) where
  pub sorted-ranks : (k : ℕ) (xs : List A) → sorted_by less xs
      ≡ sorted_by less (those (λ x. ltb (rank x) k) xs)
      ++ (sorted_by less (those (λ x. eqb (rank x) k) xs) ++ sorted_by less (those (λ x. ltb k (rank x)) xs))
  sorted-ranks k xs =
      sorted-parts w (λ x. ltb (rank x) k) (λ x y p q. f x y (omega (arith, ltb-true (rank x) k p, ltb-false (rank y) k q))) xs
      ∙ ap (λ (l : List A). sorted_by less (those (λ x. ltb (rank x) k) xs) ++ l)
      (sorted-parts w (λ x. leb (rank x) k) (λ x y p q. f x y (omega (arith, leb-true (rank x) k p, leb-false (rank y) k q))) (those (λ x. not (ltb (rank x) k)) xs)
      ∙ rw (
        those-both (λ x. leb (rank x) k) (λ x. not (ltb (rank x) k)) xs,
        those-same (all_any (λ x. eq-parts (rank x) k) xs),
        those-both (λ x. not (leb (rank x) k)) (λ x. not (ltb (rank x) k)) xs,
        those-same (all_any (λ x. gt-parts (rank x) k) xs),
      ))
