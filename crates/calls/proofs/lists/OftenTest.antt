-- A computed test that every element stands as often in two lists.
use mathlib.Core.Path.{◌≡◌, refl}
use mathlib.Core.Bool.{Bool, true, false, ◌&&◌}
use mathlib.Core.List.{List}
use native.Mathlib.Omega.{arith}
use lib.Dec.{ltb, eqb}
use borrow.Author.Tests.{ltb-true, ltb-false, eqb-true}
use Rattle.wire.specs.Bytes.{All}
use Rattle.calls.specs.Lists.{all_of, count}
use Rattle.calls.specs.Sorting.{Equality}
use Rattle.calls.proofs.lists.AllLaws.{all-imp, test-all}
use Rattle.calls.proofs.lists.BoolLaws.{parts}
use Rattle.calls.proofs.lists.OneSort.{counted}

-- the counts agree of each element of the first list, and of each of the second
abbrev pub often_test : {A : Type 0} → (A → A → Bool) → List A → List A → Bool
often_test eq xs ys = all_of (λ z. eqb (count (eq z) xs) (count (eq z) ys)) xs && all_of (λ z. eqb (count (eq z) xs) (count (eq z) ys)) ys

-- so they agree of every element: one that stands in neither list is counted in neither
pub often-tested : {A : Type 0} {eq : A → A → Bool} → Equality eq → (xs ys : List A) → often_test eq xs ys ≡ true
    → (z : A) → count (eq z) xs ≡ count (eq z) ys
often-tested {A} {eq} q xs ys h z = go (ltb 0 (count (eq z) xs)) refl (ltb 0 (count (eq z) ys)) refl
  where
    agree : A → Bool
    agree z = eqb (count (eq z) xs) (count (eq z) ys)

    in_both : {zs : List A} → All (λ x. agree x ≡ true) zs → All (λ x. count (eq x) xs ≡ count (eq x) ys) zs
    in_both r = all-imp (λ x e. eqb-true (count (eq x) xs) (count (eq x) ys) e) r

    p : (all_of agree xs ≡ true) × (all_of agree ys ≡ true)
    p = parts (all_of agree xs) (all_of agree ys) h

    go : (t : Bool) → ltb 0 (count (eq z) xs) ≡ t → (u : Bool) → ltb 0 (count (eq z) ys) ≡ u → count (eq z) xs ≡ count (eq z) ys
    go true e u d = counted q z (in_both (test-all agree xs p.0)) (ltb-true 0 (count (eq z) xs) e)
    go false e true d = counted q z (in_both (test-all agree ys p.1)) (ltb-true 0 (count (eq z) ys) d)
    go false e false d = omega (arith, ltb-false 0 (count (eq z) xs) e, ltb-false 0 (count (eq z) ys) d)
