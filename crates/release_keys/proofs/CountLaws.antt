-- Sums over released pieces.
use mathlib.Core.Path.{◌≡◌, refl, ◌∙◌}
use mathlib.Core.Bool.{true}
use mathlib.Core.List.{List, [], ◌∷◌}
use Prim.Native.Nat.{ℕ, ◌+◌, ◌*◌, ◌≤◌}
use native.Mathlib.Omega.{arith}
use lib.ListN.{length}
use Rattle.std.specs.List.{fold, sum_by}
use Rattle.calls.specs.CallList.{Freed}
use Rattle.calls.specs.Lists.{all_of, total}
use Rattle.calls.specs.Release.{freed_ok}
use Rattle.release_sums.proofs.FreedLaws.{first-within, rest-ok}

-- the sum that an iterator gives
fold-total : {A : Type 0} (f : A → ℕ) (n : ℕ) (l : List A) → fold (λ a x. a + f x) n l ≡ n + total f l
unfolding total
fold-total f n [] = omega arith
fold-total f n (x ∷ l) = fold-total f (n + f x) l ∙ omega arith

pub sum-total : {A : Type 0} (f : A → ℕ) (l : List A) → sum_by f l ≡ total f l
sum-total f l = fold-total f 0 l ∙ omega arith

-- at most 128 for each piece that refusal 14 passed
pub total-most : (sectors : ℕ) (rs : List Freed) → all_of (freed_ok sectors) rs ≡ true → total (λ x. x.sectors) rs ≤ 128 * length rs
unfolding total
total-most sectors [] h = omega arith
total-most sectors (r ∷ rs) h = omega (arith, (first-within sectors h refl).few, total-most sectors rs (rest-ok sectors h refl))
