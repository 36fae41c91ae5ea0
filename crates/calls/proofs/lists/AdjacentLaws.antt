-- What a slice's `is_sorted_by` answers, beside `in_order`.
use mathlib.Core.Path.{◌≡◌, refl, sym}
use mathlib.Core.Bool.{Bool, true, false, and-false}
use mathlib.Core.List.{List, [], ◌∷◌}
use Prim.Native.Nat.{ℕ, zero, suc, ◌+◌, ◌<◌}
use native.Mathlib.Omega.{arith}
use lib.ListN.{length, get_or}
use Rattle.std.specs.List.{IsAllAdjacentAnswer}
use Rattle.calls.specs.Lists.{in_order}

module _ {A : Type 0} (R : A → A → Bool) where
  adjacent-all : (l : List A) → ((k : ℕ) (d : A) → k + 1 < length l → true ≡ R (get_or l k d) (get_or l (k + 1) d)) → true ≡ in_order R l
  unfolding in_order
  adjacent-all [] h = refl
  adjacent-all (x ∷ []) h = refl
  adjacent-all (x ∷ y ∷ l) h =
      rw (← h 0 x (omega arith)) (adjacent-all (y ∷ l) (λ k d m. let e : suc k + 1 ≡ suc (k + 1) = omega arith in rw e at (h (suc k) d (omega arith))))

  adjacent-some : (l : List A) (k : ℕ) → k + 1 < length l → ((d : A) → false ≡ R (get_or l k d) (get_or l (k + 1) d)) → false ≡ in_order R l
  unfolding in_order
  adjacent-some [] k h f = absurd (omega arith)
  adjacent-some (x ∷ []) k h f = absurd (omega arith)
  adjacent-some (x ∷ y ∷ l) zero h f = rw (← f x) refl
  adjacent-some (x ∷ y ∷ l) (suc k) h f =
      let e : suc k + 1 ≡ suc (k + 1) = omega arith in
      rw (← adjacent-some (y ∷ l) k (omega arith) (λ d. rw e at (f d))) (sym (and-false (R x y)))

  pub adjacent-order : (l : List A) (r : Bool) → IsAllAdjacentAnswer (λ x y b. b ≡ R x y) l r → r ≡ in_order R l
  adjacent-order l true h = adjacent-all l h
  adjacent-order l false h = adjacent-some l h.0 h.1 h.2
