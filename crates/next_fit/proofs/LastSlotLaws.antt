-- How many buckets pieces need, by the last of their slots.
use mathlib.Core.Path.{◌≡◌, refl, ap, sym, ◌∙◌}
use mathlib.Core.List.{List, [], ◌∷◌}
use Prim.Native.Nat.{ℕ, zero, suc, ◌+◌, ◌-◌}
use native.Mathlib.Omega.{arith}
use lib.ListN.{length, get_or}
use denote.Ref.{Bor}
use Rattle.std.specs.Prelude.{Option, Some, None}
use Rattle.std.specs.Option.{option_map}
use Rattle.std.specs.List.{slice_get}
use Rattle.std.proofs.lemmas.Option.{get_or_from_slice_get, slice_get-get_or}
use Rattle.calls.specs.Pieces.{buckets_needed}
use Rattle.next_fit.specs.Fit.{slots_in}
use Rattle.next_fit.specs.declared.slot.Slot.{Slot}

needed-at : (ts : List Slot) (k : ℕ) (t d : Slot) → k + 1 ≡ length ts → get_or ts k d ≡ t → buckets_needed (slots_in ts) ≡ t.index + 1
unfolding buckets_needed slots_in
needed-at [] k t d n e = absurd (omega arith)
needed-at (x ∷ []) zero t d n e = omega (arith, ap (λ (s : Slot). s.index) e)
needed-at (x ∷ []) (suc k) t d n e = absurd (omega arith)
needed-at (x ∷ y ∷ ts) zero t d n e = absurd (omega arith)
needed-at (x ∷ y ∷ ts) (suc k) t d n e = needed-at (y ∷ ts) k t d (omega arith) e

needed-last : (ts : List Slot) (t : Slot) → Some t ≡ slice_get ts (length ts - 1) → t.index + 1 ≡ buckets_needed (slots_in ts)
needed-last [] t e = absurd cc
needed-last (x ∷ ts) t e = sym (needed-at (x ∷ ts) (length (x ∷ ts) - 1) t t (omega arith) (get_or_from_slice_get (x ∷ ts) (length (x ∷ ts) - 1) t t (sym e)))

needed_none : (ts : List Slot) → None ≡ slice_get ts (length ts - 1) → 0 ≡ buckets_needed (slots_in ts)
unfolding buckets_needed slots_in
needed_none [] e = refl
needed_none (x ∷ ts) e = let f = slice_get-get_or (x ∷ ts) (length (x ∷ ts) - 1) x (omega arith) in absurd cc

-- one more than the index of the last slot, or 0 where there is none
pub needed :
    (ts : List Slot) (o : Option (Bor Slot)) (r : ℕ) → option_map (λ x. x.now) o ≡ slice_get ts (length ts - 1) → (o ≡ None → r ≡ 0)
    → ((s : Bor Slot) → o ≡ Some s → r ≡ s.now.index + 1)
    → r ≡ buckets_needed (slots_in ts)
needed ts None r e f g = f refl ∙ needed_none ts e
needed ts (Some s) r e f g = g s refl ∙ needed-last ts s.now e
