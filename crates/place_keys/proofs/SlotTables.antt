-- The slots of a table: how many, the one at an index, and that its bucket is among those needed.
use mathlib.Core.Path.{◌≡◌, refl, sym, ap, ◌∙◌}
use mathlib.Core.Bool.{Bool, true, false, cond}
use mathlib.Core.List.{List, [], ◌∷◌, map}
use Prim.Native.Nat.{ℕ, zero, suc, ◌+◌, ◌≤◌, ◌<◌}
use native.Mathlib.Omega.{arith}
use lib.Dec.{leb}
use lib.ListN.{length, get_or, drop, length-map, get_or-map}
use Rattle.wire.proofs.OutputLaws.{drop-next}
use Rattle.calls.specs.CallList.{CallList}
use Rattle.calls.specs.Pieces as layouts
use Rattle.calls.specs.Pieces.{next_fit, buckets_needed}
use Rattle.calls.specs.Place.{slots_of}
use Rattle.next_fit.specs.Fit.{slot_in, slots_in}
use Rattle.next_fit.specs.declared.slot.Slot.{Slot}

-- ---- next fit gives each piece a slot, in a bucket that is needed
fit_length : (B i u : ℕ) (zs : List ℕ) → length (next_fit B i u zs) ≡ length zs
unfolding next_fit
fit_length B i u [] = refl
fit_length B i u (z ∷ zs) = let f = leb (u + z) B in ap suc (fit_length B (cond f i (suc i)) (cond f u 0 + z) zs)

needs-first : (B i u v : ℕ) (zs : List ℕ) → i < buckets_needed (record { index = i; offset = v } ∷ next_fit B i u zs)
unfolding next_fit buckets_needed
needs-first B i u v [] = omega arith
needs-first B i u v (z ∷ zs) = go (leb (u + z) B) (λ j w x. needs-first B j w x zs)
  where
    go : (t : Bool) → ((j w x : ℕ) → j < buckets_needed (record { index = j; offset = x } ∷ next_fit B j w zs))
        → i < buckets_needed (record { index = cond t i (suc i); offset = cond t u 0 } ∷ next_fit B (cond t i (suc i)) (cond t u 0 + z) zs)
    go true ih = ih i (u + z) u
    go false ih = omega (arith, ih (suc i) (0 + z) 0)

needs-after : (t : layouts.Slot) (ts : List layouts.Slot) → buckets_needed ts ≤ buckets_needed (t ∷ ts)
unfolding buckets_needed
needs-after t [] = omega arith
needs-after t (x ∷ ts) = omega arith

index-needed : (B i u : ℕ) (zs : List ℕ) (k : ℕ) (t : layouts.Slot) (ts : List layouts.Slot) → drop k (next_fit B i u zs) ≡ t ∷ ts → t.index < buckets_needed (next_fit B i u zs)
unfolding next_fit
index-needed B i u [] zero t ts e = absurd (omega (arith, ap length e))
index-needed B i u [] (suc k) t ts e = absurd (omega (arith, ap length e))
index-needed B i u (z ∷ zs) zero t ts e =
    let f = leb (u + z) B in
    let h : ◌≡◌ {A = layouts.Slot} (record { index = cond f i (suc i); offset = cond f u 0 }) t = cc in
    omega (arith, ap (λ (x : layouts.Slot). x.index) h, needs-first B (cond f i (suc i)) (cond f u 0 + z) (cond f u 0) zs)
index-needed B i u (z ∷ zs) (suc k) t ts e =
    let f = leb (u + z) B in
    let r = next_fit B (cond f i (suc i)) (cond f u 0 + z) zs in
    omega (arith, index-needed B (cond f i (suc i)) (cond f u 0 + z) zs k t ts e, needs-after (record { index = cond f i (suc i); offset = cond f u 0 }) r)

-- ---- the table
-- a slot that no piece has
abbrev pub no_slot : Slot
no_slot = record { index = 0; offset = 0 }

module _ (c : CallList) (ts : List Slot) (e : slots_in ts ≡ slots_of c) where
  -- as many as pieces
  pub slots_length : length ts ≡ length c.pieces
  unfolding slots_in slots_of
  slots_length =
      sym (length-map ts slot_in) ∙ ap length e
      ∙ fit_length c.volume.head.bucket_sectors 0 0 (map (λ p. p.stored) c.pieces)
      ∙ length-map c.pieces (λ p. p.stored)

  -- the slot at an index, and those after it
  pub slots_next : (i : ℕ) → i < length ts → drop i (slots_of c) ≡ slot_in (get_or ts i no_slot) ∷ drop (i + 1) (slots_of c)
  unfolding slots_in
  slots_next i h =
      rw (← e)
      (drop-next (slot_in no_slot) (map slot_in ts) i (omega (arith, length-map ts slot_in))
      ∙ ap (λ (t : layouts.Slot). t ∷ drop (i + 1) (map slot_in ts)) (get_or-map slot_in ts i no_slot))

  -- its bucket is among those needed
  pub slot-needed : (i : ℕ) → i < length ts → (get_or ts i no_slot).index < buckets_needed (slots_of c)
  unfolding slots_of
  slot-needed i h =
      index-needed c.volume.head.bucket_sectors 0 0 (map (λ p. p.stored) c.pieces) i (slot_in (get_or ts i no_slot)) (drop (i + 1) (slots_of c)) (slots_next i h)
