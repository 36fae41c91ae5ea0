-- What choosing answers, at each of its ends.
use mathlib.Core.Path.{◌≡◌, ap, sym, ◌∙◌}
use mathlib.Core.Bool.{Bool}
use mathlib.Core.List.{List, []}
use Prim.Native.Nat.{ℕ}
use native.Mathlib.Omega.{arith}
use lib.Dec.{leb}
use lib.ListN.{take}
use lib.Seq.{take-take}
use Rattle.wire.specs.Keys.{Key}
use Rattle.wire.specs.declared.kinds.Bucket.{Bucket}
use Rattle.calls.specs.Answers.{read_call, read_volume}
use Rattle.calls.specs.Freespace as freespace
use Rattle.calls.specs.Freespace.{is_in, is_used, runs_of, free_count, wanted, walk}
use Rattle.calls.specs.Pieces.{buckets_needed}
use Rattle.calls.specs.Place.{slots_of, walk_of, place_tests}
use Rattle.calls.specs.Refusals.{verdict}
use Rattle.reader.specs.Heads.{head_in}
use Rattle.reader.specs.declared.head.Head.{Head}
use Rattle.reader.specs.Refusals.{number_of}
use Rattle.reader.specs.declared.refusal.Refusal.{Refusal}
use Rattle.std.specs.Prelude.{Result, Err}
use Rattle.place_tests.specs.Choice.{ChosenIs, ChoiceIs}
use Rattle.freespace.specs.Walks.{unwalked, WalkIs, WalkTook}
use Rattle.freespace.specs.declared.take.Walked.{Walked}
use Rattle.next_fit.specs.declared.slot.Slot.{Slot}
use Rattle.place_tests.proofs.RefusalLaws.{enough}

-- a refusal
pub chosen-stopped : {s : List ℕ} (e : Refusal) → number_of e ≡ verdict (place_tests (read_call s)) → ChosenIs s (Err e)
chosen-stopped e v = record { refusal = v; chosen = tt }

pub choice-stopped : {s : List ℕ} {before after : List Bucket} {slots : List Slot} (e : Refusal) → number_of e ≡ verdict (place_tests (read_call s))
    → ChoiceIs s before after slots (Err e)
choice-stopped e v = record { refusal = v; chosen = tt }

module _ (s : List ℕ) {n : ℕ} (e : n ≡ buckets_needed (slots_of (read_call s))) where
  -- refusal 11's test
  pub enough-is : (h : Head) {r : Bool} → head_in h ≡ (read_volume s).head
      → r ≡ leb (wanted n h.reserve) (free_count (is_in (read_volume s).reserved) (runs_of (read_volume s).trees.freespace)) → enough (read_call s) ≡ r
  enough-is h f g = sym (g ∙ rw (e, ← f))

  -- the walk decides
  abbrev walked : ℕ → freespace.Walked
  walked m = walk (is_in (read_volume s).reserved) (is_used (read_volume s).trees.alloc) m (runs_of (read_volume s).trees.freespace)

  walk_is : walked n ≡ walk_of (read_call s)
  unfolding walk_of
  walk_is = ap walked e

  pub chosen-walk : {before after : List Bucket} {r : Result Walked Refusal} → WalkIs n (λ w. take w.passed (read_volume s).trees.freespace) (walked n) unwalked before after r
      → WalkIs (buckets_needed (slots_of (read_call s))) (λ x. take x.passed (read_volume s).trees.freespace) (walk_of (read_call s)) unwalked before after r
  chosen-walk w = rw (← e, ← walk_is) w

-- the walk from no bucket on, by the front of the table that it fills
pub took-front : {n : ℕ} {ks : List Key} {w : freespace.Walked} {before after : List Bucket} {r : Walked} → WalkTook n ks w unwalked before after r
    → WalkTook n ks w unwalked [] (take r.count after) r
took-front {after = after} {r = r} t = record { taken = take-take r.count r.count after (omega arith) ∙ t.taken; count = t.count; passed = t.passed; queue = t.queue; short = t.short }
