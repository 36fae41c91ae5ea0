-- What an accepted call writes is laid out right, and is read back as the batches, or the volume, of the definition.
use Prim.Native.Nat.{ℕ, ◌≤◌}
use mathlib.Core.Path.{◌≡◌, sym, ap, ◌∙◌}
use mathlib.Core.Bool.{true, ◌&&◌}
use mathlib.Core.List.{List, [], ◌∷◌}
use native.Mathlib.Omega.{arith}
use lib.Dec.{leb}
use lib.ListN.{length}
use borrow.Author.Tests.{leb-true}
use Rattle.wire.specs.Bytes.{All, none, more, Bytes}
use Rattle.calls.specs.CallList.{volume_laid_out, none_twice}
use Rattle.calls.specs.ChangeList.{Batch, change_bytes, change_laid_out, changes_of}
use Rattle.calls.specs.Place.{place_batch, placed_of, walk_of}
use Rattle.calls.specs.Release.{release_batch}
use Rattle.calls.specs.Discard.{discard_batches}
use Rattle.calls.specs.Answers.{Answer, answer, read_call, read_volume, next_volume, place, release, discard, apply}
use Rattle.calls.proofs.answers.AnswerLaws.{accepted, place_is, release-is, discard-is, apply-is, placement, released, discarded, applied}
use Rattle.calls.proofs.encoding.ApplyLaws.{apply-fits}
use Rattle.calls.proofs.lists.BoolLaws.{parts}
use Rattle.calls.proofs.encoding.ChangeTrip.{BatchFits, BatchOk, changes-back, bytes-change, change-laid-out, change-fits}
use Rattle.calls.proofs.discard.DiscardFits.{discard-fits}
use Rattle.calls.proofs.place.PlaceFits.{place-fits}
use Rattle.calls.proofs.answers.RefusalLaws.{verdict-ok, verdict-last, test-ok}
use Rattle.calls.proofs.release.ReleaseFits.{release-fits}
use Rattle.calls.proofs.encoding.VolumeTrip.{volume-fits, read_back, volume-laid-out, volume-once}

-- a change list of batches, in an output of so many bytes
pub record Written (a : Answer) (bs : List Batch) (room : ℕ) : Type 0 where
  pub bytes : Bytes a.written
  pub laid_out : change_laid_out a.written ≡ true
  pub fits : length a.written ≤ room
  pub back : changes_of a.written ≡ bs

room-enough : (tests bytes : List ℕ) (room : ℕ) → (answer tests bytes room).number ≡ 0 → length (answer tests bytes room).written ≤ room
unfolding answer
room-enough tests bytes room h =
    let e = test-ok 21 (leb (length bytes) room) (omega arith) (verdict-last tests _ h) in
    omega (arith, ap length (accepted tests bytes room h).written, leb-true (length bytes) room e)

number_of : {a b : Answer} → a ≡ b → a.number ≡ 0 → b.number ≡ 0
number_of e h = ap (λ (x : Answer). x.number) (sym e) ∙ h

written-by : {a : Answer} {bs : List Batch} (room : ℕ) → a.written ≡ change_bytes bs → All BatchFits bs → All BatchOk bs
    → length a.written ≤ room → Written a bs room
written-by room e f o l =
    record { bytes = rw e (bytes-change f); laid_out = rw e (change-laid-out f o); fits = l; back = rw e (changes-back f) }

module _ (s : List ℕ) (r : Bytes s) (room : ℕ) where
  pub place-written : (place s room).number ≡ 0
      → Written (place s room) (place_batch (read_volume s) (placed_of (read_call s)) (walk_of (read_call s)) ∷ []) room
  place-written h =
      let p = placement s room h in
      let f = place-fits r p.laid_out p.once p.within p.tests-held in
      let e = place_is s room in
      written-by room p.written (more f.0 none) (more f.1 none) (rw e (room-enough _ _ room (number_of e h)))

  pub release-written : (scratch : ℕ) → (release s scratch room).number ≡ 0
      → Written (release s scratch room) (release_batch (read_volume s) (read_call s).releases ∷ []) room
  release-written scratch h =
      let p = released s scratch room h in
      let f = release-fits r p.laid_out p.once p.within p.tests-held in
      let e = release-is s scratch room in
      written-by room p.written (more f.0 none) (more f.1 none) (rw e (room-enough _ _ room (number_of e h)))

  pub discard-written : (discard s room).number ≡ 0 → Written (discard s room) (discard_batches (read_volume s)) room
  discard-written h =
      let p = discarded s room h in
      let f = discard-fits r p.laid_out p.once p.within in
      let e = discard-is s room in
      written-by room p.written f.0 f.1 (rw e (room-enough _ _ room (number_of e h)))

-- apply's is a volume, in which no position stands twice
pub apply-written : (s change : List ℕ) (room : ℕ) → Bytes s → Bytes change → (apply s change room).number ≡ 0
    → (volume_laid_out (apply s change room).written ≡ true) × (none_twice (read_volume (apply s change room).written) ≡ true)
    × (read_volume (apply s change room).written ≡ next_volume s change)
apply-written s change room r q h =
    let a = accepted _ _ room (number_of (apply-is s change room) h) in
    let two = verdict-ok _ _ a.tests-held in
    let once = verdict-ok _ _ two.1 in
    let p = parts (volume_laid_out s) (change_laid_out change) (test-ok 2 (volume_laid_out s && change_laid_out change) (omega arith) two.0) in
    let v = volume-fits r p.0 (test-ok 22 (none_twice (read_volume s)) (omega arith) once.0) in
    let c = change-fits q p.1 in
    let f = apply-fits c.0 c.1 v.0 v.1 in
    rw (applied s change room h) (volume-laid-out f.0 f.1, volume-once f.0 f.1, read_back f.0 f.1)
