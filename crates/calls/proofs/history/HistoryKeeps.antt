-- What each applied call keeps of a volume and its live pieces, every history keeps.
use mathlib.Core.Path.{◌≡◌, refl, sym, ap, ◌∙◌}
use mathlib.Core.Bool.{Bool, true, false, ◌&&◌, cond}
use mathlib.Core.List.{List, [], ◌∷◌, ◌++◌, flat_map, append-nil}
use mathlib.Core.Option.{some}
use Prim.Native.Nat.{ℕ}
use lib.Dec.{eqb}
use borrow.Author.Tests.{eqb-true}
use Rattle.wire.specs.Bytes.{All, none as nothing, more, Bytes}
use Rattle.calls.specs.CallList.{Volume, trees_ok, none_twice, volume_bytes}
use Rattle.calls.specs.ChangeList.{Batch, change_bytes}
use Rattle.calls.specs.Refusals.{verdict}
use Rattle.calls.specs.Place.{place_tests, place_batch, placed_of, walk_of}
use Rattle.calls.specs.Release.{release_tests, release_batch}
use Rattle.calls.specs.Discard.{discard_batches}
use Rattle.calls.specs.Apply.{apply_batch, apply_batches}
use Rattle.calls.specs.Answers.{Answer, read_call, read_volume, next_volume}
use Rattle.calls.specs.History.{Live, State, Call, placing, releasing, discarding, Step, answer_to, answer_by, without_requests, applied_to, placed_pieces, take_all, live_by, advance, after, Allowed, History}
use Rattle.calls.proofs.answers.AnswerLaws.{Placement, placement, Released, released as release-answered, Discarded, discarded, applied}
use Rattle.calls.proofs.encoding.ApplyLaws.{apply-fits}
use Rattle.calls.proofs.history.CarriedLaws.{same-trees, same-reserved}
use Rattle.calls.proofs.encoding.ChangeTrip.{BatchFits, BatchOk, changes-back}
use Rattle.calls.proofs.discard.DiscardFits.{discard-fits}
use Rattle.calls.proofs.place.PlaceFits.{place-fits}
use Rattle.calls.proofs.place.PlaceLaws.{new_pieces, placed_volume, placed-spots}
use Rattle.calls.proofs.release.ReleaseFits.{release-fits}
use Rattle.calls.proofs.release.ReleaseLaws.{released}
use Rattle.calls.proofs.encoding.VolumeTrip.{ListLaid, call-laid, laid-fits, laid-ok, without-read, read_back}

-- what a call finds: bytes whose trees are laid out right
pub record Read (s : List ℕ) : Type 0 where
  pub bytes : Bytes s
  pub trees : trees_ok (read_volume s).trees ≡ true

-- kept where field 1 differs but for the sectors of a bucket, and by each applied call
pub record Keeps (P : Volume → List Live → Type 0) : Type 0 where
  pub same : (v w : Volume) (live : List Live) → w.trees ≡ v.trees → w.reserved ≡ v.reserved
      → w.head.bucket_sectors ≡ v.head.bucket_sectors → P v live → P w live
  pub place : (s : List ℕ) (live : List Live) → Read s → verdict (place_tests (read_call s)) ≡ 0 → P (read_volume s) live
      → P (placed_volume (read_call s)) (live ++ new_pieces (read_call s))
  pub release : (s : List ℕ) (live left : List Live) → Read s → verdict (release_tests (read_volume s) (read_call s).releases) ≡ 0
      → take_all (read_call s).releases live ≡ some left → P (read_volume s) live → P (released (read_volume s) (read_call s).releases) left
  pub discard : (s : List ℕ) (live : List Live) → Read s → P (read_volume s) live
      → P (apply_batches (discard_batches (read_volume s)) (read_volume s)) live

-- ---- what apply writes
-- its volume reads as the batches make it
batched : (s written volume : List ℕ) (bs : List Batch) → ListLaid s → none_twice (read_volume s) ≡ true → All BatchFits bs → All BatchOk bs → written ≡ change_bytes bs
    → volume ≡ volume_bytes (next_volume (without_requests s) written) → read_volume volume ≡ apply_batches bs (read_volume s)
batched s written volume bs l n f o w v =
    let m : next_volume (without_requests s) written ≡ apply_batches bs (read_volume s) = rw (w, changes-back f, without-read l) in
    let h = apply-fits f o (laid-fits l) (laid-ok l n) in
    let e : volume ≡ volume_bytes (apply_batches bs (read_volume s)) = v ∙ ap volume_bytes m in
    rw e (read_back h.0 h.1)

one_batch : (b : Batch) (v : Volume) → apply_batches (b ∷ []) v ≡ apply_batch b v
unfolding apply_batches
one_batch b v = refl

-- of an accepted placement, as the placement makes it
pub placed-read : (s : List ℕ) (a : Answer) (volume : List ℕ) → Bytes s → Placement s a → volume ≡ volume_bytes (next_volume (without_requests s) a.written)
    → read_volume volume ≡ placed_volume (read_call s)
placed-read s a volume r p v =
    let c = read_call s in
    let f = place-fits r p.laid_out p.once p.within p.tests-held in
    let b = place_batch (read_volume s) (placed_of c) (walk_of c) in
    batched s a.written volume (b ∷ []) (call-laid 1 r p.laid_out) p.once (more f.0 nothing) (more f.1 nothing) p.written v
    ∙ one_batch b (read_volume s)

read-laid : {s : List ℕ} → ListLaid s → none_twice (read_volume s) ≡ true → Read s
read-laid l n = record { bytes = l.bytes; trees = (laid-ok l n).trees }

-- the pieces of an accepted placement's answer are those that it placed
pieces-read : (s : List ℕ) (a : Answer) → Bytes s → Placement s a → placed_pieces a.written (read_call s).pieces ≡ new_pieces (read_call s)
unfolding placed_pieces place_batch flat_map
pieces-read s a r p =
    let f = place-fits r p.laid_out p.once p.within p.tests-held in
    rw (p.written, changes-back (more f.0 nothing), append-nil) (placed-spots (read_call s))

-- the answer to a step, by its call
answer-by : (s : Step) (c : Call) → s.call ≡ c → answer_to s ≡ answer_by c s
unfolding answer_to
answer-by s c e = ap (λ (d : Call). answer_by d s) e

-- what an accepted apply of a step wrote
next-bytes : (s : Step) → (applied_to s).number ≡ 0 → (applied_to s).written ≡ volume_bytes (next_volume (without_requests s.list) (answer_to s).written)
unfolding applied_to
next-bytes s h = applied (without_requests s.list) (answer_to s).written s.apply_room h

-- ---- a history
module _ {P : Volume → List Live → Type 0} (keeps : Keeps P) where
  abbrev Has : State → Type 0
  Has st = P (read_volume st.volume) st.live

  after-place : (s : List ℕ) (live : List Live) (a : Answer) (volume : List ℕ) → Bytes s → Placement s a → P (read_volume s) live
      → volume ≡ volume_bytes (next_volume (without_requests s) a.written)
      → P (read_volume volume) (live ++ placed_pieces a.written (read_call s).pieces)
  after-place s live a volume r p h v =
      let l = call-laid 1 r p.laid_out in
      rw (placed-read s a volume r p v, pieces-read s a r p) (keeps.place s live (read-laid l p.once) p.tests-held h)

  after-release : (s : List ℕ) (live left : List Live) (a : Answer) (volume : List ℕ) → Bytes s → Released s a
      → take_all (read_call s).releases live ≡ some left → P (read_volume s) live
      → volume ≡ volume_bytes (next_volume (without_requests s) a.written) → P (read_volume volume) left
  after-release s live left a volume r p named h v =
      let f = release-fits r p.laid_out p.once p.within p.tests-held in
      let b = release_batch (read_volume s) (read_call s).releases in
      let l = call-laid 2 r p.laid_out in
      let t = batched s a.written volume (b ∷ []) l p.once (more f.0 nothing) (more f.1 nothing) p.written v in
      rw (t, one_batch) (keeps.release s live left (read-laid l p.once) p.tests-held named h)

  after-discard : (s : List ℕ) (live : List Live) (a : Answer) (volume : List ℕ) → Bytes s → Discarded s a → P (read_volume s) live
      → volume ≡ volume_bytes (next_volume (without_requests s) a.written) → P (read_volume volume) live
  after-discard s live a volume r p h v =
      let f = discard-fits r p.laid_out p.once p.within in
      let l = call-laid 3 r p.laid_out in
      let t = batched s a.written volume (discard_batches (read_volume s)) l p.once f.0 f.1 p.written v in
      rw t (keeps.discard s live (read-laid l p.once) h)

  -- the state's facts, of a step's list that has no position twice
  pub found : (st : State) (s : Step) → Has st → Allowed st s → none_twice (read_volume s.list) ≡ true → P (read_volume s.list) st.live
  found st s k a n =
      keeps.same (read_volume st.volume) (read_volume s.list) st.live (same-trees s.list st.volume a.same n)
      (same-reserved s.list st.volume a.same n) a.sectors k

  -- a step, by its call
  keeps-call : (st : State) (s : Step) → Has st → Allowed st s → (c : Call) → s.call ≡ c → (answer_to s).number ≡ 0 → (applied_to s).number ≡ 0
      → Has (record { volume = (applied_to s).written; live = live_by c s st.live })
  keeps-call st s k a placing e n m =
      let w = answer-by s placing e in
      let p = placement s.list s.room (ap (λ (x : Answer). x.number) (sym w) ∙ n) in
      after-place s.list st.live (answer_to s) (applied_to s).written a.bytes (rw w p) (found st s k a p.once) (next-bytes s m)
  keeps-call st s k a releasing e n m =
      let w = answer-by s releasing e in
      let p = release-answered s.list s.scratch s.room (ap (λ (x : Answer). x.number) (sym w) ∙ n) in
      let l = a.named e n in
      rw l.1
      (after-release s.list st.live l.0 (answer_to s) (applied_to s).written a.bytes (rw w p) l.1 (found st s k a p.once) (next-bytes s m))
  keeps-call st s k a discarding e n m =
      let w = answer-by s discarding e in
      let p = discarded s.list s.room (ap (λ (x : Answer). x.number) (sym w) ∙ n) in
      after-discard s.list st.live (answer_to s) (applied_to s).written a.bytes (rw w p) (found st s k a p.once) (next-bytes s m)

  keeps-step : (st : State) (s : Step) → Has st → Allowed st s → Has (advance st s)
  unfolding advance
  keeps-step st s k a = go (eqb (answer_to s).number 0) refl (eqb (applied_to s).number 0) refl
    where
      go : (t : Bool) → eqb (answer_to s).number 0 ≡ t → (u : Bool) → eqb (applied_to s).number 0 ≡ u
          → Has (cond (t && u) (record { volume = (applied_to s).written; live = live_by s.call s st.live }) st)
      go true e true d = keeps-call st s k a s.call refl (eqb-true _ _ e) (eqb-true _ _ d)
      go true e false d = k
      go false e u d = k

  pub history-keeps : (ss : List Step) (st : State) → P (read_volume st.volume) st.live → History st ss
      → P (read_volume (after st ss).volume) (after st ss).live
  unfolding after
  history-keeps [] st k h = k
  history-keeps (s ∷ ss) st k h = history-keeps ss (advance st s) (keeps-step st s k h.0) h.1
