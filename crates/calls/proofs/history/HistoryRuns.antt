-- In every history from a clean volume the freespace runs are disjoint and begin at bucket 0 or later.
use mathlib.Core.Path.{◌≡◌, refl}
use mathlib.Core.Bool.{Bool, true, false, not, ◌&&◌, cond}
use mathlib.Core.List.{List, [], ◌∷◌}
use Prim.Native.Nat.{ℕ, zero, suc, ◌+◌, ◌-◌, ◌≤◌}
use native.Mathlib.Omega.{arith}
use lib.Dec.{ltb, eqb}
use lib.ListN.{length}
use borrow.Author.Tests.{lt-ltb, le-ltb, ltb-true, ltb-false, le-leb, not-true}
use Rattle.wire.specs.Keys.{Key}
use Rattle.wire.specs.Kinds.{bucket_below, began_before}
use Rattle.wire.specs.declared.kinds.Bucket.{Bucket}
use Rattle.wire.specs.Bytes.{All, none, more}
use Rattle.calls.specs.Lists.{all_of, any_of, those, total, one}
use Rattle.calls.specs.CallList.{Trees, Volume}
use Rattle.calls.specs.Limits.{is_run}
use Rattle.calls.specs.Trees.{apply_queue, deletion}
use Rattle.calls.specs.Freespace.{is_in, runs_of, start_of, end_of, buckets_of, overlap, overlaps, is_used, pass, shortened, walk}
use Rattle.calls.specs.Pieces.{buckets_needed}
use Rattle.calls.specs.Place.{slots_of, walk_of, place_batch}
use Rattle.calls.specs.Release.{release_batch}
use Rattle.calls.specs.Discard.{run_key, discard_batch}
use Rattle.calls.specs.Apply.{apply_trees, apply_batch}
use Rattle.calls.specs.Answers.{read_call, read_volume}
use Rattle.calls.specs.History.{Clean, Live, Step, after, History, start}
use Rattle.calls.proofs.lists.AllLaws.{all-imp, all_map, all-test, test-all, all-those}
use Rattle.calls.proofs.encoding.ApplyLaws.{all-apply_queue}
use Rattle.calls.proofs.lists.BoolLaws.{parts}
use Rattle.calls.proofs.freespace.CoverLaws.{length_from, cover-once}
use Rattle.calls.proofs.history.Demand3.{offered_by, ClaimKept, keeps-demand, kept-clean}
use Rattle.calls.proofs.discard.DiscardLaws.{buckets_at, Due, VolumeSound, discarding, batch-sound, discard-keeps, after-all}
use Rattle.calls.proofs.discard.DiscardPhases.{Discarding, wait-cover}
use Rattle.calls.proofs.history.HistoryKeeps.{Keeps, history-keeps}
use Rattle.calls.proofs.freespace.JoinLaws.{joined}
use Rattle.calls.proofs.place.ReadFits.{gens-small, sectors-small}
use Rattle.calls.proofs.place.PlaceLaws.{run_keys, place-placing}
use Rattle.calls.proofs.trees.SixTrees.{trees-order}
use Rattle.calls.proofs.trees.SortedLaws.{Sorted}
use Rattle.calls.proofs.history.View.{bucket, covers, cover_of, view}

-- ---- runs that cover no bucket twice do not overlap
-- two runs that overlap have a bucket in common
record Shared (k j : Key) : Type 0 where
  at : ℕ
  one : covers at k ≡ 1
  other : covers at j ≡ 1

covers_at : (b : ℕ) (k : Key) → is_run k ≡ true → (start_of k).0 ≤ b → suc b ≤ (end_of k).0 → covers b k ≡ 1
covers_at b k r l u = rw (r, le-leb (start_of k).0 b l, lt-ltb b (end_of k).0 u)

shared : (k j : Key) → is_run k ≡ true → is_run j ≡ true → overlap k j ≡ true → Shared k j
unfolding overlap
shared k j r q o =
    let a = parts (bucket_below (start_of k) (end_of k)) _ o in
    let b = parts (bucket_below (start_of j) (end_of j)) _ a.1 in
    let c = parts (bucket_below (start_of k) (end_of j)) (bucket_below (start_of j) (end_of k)) b.1 in
    go (ltb-true _ _ a.0) (ltb-true _ _ b.0) (ltb-true _ _ c.0) (ltb-true _ _ c.1) (ltb (start_of k).0 (start_of j).0) refl
  where
    go : suc (start_of k).0 ≤ (end_of k).0 → suc (start_of j).0 ≤ (end_of j).0 → suc (start_of k).0 ≤ (end_of j).0 → suc (start_of j).0 ≤ (end_of k).0
        → (t : Bool) → ltb (start_of k).0 (start_of j).0 ≡ t → Shared k j
    go a b c d true e =
        let l = ltb-true (start_of k).0 (start_of j).0 e in
        record { at = (start_of j).0; one = covers_at (start_of j).0 k r (omega arith) d; other = covers_at (start_of j).0 j q (omega arith) b }
    go a b c d false e =
        let l = ltb-false (start_of k).0 (start_of j).0 e in
        record { at = (start_of k).0; one = covers_at (start_of k).0 k r (omega arith) a; other = covers_at (start_of k).0 j q (omega arith) c }

none-meets : (k : Key) → is_run k ≡ true → (l : List Key) → ((b : ℕ) → covers b k + cover_of l b ≤ 1) → any_of (overlap k) (runs_of l) ≡ false
unfolding any_of runs_of those total
none-meets k r [] h = refl
none-meets k r (j ∷ js) h = go (is_run j) refl (overlap k j) refl (none-meets k r js (λ b. omega (arith, h b)))
  where
    go : (t : Bool) → is_run j ≡ t → (u : Bool) → overlap k j ≡ u → any_of (overlap k) (those is_run js) ≡ false
        → any_of (overlap k) (cond t (j ∷ those is_run js) (those is_run js)) ≡ false
    go true q true o ih = let s = shared k j r q o in absurd (omega (arith, h s.at, s.one, s.other))
    go true q false o ih = rw (o, ih)
    go false q u o ih = ih

pub once-disjoint : (l : List Key) → ((b : ℕ) → cover_of l b ≤ 1) → overlaps (runs_of l) ≡ false
unfolding overlaps runs_of those total
once-disjoint [] h = refl
once-disjoint (k ∷ ks) h = go (is_run k) refl (once-disjoint ks (λ b. omega (arith, h b)))
  where
    go : (t : Bool) → is_run k ≡ t → overlaps (those is_run ks) ≡ false → overlaps (cond t (k ∷ those is_run ks) (those is_run ks)) ≡ false
    go true r ih = rw (none-meets k r ks h, ih)
    go false r ih = ih

-- ---- runs from bucket 0 on
abbrev Begun : Key → Type 0
Begun k = k.size ≤ k.pos.offset

module _ (reserved used : Bucket → Bool) where
  pass-left : (need : ℕ) (bs : List Bucket) → (pass reserved used need bs).left ≤ length bs
  unfolding pass
  pass-left need [] = omega arith
  pass-left zero (b ∷ bs) = omega arith
  pass-left (suc n) (b ∷ bs) = omega (arith, pass-left (cond (reserved b) (suc n) n) bs)

  shortened-begun : (k : Key) (left : ℕ) → left ≤ k.pos.offset → Begun (shortened k left)
  unfolding shortened
  shortened-begun k left h = go (eqb left 0)
    where
      go : (t : Bool)
          → Begun (cond t (deletion k.pos) (record { type = k.type; size = left; version_hi = k.version_hi; version_lo = k.version_lo; pos = k.pos; value = k.value }))
      go true = omega arith
      go false = h

  queue-begun : (need : ℕ) (ks : List Key) → All Begun (walk reserved used need ks).queue
  unfolding walk buckets_of
  queue-begun need [] = none
  queue-begun zero (k ∷ ks) = none
  queue-begun (suc n) (k ∷ ks) =
      let p = pass reserved used (suc n) (buckets_of k) in
      more (shortened-begun k p.left (omega (arith, pass-left (suc n) (buckets_of k), length_from ((end_of k).0 - (start_of k).0) (start_of k))))
      (queue-begun p.need ks)

-- ---- what a discard's batches keep
module _ (B : ℕ) (offered : ℕ → Bool) (live : List Live) where
  record After (v : Volume) : Type 0 where
    sound : VolumeSound B offered live v
    once : (b : ℕ) → cover_of v.trees.freespace b ≤ 1
    begun : All Begun v.trees.freespace

  module _ (t : Trees) (v : Volume) (ks : List Key) (due : All (Due v.trees.alloc) ks) (sorted : Sorted ks) (h : After v) where
    abbrev in_batch : ℕ → Bool
    in_batch b = is_in (buckets_at ks) (bucket b)

    -- no run covered a bucket that waited
    batch-once : (b : ℕ) → cover_of (apply_batch (discard_batch t ks) v).trees.freespace b ≤ 1
    batch-once b = go (in_batch b) refl (d.cover b)
      where
        d : Discarding (view v live) (view (apply_batch (discard_batch t ks) v) live) in_batch
        d = discarding t ks v due B offered live h.sound sorted

        go : (u : Bool) → in_batch b ≡ u → cover_of (apply_batch (discard_batch t ks) v).trees.freespace b ≡ cover_of v.trees.freespace b + one u
            → cover_of (apply_batch (discard_batch t ks) v).trees.freespace b ≤ 1
        go true e c = omega (arith, wait-cover _ _ _ _ _ _ (h.sound.good.phase b) (d.waited b e))
        go false e c = omega (arith, h.once b)

    batch-after : After (apply_batch (discard_batch t ks) v)
    unfolding apply_batch apply_trees discard_batch
    batch-after =
        record {
          sound = batch-sound t ks v due B offered live h.sound sorted;
          once = batch-once;
          begun = all-apply_queue (all_map run_key (all-imp (λ r w. omega (arith, w.1)) (joined (buckets_at ks)).whole)) h.begun;
        }

-- ---- what each call keeps
record RunsHeld (offered : ℕ → Bool) (v : Volume) (live : List Live) : Type 0 where
  kept : ClaimKept offered v live
  once : (b : ℕ) → cover_of v.trees.freespace b ≤ 1
  begun : All Begun v.trees.freespace

keeps-runs : (offered : ℕ → Bool) → Keeps (RunsHeld offered)
unfolding apply_batch apply_trees place_batch release_batch walk_of apply_queue
keeps-runs offered =
    let d = keeps-demand offered in
    record {
      same = λ v w live t r b h. record { kept = d.same v w live t r b h.kept; once = rw t h.once; begun = rw t h.begun };
      place = λ s live r ok h.
          let c = read_call s in
          let p = place-placing c ok (trees-order r.trees).freespace.0 live offered h.kept.good (sectors-small r.bytes) (gens-small r.bytes) in
          record {
            kept = d.place s live r ok h.kept;
            once = λ b. omega (arith, p.cover-le b, h.once b);
            begun = all-apply_queue
                (queue-begun (is_in c.volume.reserved) (is_used c.volume.trees.alloc) (buckets_needed (slots_of c)) (runs_of (run_keys c)))
                h.begun;
          };
      release = λ s live left r ok named h.
          record { kept = d.release s live left r ok named h.kept; once = h.once; begun = h.begun };
      discard = λ s live r h.
          let v = read_volume s in
          let o = trees-order r.trees in
          let B = v.head.bucket_sectors in
          let begin : After B offered live v =
          record {
            sound = record { good = h.kept.good; alloc = o.alloc.0; freespace = o.freespace.0; need_discard = o.need_discard.0 };
            once = h.once;
            begun = h.begun;
          } in
          let a = after-all v (After B offered live)
          (discard-keeps v o.alloc.0 o.alloc.1 (After B offered live) (λ w ks e c g. batch-after B offered live v.trees w ks e c g) begin) in
          record { kept = d.discard s live r h.kept; once = a.once; begun = a.begun };
    }

-- ---- a clean volume
clean-held : (clean : List ℕ) → Clean clean → RunsHeld (offered_by clean) (read_volume clean) []
clean-held clean c =
    let l = (read_volume clean).trees.freespace in
    record {
      kept = kept-clean clean c;
      once = λ b. cover-once b l c.disjoint;
      begun = all-imp (λ k h. begun k h) (test-all _ l c.runs);
    }
  where
    begun : (k : Key) → is_run k && (ltb 0 k.size && not (began_before (end_of k) k.size)) ≡ true → Begun k
    begun k h =
        let a = parts (is_run k) _ h in
        let b = parts (ltb 0 k.size) (not (began_before (end_of k) k.size)) a.1 in
        omega (arith, ltb-false k.pos.offset k.size (not-true _ b.1))

-- ---- the whole
-- two runs have no bucket in common, and none began before bucket 0
pub record RunsApart (l : List Key) : Type 0 where
  pub disjoint : overlaps (runs_of l) ≡ false
  pub begun : all_of (λ k. not (began_before (end_of k) k.size)) (runs_of l) ≡ true

held-apart : (l : List Key) → ((b : ℕ) → cover_of l b ≤ 1) → All Begun l → RunsApart l
unfolding runs_of
held-apart l o b =
    record {
      disjoint = once-disjoint l o;
      begun = all-test _ (all-imp (λ k h. rw (le-ltb k.pos.offset k.size h)) (all-those is_run b));
    }

pub history-runs : (clean : List ℕ) → Clean clean → (steps : List Step) → History (start clean) steps
    → RunsApart (read_volume (after (start clean) steps).volume).trees.freespace
history-runs clean c steps h =
    let k = history-keeps (keeps-runs (offered_by clean)) steps (start clean) (clean-held clean c) h in
    held-apart (read_volume (after (start clean) steps).volume).trees.freespace k.once k.begun
