-- Every number in the batches of a discard fits its bytes.
use mathlib.Core.Path.{◌≡◌}
use mathlib.Core.Bool.{Bool, true, false, ◌&&◌, cond}
use mathlib.Core.List.{List, [], ◌∷◌, map}
use mathlib.Core.Option.{Option, none, some}
use Prim.Native.Nat.{ℕ, zero, suc, ◌<◌, ◌≤◌}
use native.Mathlib.Omega.{arith}
use lib.Dec.{eqb}
use lib.ListN.{length, length-take, length-drop}
use Rattle.wire.specs.Keys.{Key}
use Rattle.wire.specs.Kinds.{same_bucket, next_bucket}
use Rattle.wire.specs.Positions.{bucket_in}
use Rattle.wire.specs.declared.kinds.Bucket.{Bucket}
use Rattle.wire.specs.Bytes.{All, Bytes}
use Rattle.wire.proofs.NumberLaws.{all_take, all_drop}
use Rattle.format.specs.Packing.{get}
use Rattle.format.specs.AllocV4.{journal_seq, flags, data_type, journal_seq_empty, discarded_flags, discarded}
use Rattle.calls.specs.Lists.{is_none, from_option}
use Rattle.calls.specs.CallList.{Trees, Volume, call_laid_out, none_twice}
use Rattle.calls.specs.Limits.{is_set, at_inode0, volume_within, list_within}
use Rattle.calls.specs.Trees.{deletion}
use Rattle.calls.specs.Accounting.{counted_rows}
use Rattle.calls.specs.Discard.{Run, waiting_key, is_discarded, discarded_keys, chunks, join_run, joined_runs, run_key, waiting_deletions, discard_batch, discard_batches}
use Rattle.calls.specs.Answers.{read_call, read_volume}
use Rattle.calls.proofs.lists.AllLaws.{all-imp, all-each, all_join, all_map, all-those, all-flat, all-chosen}
use Rattle.calls.proofs.lists.ThoseLaws.{those-length}
use Rattle.calls.proofs.lists.BoolLaws.{parts}
use Rattle.calls.proofs.encoding.ChangeTrip.{BatchFits, BatchOk}
use Rattle.calls.proofs.freespace.JoinLaws.{Whole, joined}
use Rattle.calls.proofs.encoding.KeyFitsLaws.{ValueFits, no_value, store-fits, Queued, queued-pos, queued-value, new-queued, deletion-queued, with-queued, bucket-pos, trees-fit, trees-zero, volume-queued, plus-fits, less-fits, buckets-row, VolumeLimits, within, list-within}
use Rattle.calls.proofs.trees.SixTrees.{EachTree}
use Rattle.calls.proofs.encoding.VolumeTrip.{VolumeFits, VolumeOk, call_fits}

-- the keys that a discard takes

record Taken (k : Key) : Type 0 where
  queued : Queued k
  below : k.pos.offset < 65536

taken-all : (v : Volume) → VolumeFits v → VolumeOk v → VolumeLimits v → All Taken (discarded_keys v.trees)
unfolding discarded_keys is_discarded
taken-all v f ok w =
    all-imp
    (λ (k : Key) (h : (is_discarded v.trees k ≡ true) × (Queued k × (at_inode0 k ≡ true → k.pos.offset < 65536))).
    let a = parts (eqb k.type 27 && at_inode0 k) _ h.0 in
    record { queued = h.1.0; below = h.1.1 (parts (eqb k.type 27) (at_inode0 k) a.0).1 })
    (all-chosen (is_discarded v.trees) (all_join (λ k q b. (q, b)) (volume-queued f ok).alloc w.alloc))

discarded-fits : {v : List ℕ} → ValueFits v → ValueFits (discarded v)
unfolding discarded
discarded-fits {v} h =
    store-fits journal_seq_empty 0
    (store-fits data_type 0 (store-fits flags (discarded_flags (get flags v)) (store-fits journal_seq 0 h)))

-- the runs

abbrev Ends : Run → Type 0
Ends r = r.end.0 ≤ 65536

join-ends : (b : Bucket) {rs : List Run} → b.0 < 65536 → All Ends rs → All Ends (join_run b rs)
unfolding join_run
join-ends b l All.none = All.more {a = record { first = b; end = next_bucket b; size = 1 }} (omega arith) All.none
join-ends b l (All.more {a = r} {s = rs} h q) = go (same_bucket (next_bucket b) r.first)
  where
    go : (t : Bool)
        → All Ends
        (cond t (record { first = b; end = r.end; size = suc r.size } ∷ rs)
        (record { first = b; end = next_bucket b; size = 1 } ∷ r ∷ rs))
    go true = All.more h q
    go false = All.more {a = record { first = b; end = next_bucket b; size = 1 }} (omega arith) (All.more h q)

runs-end : {bs : List Bucket} → All (λ b. b.0 < 65536) bs → All Ends (joined_runs bs)
unfolding joined_runs
runs-end All.none = All.none
runs-end (All.more {a = b} h r) = join-ends b h (runs-end r)

run-queued : (r : Run) → Whole r → Ends r → Queued (run_key r)
run-queued r w h = new-queued 25 r.size (omega arith) (omega arith) (bucket-pos (omega arith) (omega arith)) no_value

-- the need-discard keys

abbrev deletions : Option Key → List Key
deletions o = from_option [] (λ k. deletion k.pos ∷ []) o

waiting-all : {l : List Key} (b : Bucket) → All Queued l → All Queued (waiting_deletions l b)
unfolding waiting_deletions waiting_key
waiting-all b All.none = All.none
waiting-all b (All.more {a = k} {s = ks} h r) = go (waiting_key ks b) (is_set k && same_bucket (bucket_in k.pos) b) (waiting-all b r)
  where
    go : (o : Option Key) (t : Bool) → All Queued (deletions o) → All Queued (deletions (cond (is_none o) (cond t (some k) none) o))
    go none true q = All.more (deletion-queued (queued-pos h)) All.none
    go none false q = All.none
    go (some x) t q = q

-- one batch

module _ (t : Trees) (q : EachTree (All Queued) t) {ks : List Key} (h : All Taken ks) (few : length ks ≤ 4096) where
  below : All (λ b. b.0 < 65536) (map (λ k. bucket_in k.pos) ks)
  below = all_map (λ k. bucket_in k.pos) (all-imp (λ k s. s.below) h)

  keys : EachTree (All Queued) (discard_batch t ks).trees
  unfolding discard_batch
  keys =
      record {
        alloc = all_map _ (all-imp (λ k s. with-queued s.queued (discarded-fits (queued-value s.queued))) h);
        lru = All.none;
        freespace = all_map run_key (all_join run-queued (joined (map (λ k. bucket_in k.pos) ks)).whole (runs-end below));
        need_discard = all-flat (waiting_deletions t.need_discard) (all-each (λ b. waiting-all b q.need_discard) _);
        backpointers = All.none;
        gens = All.none;
      }

  batch-fits : BatchFits (discard_batch t ks)
  unfolding discard_batch counted_rows
  batch-fits =
      record {
        extents = All.none;
        trees = trees-fit keys;
        roots = All.none;
        taken = All.none;
        spots = All.none;
        rows =
            all-those _
            (All.more (buckets-row 0 (omega arith) (plus-fits (length ks) (omega arith)) (plus-fits 0 (omega arith)) (plus-fits 0 (omega arith)))
            (All.more
            (buckets-row 9 (omega arith) (less-fits (length ks) (omega arith)) (plus-fits 0 (omega arith)) (plus-fits 0 (omega arith)))
            All.none));
        sectors = All.none;
        discarded = all-imp (λ b l. omega arith) below;
      }

  batch-ok : BatchOk (discard_batch t ks)
  unfolding discard_batch
  batch-ok = record { trees = trees-zero keys; roots = All.none }

-- all batches

chunks-all :
    {A : Type 0} {P : A → Type 0} (most size n : ℕ) {xs : List A} → All P xs → length xs ≤ n
    → All (λ ys. All P ys × (length ys ≤ n)) (chunks most size xs)
unfolding chunks
chunks-all zero size n h l = All.none
chunks-all (suc most) size n All.none l = All.none
chunks-all (suc most) size n {xs} (All.more h r) l =
    All.more
    (all_take size (All.more h r), omega (arith, length-take size xs))
    (chunks-all most size n (all_drop size (All.more h r)) (omega (arith, length-drop size xs)))

pub volume-discard-fits : (v : Volume) → VolumeFits v → VolumeOk v → volume_within v ≡ true → All BatchFits (discard_batches v) × All BatchOk (discard_batches v)
unfolding discard_batches discarded_keys
volume-discard-fits v f ok h =
    let t = v.trees in
    let w = within h in
    let ks = discarded_keys t in
    let q = volume-queued f ok in
    let cs = chunks-all (length ks) v.head.batch 4096 (taken-all v f ok w) (omega (arith, those-length (is_discarded t) t.alloc, w.few)) in (
      all_map (discard_batch t) (all-imp (λ ks k. batch-fits t q k.0 k.1) cs),
      all_map (discard_batch t) (all-imp (λ ks k. batch-ok t q k.0 k.1) cs),
    )

pub discard-fits :
    {s : List ℕ} → Bytes s → call_laid_out 3 s ≡ true → none_twice (read_volume s) ≡ true → list_within (read_call s) ≡ true
    → All BatchFits (discard_batches (read_call s).volume) × All BatchOk (discard_batches (read_call s).volume)
discard-fits {s} r h o l =
    let c = read_call s in
    let f = call_fits 3 r h o in
    volume-discard-fits c.volume f.0 f.1 (list-within c l).0
