-- Discard: which buckets, and the batches that it writes.
use Rattle.std.specs.Prelude.{ℕ, zero, suc, Bool, not, ◌&&◌, cond, pos, neg_ℤ, length, take, drop, leb, ltb, eqb}
use mathlib.Core.List.{List, [], ◌∷◌, map, flat_map}
use Rattle.std.proofs.Math.Option.{Option, none, some}
use Rattle.wire.specs.Keys.{Key}
use Rattle.wire.specs.Kinds.{same_bucket, next_bucket}
use Rattle.wire.specs.Positions.{run_at, bucket_in}
use Rattle.wire.specs.declared.kinds.Bucket.{Bucket}
use Rattle.format.specs.Packing.{get}
use Rattle.format.specs.AllocV4.{gen, data_type, need_discard_type, discarded}
use Rattle.calls.specs.Lists.{those, is_none, from_option}
use Rattle.calls.specs.CallList.{Trees, Volume}
use Rattle.calls.specs.Limits.{is_set, at_inode0}
use Rattle.calls.specs.Accounting.{counted_rows, buckets_row}
use Rattle.calls.specs.ChangeList.{Batch}
use Rattle.calls.specs.Trees.{new_key, deletion, with_value}

-- the last need-discard key of type 25 that names a bucket
unfoldable pub waiting_key : List Key → Bucket → Option Key
waiting_key [] b = none
waiting_key (k ∷ ks) b =
    cond (is_none (waiting_key ks b)) (cond (is_set k && same_bucket (bucket_in k.pos) b) (some k) none) (waiting_key ks b)

-- which waiting bucket is taken: byte 12 below 16
unfoldable pub gen_taken : List ℕ → Bool
gen_taken value = ltb (get gen value) 16

-- type 27 alloc keys at inode 0 with a need-discard key, value 56 bytes or more, byte 14 equal 9, and a generation that is taken
unfoldable pub is_discarded : Trees → Key → Bool
is_discarded t k =
    (eqb k.type 27 && at_inode0 k)
    && (leb 56 (length k.value)
    && (eqb (get data_type k.value) need_discard_type
    && (gen_taken k.value && not (is_none (waiting_key t.need_discard (bucket_in k.pos))))))

-- in alloc order
unfoldable pub discarded_keys : Trees → List Key
discarded_keys t = those (is_discarded t) t.alloc

-- batches of a size, at most `most` of them
unfoldable pub chunks : {A : Type 0} → ℕ → ℕ → List A → List (List A)
chunks zero size xs = []
chunks (suc most) size [] = []
chunks (suc most) size (x ∷ xs) = take size (x ∷ xs) ∷ chunks most size (drop size (x ∷ xs))

-- a run of buckets: its first, its end, which is left out, and how many
pub record Run : Type 0 where
  pub first : Bucket
  pub end : Bucket
  pub size : ℕ

-- a bucket before some runs: joined to the first where it stands next to it
unfoldable pub join_run : Bucket → List Run → List Run
join_run b [] = record { first = b; end = next_bucket b; size = 1 } ∷ []
join_run b (r ∷ rs) =
    cond (same_bucket (next_bucket b) r.first) (record { first = b; end = r.end; size = suc r.size } ∷ rs)
    (record { first = b; end = next_bucket b; size = 1 } ∷ r ∷ rs)

-- runs of neighbouring buckets, never joined with old runs
unfoldable pub joined_runs : List Bucket → List Run
joined_runs [] = []
joined_runs (b ∷ bs) = join_run b (joined_runs bs)

abbrev pub run_key : Run → Key
run_key r = new_key 25 r.size (run_at r.end) []

-- for two need-discard keys of one bucket the last is deleted
unfoldable pub waiting_deletions : List Key → Bucket → List Key
waiting_deletions need_discard b = from_option [] (λ k. deletion k.pos ∷ []) (waiting_key need_discard b)

-- the batch for some alloc keys
unfoldable pub discard_batch : Trees → List Key → Batch
discard_batch t ks =
    let bs = map (λ k. bucket_in k.pos) ks in
    let n = length ks in
    record {
      extents = [];
      trees =
          record {
            alloc = map (λ k. with_value k (discarded k.value)) ks;
            lru = [];
            freespace = map run_key (joined_runs bs);
            need_discard = flat_map (waiting_deletions t.need_discard) bs;
            backpointers = [];
            gens = [];
          };
      roots = [];
      taken = [];
      spots = [];
      rows = counted_rows (buckets_row 0 (pos n) (pos 0) (pos 0) ∷ buckets_row 9 (neg_ℤ (pos n)) (pos 0) (pos 0) ∷ []);
      sectors = [];
      discarded = bs;
    }

-- the batches of a discard; nothing to discard: none
unfoldable pub discard_batches : Volume → List Batch
discard_batches v =
    let ks = discarded_keys v.trees in map (discard_batch v.trees) (chunks (length ks) v.head.batch ks)
