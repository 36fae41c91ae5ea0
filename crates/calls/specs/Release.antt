-- Release: refusals 14 to 19, and the batch that it writes.
use Rattle.std.specs.Prelude.{ℕ, ◌+◌, ◌-◌, Bool, not, ◌&&◌, cond, ℤ, pos, neg_ℤ, ◌+ℤ◌, length, leb, eqb}
use mathlib.Core.List.{List, [], ◌∷◌, ◌++◌, map, flat_map}
use Rattle.wire.specs.Keys.{Key}
use Rattle.wire.specs.Rows.{Counters}
use Rattle.wire.specs.Kinds.{same_bucket, bucket_in_range, bucket_of, offset_in}
use Rattle.wire.specs.Positions.{alloc_at, backpointer_at}
use Rattle.wire.specs.declared.kinds.Bucket.{Bucket}
use Rattle.format.specs.Packing.{get}
use Rattle.format.specs.AllocV4.{gen, dirty_sectors, with_dirty, next_gen, emptied}
use Rattle.calls.specs.Lists.{all_of, those, total, is_none, from_option, is_empty}
use Rattle.calls.specs.CallList.{Trees, Volume, Freed}
use Rattle.calls.specs.Buckets.{insert_buckets}
use Rattle.calls.specs.Generations.{gen_short, gen_queued}
use Rattle.calls.specs.Lru.{lru_keys, lru_deletions, need_discard_key}
use Rattle.calls.specs.Accounting.{counted_rows, sectors_row, buckets_row}
use Rattle.calls.specs.ChangeList.{Batch}
use Rattle.calls.specs.Trees.{lookup, new_key, deletion, with_value}
use Rattle.calls.specs.Refusals.{test, verdict}
use Rattle.calls.specs.Place.{root_missing, roots_if}

-- refusal 14: 1 to 128 sectors, within the bucket, which is at most 65,535
unfoldable pub freed_ok : ℕ → Freed → Bool
freed_ok sectors r =
    (leb 1 r.sectors && leb r.sectors 128)
    && (leb (offset_in r.first sectors + r.sectors) sectors && bucket_in_range (bucket_of r.first sectors))

-- the buckets that requests name, ascending
unfoldable pub freed_buckets : ℕ → List Freed → List Bucket
freed_buckets sectors rs = insert_buckets (map (λ r. bucket_of r.first sectors) rs) []

-- the sum per bucket: requests that repeat are summed
unfoldable pub freed_in : ℕ → List Freed → Bucket → ℕ
freed_in sectors rs b = total (λ r. cond (same_bucket (bucket_of r.first sectors) b) r.sectors 0) rs

-- a bucket's alloc value, or no bytes
unfoldable pub alloc_value : Trees → Bucket → List ℕ
alloc_value t b = from_option [] (λ k. k.value) (lookup (alloc_at b) t.alloc)

-- its dirty count
unfoldable pub dirty_at : Trees → Bucket → ℕ
dirty_at t b = get dirty_sectors (alloc_value t b)

-- it is emptied: as much is freed as it holds
unfoldable pub is_emptied : Volume → List Freed → Bucket → Bool
is_emptied v rs b = eqb (freed_in v.head.bucket_sectors rs b) (dirty_at v.trees b)

-- 15 to 19 at a bucket
unfoldable pub bucket_refusal : Volume → List Freed → Bucket → ℕ
bucket_refusal v rs b =
    verdict
    (test 15 (not (is_none (lookup (alloc_at b) v.trees.alloc)))
    ∷ test 16 (leb 56 (length (alloc_value v.trees b)))
    ∷ test 17 (leb (dirty_at v.trees b) v.head.bucket_sectors)
    ∷ test 18 (leb (freed_in v.head.bucket_sectors rs b) (dirty_at v.trees b))
    ∷ test 19 (not (is_emptied v rs b && gen_short v.trees.gens b))
    ∷ [])

-- 4, 14, and the lowest bucket among 15 to 19
unfoldable pub release_tests : Volume → List Freed → List ℕ
release_tests v rs =
    let sectors = v.head.bucket_sectors in
    test 4 (not (eqb sectors 0)) ∷ test 14 (all_of (freed_ok sectors) rs)
    ∷ verdict (map (bucket_refusal v rs) (freed_buckets sectors rs))
    ∷ []

-- the alloc key of a bucket that is named: emptied, or with what is left
unfoldable pub released_key : Volume → List Freed → Bucket → Key
released_key v rs b =
    let left = dirty_at v.trees b - freed_in v.head.bucket_sectors rs b in
    let value = alloc_value v.trees b in
    with_value (from_option (new_key 27 0 (alloc_at b) []) (λ k. k) (lookup (alloc_at b) v.trees.alloc))
    (cond (is_emptied v rs b) (emptied v.head.journal value) (with_dirty left value))

-- release deletes the old LRU key, then queues the new unless emptied
unfoldable pub released_lru : Volume → List Freed → Bucket → List Key
released_lru v rs b =
    let sectors = v.head.bucket_sectors in
    let old = dirty_at v.trees b in
    lru_deletions sectors b old ++ cond (is_emptied v rs b) [] (lru_keys sectors b (old - freed_in sectors rs b))

-- a bucket's generation after it is emptied
unfoldable pub emptied_gen : Trees → Bucket → ℕ
emptied_gen t b = next_gen (get gen (alloc_value t b))

-- a record already queued in the same release is continued: `records` has the queued ones first
unfoldable pub gens_queued : (Bucket → ℕ) → List Key → List Bucket → List Key
gens_queued generation records [] = []
gens_queued generation records (b ∷ bs) =
    let k = gen_queued records b (generation b) in k ∷ gens_queued generation (k ∷ records) bs

-- the sectors that user buckets no longer use: plus those freed of a bucket that stays, minus the unused ones of one that is emptied
unfoldable pub unused_change : Volume → List Freed → List Bucket → ℤ
unused_change v rs bs =
    let sectors = v.head.bucket_sectors in
    pos (total (λ b. cond (is_emptied v rs b) 0 (freed_in sectors rs b)) bs)
    +ℤ neg_ℤ (pos (total (λ b. cond (is_emptied v rs b) (sectors - dirty_at v.trees b) 0) bs))

-- the rows of a release, ascending: freed sectors and buckets negated
unfoldable pub release_rows : Volume → List Freed → List Bucket → List Bucket → List Counters
release_rows v rs bs emptied_buckets =
    let n = length emptied_buckets in
    let freed = neg_ℤ (pos (total (λ r. r.sectors) rs)) in
    counted_rows
    (sectors_row freed ∷ buckets_row 4 (neg_ℤ (pos n)) freed (unused_change v rs bs) ∷ buckets_row 9 (pos n) (pos 0) (pos 0) ∷ [])

-- the batch that a release writes
unfoldable pub release_batch : Volume → List Freed → Batch
release_batch v rs =
    let h = v.head in
    let bs = freed_buckets h.bucket_sectors rs in
    let emptied_buckets = those (is_emptied v rs) bs in
    record {
      extents = [];
      trees =
          record {
            alloc = map (released_key v rs) bs;
            lru = flat_map (released_lru v rs) bs;
            freespace = [];
            need_discard = map (need_discard_key h.journal) emptied_buckets;
            backpointers = map (λ r. deletion (backpointer_at r.first)) rs;
            gens = gens_queued (emptied_gen v.trees) v.trees.gens emptied_buckets;
          };
      roots =
          roots_if (not (is_empty emptied_buckets) && root_missing h.roots 1) 12
          ++ roots_if (not (is_empty emptied_buckets) && root_missing h.roots 2) 14;
      taken = [];
      spots = [];
      rows = release_rows v rs bs emptied_buckets;
      sectors = [];
      discarded = [];
    }
