-- Place: refusals 2 to 13, and the batch that it writes.
use Rattle.std.specs.Prelude.{ℕ, ◌*◌, ◌/◌, ◌%◌, ◌^◌, Bool, not, ◌&&◌, ◌||◌, cond, pos, neg_ℤ, ◌+ℤ◌, length, leb, eqb}
use mathlib.Core.List.{List, [], ◌∷◌, map, flat_map}
use Rattle.wire.specs.Keys.{Key}
use Rattle.wire.specs.Rows.{Counters}
use Rattle.wire.specs.Kinds.{same_bucket, no_bucket}
use Rattle.wire.specs.Positions.{alloc_at}
use Rattle.wire.specs.declared.kinds.Bucket.{Bucket}
use Rattle.format.specs.AllocV4.{new_alloc}
use Rattle.calls.specs.Lists.{all_of, total}
use Rattle.calls.specs.CallList.{Head, Volume, CallList}
use Rattle.calls.specs.Freespace.{is_in, runs_of, free_count, wanted, overlaps, is_used, Walked, walk}
use Rattle.calls.specs.Generations.{gen_of}
use Rattle.calls.specs.Clock.{clock_of}
use Rattle.calls.specs.Pieces.{Slot, next_fit, buckets_needed, kind_listed, block_of, divides, piece_sized}
use Rattle.calls.specs.Extents.{Placed, bucket_at, placed_at, extent_key, backpointer_key}
use Rattle.calls.specs.Lru.{lru_keys, lru_wanted}
use Rattle.calls.specs.Accounting.{counted_rows, sectors_row, buckets_row, kind_row, extents_row, owner_row}
use Rattle.calls.specs.ChangeList.{Spot, Batch}
use Rattle.calls.specs.Trees.{new_key}
use Rattle.calls.specs.Refusals.{test}

-- 70 names a wanted root whose bit is 0: bit 0 LRU, 1 need-discard, 2 gens
unfoldable pub root_missing : ℕ → ℕ → Bool
root_missing roots bit = eqb (roots / 2 ^ bit % 2) 0

abbrev pub roots_if : Bool → ℕ → List ℕ
roots_if wants id = cond wants (id ∷ []) []

-- where each piece goes
unfoldable pub slots_of : CallList → List Slot
slots_of c = next_fit c.volume.head.bucket_sectors 0 0 (map (λ p. p.stored) c.pieces)

-- the walk for the buckets that they need
unfoldable pub walk_of : CallList → Walked
walk_of c =
    walk (is_in c.volume.reserved) (is_used c.volume.trees.alloc) (buckets_needed (slots_of c))
    (runs_of c.volume.trees.freespace)

-- the pieces at their places in the buckets taken
unfoldable pub placed_of : CallList → List Placed
placed_of c =
    placed_at c.volume.head.bucket_sectors (gen_of c.volume.trees.gens) (bucket_at no_bucket (walk_of c).taken)
    c.volume.head.base c.pieces (slots_of c)

-- the sectors stored in a bucket
unfoldable pub dirty_in : List Placed → Bucket → ℕ
dirty_in ps b = total (λ p. cond (same_bucket p.bucket b) p.piece.stored 0) ps

-- the alloc key of a bucket taken: type 27
unfoldable pub new_alloc_key : Volume → List Placed → Bucket → Key
new_alloc_key v ps b =
    new_key 27 0 (alloc_at b)
    (new_alloc v.head.journal (gen_of v.trees.gens b) (dirty_in ps b) (clock_of v.trees.alloc))

abbrev pub spot_at : Placed → Spot
spot_at p =
    record { first = p.first; stored = p.piece.stored; bucket = p.bucket; generation = p.generation }

-- the rows of a placement, ascending
unfoldable pub place_rows : Head → List Bucket → List Placed → List Key → List Counters
place_rows h taken ps extents =
    let n = length taken in
    let d = total (λ p. p.piece.stored) ps in
    counted_rows
    (sectors_row (pos d) ∷ buckets_row 0 (neg_ℤ (pos n)) (pos 0) (pos 0)
    ∷ buckets_row 4 (pos n) (pos d) (pos (n * h.bucket_sectors) +ℤ neg_ℤ (pos d))
    ∷ kind_row 2 ps
    ∷ kind_row 3 ps
    ∷ kind_row 4 ps
    ∷ kind_row 5 ps
    ∷ extents_row extents d
    ∷ owner_row h.inode ps
    ∷ [])

-- the batch that a placement writes, from the pieces placed and the walk
unfoldable pub place_batch : Volume → List Placed → Walked → Batch
place_batch v ps w =
    let h = v.head in
    let extents = map (extent_key h) ps in
    record {
      extents = extents;
      trees =
          record {
            alloc = map (new_alloc_key v ps) w.taken;
            lru = flat_map (λ b. lru_keys h.bucket_sectors b (dirty_in ps b)) w.taken;
            freespace = w.queue;
            need_discard = [];
            backpointers = map (backpointer_key h) ps;
            gens = [];
          };
      roots = roots_if (lru_wanted h.bucket_sectors (map (dirty_in ps) w.taken) && root_missing h.roots 0) 10;
      taken = w.taken;
      spots = map spot_at ps;
      rows = place_rows h w.taken ps extents;
      sectors = total (λ p. p.piece.file) ps ∷ [];
      discarded = [];
    }

-- refusals 4 to 13, in their order; the walk decides between 12 and 13
unfoldable pub place_tests : CallList → List ℕ
place_tests c =
    let h = c.volume.head in
    let runs = runs_of c.volume.trees.freespace in
    let block = block_of h.block_sectors in
    test 4 (not (eqb h.bucket_sectors 0))
    ∷ test 5 (leb h.option 3)
    ∷ test 6 (all_of kind_listed c.pieces)
    ∷ test 7 (not (eqb h.option 0) || all_of (λ p. eqb p.kind 0) c.pieces)
    ∷ test 8 (divides block h.bucket_sectors && divides block 128)
    ∷ test 9 (all_of (piece_sized h.bucket_sectors block) c.pieces)
    ∷ test 10 (not (overlaps runs))
    ∷ test 11 (leb (wanted (buckets_needed (slots_of c)) h.reserve) (free_count (is_in c.volume.reserved) runs))
    ∷ (walk_of c).refusal
    ∷ []
