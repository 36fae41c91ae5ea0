-- The table of a release: each freed bucket with its sum and the place of its alloc key.
use Rattle.std.specs.Prelude.{◌≡◌, true, ℕ, ◌-◌, ◌≤◌, ◌<◌, List, [], Bool, ◌++◌, map, cond, eqb, length, get_or, None, Some}
use Rattle.wire.specs.Kinds.{no_bucket, bucket_in_range}
use Rattle.wire.specs.Keys.{Key}
use Rattle.wire.specs.Positions.{alloc_at}
use Rattle.wire.specs.declared.kinds.Bucket.{Bucket}
use Rattle.format.specs.Packing.{get}
use Rattle.format.specs.AllocV4.{gen, dirty_sectors, with_dirty, next_gen, emptied}
use Rattle.calls.specs.CallList.{Volume, Freed}
use Rattle.calls.specs.Lru.{lru_keys, lru_deletions}
use Rattle.calls.specs.Trees.{lookup, with_value}
use Rattle.calls.specs.Release.{freed_buckets, freed_in}
use Rattle.reader.specs.KeyHere.{Whole}
use Rattle.release_keys.specs.declared.table.FreedBucket.{FreedBucket}
use Rattle.release_keys.specs.declared.freed_buckets.EmptiedBucket.{EmptiedBucket}
use Rattle.release_keys.specs.Places.{PlaceOf, key_placed}

-- a row for an index that none has
abbrev pub no_row : FreedBucket
no_row = record { bucket = no_bucket; sectors = 0; place = None }

-- the buckets of some rows
abbrev pub row_buckets : List FreedBucket → List Bucket
row_buckets rows = map (λ f. f.bucket) rows

-- the alloc key of a row, and how many sectors its bucket holds
abbrev pub row_key : List ℕ → FreedBucket → Key
row_key s f = key_placed s f.place

abbrev pub row_dirty : List ℕ → FreedBucket → ℕ
row_dirty s f = get dirty_sectors (row_key s f).value

-- all that it holds is freed
abbrev pub row_emptied : List ℕ → FreedBucket → Bool
row_emptied s f = eqb f.sectors (row_dirty s f)

-- its bucket with its generation after it is emptied
abbrev pub row_gen : List ℕ → FreedBucket → EmptiedBucket
row_gen s f = record { bucket = f.bucket; generation = next_gen (get gen (row_key s f).value) }

-- the alloc key of a row after what is freed is taken out: emptied, or with what is left
abbrev pub freed_key : ℕ → List ℕ → FreedBucket → Key
freed_key journal s f =
    let value = (row_key s f).value in
    with_value (row_key s f) (cond (row_emptied s f) (emptied journal value) (with_dirty (row_dirty s f - f.sectors) value))

-- the LRU keys of a row whose bucket holds so many sectors: the old one is deleted, and the new one follows unless it is emptied
abbrev pub freed_lru : ℕ → ℕ → FreedBucket → List Key
freed_lru sectors dirty f = lru_deletions sectors f.bucket dirty ++ cond (eqb f.sectors dirty) [] (lru_keys sectors f.bucket (dirty - f.sectors))

-- those of the row
abbrev pub row_lru : ℕ → List ℕ → FreedBucket → List Key
row_lru sectors s f = freed_lru sectors (row_dirty s f) f

-- what a row says of a freed bucket: its sum, and the place of its alloc key
pub record FreedEntry (s : List ℕ) (v : Volume) (rs : List Freed) (f : FreedBucket) : Type 0 where
  pub low : bucket_in_range f.bucket ≡ true
  pub freed : f.sectors ≡ freed_in v.head.bucket_sectors rs f.bucket
  pub key : PlaceOf s f.place (lookup (alloc_at f.bucket) v.trees.alloc)

-- the rows hold the freed buckets of a volume and its requests
pub record FreedTables (s : List ℕ) (v : Volume) (rs : List Freed) (rows : List FreedBucket) : Type 0 where
  pub named : row_buckets rows ≡ freed_buckets v.head.bucket_sectors rs
  pub at : (i : ℕ) → i < length rows → FreedEntry s v rs (get_or rows i no_row)

-- a row that refusals 15 to 18 passed, where a bucket has so many sectors: its alloc key is there, and the bucket holds what is freed of it and no more than it has
pub record RowHeld (s : List ℕ) (sectors : ℕ) (f : FreedBucket) : Type 0 where
  pub found : f.place ≡ None → ⊥
  pub whole : (at : ℕ) → f.place ≡ Some at → Whole s at
  pub long : 56 ≤ length (row_key s f).value
  pub held : f.sectors ≤ row_dirty s f
  pub within : row_dirty s f ≤ sectors

-- such rows
abbrev pub RowsHeld : List ℕ → ℕ → List FreedBucket → Type 0
RowsHeld s sectors rows = (i : ℕ) → i < length rows → RowHeld s sectors (get_or rows i no_row)
