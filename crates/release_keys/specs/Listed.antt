-- The freed buckets as they are listed: each with its sum, and with the place of its alloc key.
use Rattle.std.specs.Prelude.{◌≡◌, true, ℕ, ◌<◌, List, map, length, get_or}
use Rattle.wire.specs.Keys.{Key}
use Rattle.wire.specs.Kinds.{bucket_below}
use Rattle.wire.specs.Positions.{alloc_at}
use Rattle.wire.specs.declared.kinds.Bucket.{Bucket}
use Rattle.calls.specs.Lists.{in_order}
use Rattle.calls.specs.Trees.{lookup}
use Rattle.release_sums.specs.declared.sums.BucketSum.{BucketSum}
use Rattle.release_keys.specs.declared.table.FreedBucket.{FreedBucket}
use Rattle.release_keys.specs.Places.{PlaceOf}
use Rattle.release_keys.specs.Tables.{no_row}

-- the sum that a row has
abbrev pub row_sum : FreedBucket → BucketSum
row_sum f = record { bucket = f.bucket; sectors = f.sectors }

-- the buckets of sums
abbrev pub sum_buckets : List BucketSum → List Bucket
sum_buckets l = map (λ x. x.bucket) l

-- they ascend
abbrev pub SumsAscend : List BucketSum → Type 0
SumsAscend l = in_order bucket_below (sum_buckets l) ≡ true

-- each row has the place of its bucket's key among some keys of a list
pub record PlacesOf (s : List ℕ) (alloc : List Key) (rows : List FreedBucket) : Type 0 where
  pub at : (i : ℕ) → i < length rows → PlaceOf s (get_or rows i no_row).place (lookup (alloc_at (get_or rows i no_row).bucket) alloc)
