-- The buckets that are emptied, each with its generation afterwards.
use Rattle.std.specs.Prelude.{ℕ, List, map}
use Rattle.wire.specs.declared.kinds.Bucket.{Bucket}
use Rattle.release_keys.specs.declared.freed_buckets.EmptiedBucket.{EmptiedBucket}

-- an emptied bucket with its generation
abbrev pub emptied_row : (Bucket → ℕ) → Bucket → EmptiedBucket
emptied_row generation b = record { bucket = b; generation = generation b }

-- the buckets of some rows
abbrev pub emptied_buckets : List EmptiedBucket → List Bucket
emptied_buckets rows = map (λ e. e.bucket) rows
