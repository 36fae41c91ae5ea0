-- A reserved bucket at a place of a list.
use Rattle.std.specs.Prelude.{ℕ, List, map, drop}
use Rattle.wire.specs.Kinds.{bucket_read}
use Rattle.wire.specs.declared.kinds.Bucket.{Bucket}

-- the bucket whose number stands at a place
abbrev pub bucket_here : List ℕ → ℕ → Bucket
bucket_here s at = bucket_read (drop at s)

-- the buckets at some places
abbrev pub buckets_here : List ℕ → List ℕ → List Bucket
buckets_here s places = map (bucket_here s) places
