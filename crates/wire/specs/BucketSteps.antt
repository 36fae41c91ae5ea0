-- A step over the buckets up to an end.
use Rattle.std.specs.Prelude.{◌≡◌, ◌≤◌, ◌<◌, Option, Some, None}
use Rattle.wire.specs.Kinds.{next_bucket}
use Rattle.wire.specs.declared.kinds.Bucket.{Bucket}
use Rattle.wire.specs.declared.kinds.Buckets.{Buckets}

-- the next bucket is given, and the one after it is the next then; or the next is the end, or past it, and stays
abbrev pub BucketStepped : Buckets → Option Bucket → Buckets → Type 0
BucketStepped before None after = (before.end.0 ≤ before.next.0) × (after ≡ before)
BucketStepped before (Some b) after = (before.next.0 < before.end.0) × (b ≡ before.next) × (after ≡ record { next = next_bucket b; end = before.end })
