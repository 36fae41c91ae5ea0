-- The freed buckets that are left of a table which refusals 15 to 19 passed, and a step over them.
use Rattle.std.specs.Prelude.{◌≡◌, List, [], ◌∷◌, Option, Some, None}
use Rattle.std.specs.Int.NonZero.{non_zero_u64_get}
use Rattle.wire.specs.declared.kinds.Bucket.{Bucket}
use Rattle.calls.specs.CallList.{Volume, Freed}
use Rattle.calls.specs.Release.{freed_buckets}
use Rattle.release_keys.specs.Given.{volume_in, requests_in}
use Rattle.release_keys.specs.declared.table.FreedBucket.{FreedBucket}
use Rattle.release_keys.specs.declared.table.HeldBucket.{HeldBucket}
use Rattle.release_keys.specs.declared.table.HeldLeft.{HeldLeft}
use Rattle.release_keys.specs.declared.table.HeldTable.{HeldTable}

abbrev pub held_left : HeldLeft → List FreedBucket
held_left l = l.buckets.now

-- of the same list, with the same sectors to a bucket
abbrev pub SameList : HeldLeft → HeldLeft → Type 0
SameList before after = (after.list.now ≡ before.list.now) × (non_zero_u64_get after.bucket_sectors ≡ non_zero_u64_get before.bucket_sectors)

abbrev pub HeldHere : HeldLeft → HeldBucket → Type 0
HeldHere before h = (h.list.now ≡ before.list.now) × (non_zero_u64_get h.bucket_sectors ≡ non_zero_u64_get before.bucket_sectors)

-- the first of them, and those after it; nothing where there is none
abbrev pub HeldStepped : HeldLeft → Option HeldBucket → HeldLeft → Type 0
HeldStepped before (Some h) after = (held_left before ≡ h.freed ∷ held_left after) × HeldHere before h × SameList before after
HeldStepped before None after = held_left before ≡ []

-- some that are left of a table
abbrev pub LeftOf : HeldTable → HeldLeft → Type 0
LeftOf t l = (l.list.now ≡ t.freed.read.alloc.list.now) × (non_zero_u64_get l.bucket_sectors ≡ t.freed.read.head.bucket_sectors)

-- the volume and the requests of a table, and the buckets that they free
abbrev pub held_volume : HeldTable → Volume
held_volume t = volume_in t.freed.read

abbrev pub held_requests : HeldTable → List Freed
held_requests t = requests_in t.freed.read

abbrev pub held_buckets : HeldTable → List Bucket
held_buckets t = freed_buckets t.freed.read.head.bucket_sectors (requests_in t.freed.read)
