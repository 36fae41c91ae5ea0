-- The reserved buckets that stand at places of a list, as clauses see them.
use Rattle.std.specs.Prelude.{List}
use Rattle.wire.specs.Kinds.{bucket_read}
use Rattle.wire.specs.declared.kinds.Bucket.{Bucket}
use Rattle.reader.specs.BucketHere.{buckets_here}
use Rattle.reader.specs.declared.listed.FixedBody.{Ghosts}
use Rattle.reader.specs.declared.listed.Listed.{Listed}
use Rattle.reader.specs.declared.listed.ListedLeft.{ListedLeft}

-- a bucket as a body: its number, of four bytes
abbrev pub bucket_body : Ghosts Bucket
bucket_body = record { Seen = Bucket; seen = λ b. b; width = 4; read = bucket_read }

abbrev pub ReservedBuckets : Type 0
ReservedBuckets = Listed Bucket bucket_body

-- the buckets at their places
abbrev pub buckets_listed : ReservedBuckets → List Bucket
buckets_listed r = buckets_here r.list.now r.places.now

-- those that are left
abbrev pub buckets_left : ListedLeft Bucket bucket_body → List Bucket
buckets_left l = buckets_listed l.listed
