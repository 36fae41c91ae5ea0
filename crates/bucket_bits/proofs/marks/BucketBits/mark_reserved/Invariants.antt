use Rattle.wire.specs.Kinds.{same_bucket, bucket_in_range}
use Rattle.reader.specs.ListedBuckets.{buckets_listed, buckets_left}
use Rattle.bucket_bits.proofs.MarkLaws.{Marking}
use Rattle.bucket_bits.proofs.marks.BucketBits.mark_reserved.Given as goal

abbrev pub invariant-loop-b : goal.invariant-loop-b
invariant-loop-b l =
    Marking (λ a b. same_bucket a b) bucket_in_range (buckets_listed l.fn.reserved) (buckets_left l.b-iterator) l.self
