use Rattle.reader.specs.Checked.{in_range}
use Rattle.reader.specs.ListedKeys.{keys_listed, keys_left}
use Rattle.bucket_bits.proofs.MarkLaws.{Marking, uses_bucket}
use Rattle.bucket_bits.proofs.marks.BucketBits.mark_used.Given as goal

abbrev pub invariant-loop-key : goal.invariant-loop-key
invariant-loop-key l = Marking uses_bucket in_range (keys_listed l.fn.keys) (keys_left l.key-iterator) l.self
