use Rattle.reader.specs.ListedKeys.{keys_listed, keys_left}
use Rattle.reader.specs.ListedBuckets.{buckets_listed}
use Rattle.freespace.proofs.FreeLaws.{FreeCounting}
use Rattle.freespace.proofs.runs.free_count.Given as goal

abbrev pub invariant-loop-key : goal.invariant-loop-key
invariant-loop-key l = FreeCounting (keys_listed l.fn.runs) (buckets_listed l.fn.reserved) l.free l.below (keys_left l.key-iterator)
