use Rattle.std.proofs.Common.{sym, ◌∙◌}
use Rattle.reader.specs.ListedKeys.{key_listed}
use Rattle.reader.proofs.CheckedLaws.{range_at}
use Rattle.bucket_bits.specs.Bits.{used_mark}
use Rattle.bucket_bits.proofs.MarkLaws.{used-inode-0}
use Rattle.bucket_bits.proofs.marks.BucketBits.mark_key.Goals as goal

pub mark-requires : goal.mark-requires
mark-requires c =
    let k = key_listed c.args.key in
    rw c.bucket.ensures (range_at k c.requires (used-inode-0 k (sym c.in_use.ensures ∙ c.if-in_use.true)))

pub returns-then-in_use : goal.returns-then-in_use
unfolding used_mark
returns-then-in_use c = rw (c.mark.ensures, c.bucket.ensures, ← c.in_use.ensures, c.if-in_use.true)

pub returns-else-in_use : goal.returns-else-in_use
unfolding used_mark
returns-else-in_use c = rw (← c.in_use.ensures, c.if-in_use.false)
