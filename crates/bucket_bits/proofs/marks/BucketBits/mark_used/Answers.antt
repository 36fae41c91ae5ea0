use Rattle.std.proofs.Common.{sym, ◌∙◌}
use Rattle.calls.proofs.trees.SortedLaws.{keys-order}
use Rattle.reader.specs.Checked.{in_range}
use Rattle.bucket_bits.proofs.MarkLaws.{marking-start, marking-end, first-ranged, uses_bucket, used-any, used-more}
use Rattle.bucket_bits.proofs.marks.BucketBits.mark_used.Goals as goal

pub loop-key-init : goal.loop-key-init
loop-key-init c =
    rw (c.into_iter-key-iterator.ensures.into_iter_gives, c.iter-key-items.ensures) (marking-start uses_bucket in_range _ _ c.requires.1 c.requires.0.range)

pub mark_key-requires : goal.mark_key-requires
mark_key-requires c = first-ranged uses_bucket in_range _ c.loop-key.invariant c.in-Some.ensures.steps.keys

pub loop-key-preserved : goal.loop-key-preserved
loop-key-preserved c = rw c.mark_key.ensures (used-more c.loop-key.invariant c.in-Some.ensures.steps.keys)

pub returns : goal.returns
returns c =
    let o = keys-order _ c.requires.0.order in
    let m = marking-end uses_bucket in_range _ c.loop-key.invariant c.in-None.ensures.steps in
    record { told = λ b h. m.told b h ∙ sym (used-any b _ o.0 o.1) }
