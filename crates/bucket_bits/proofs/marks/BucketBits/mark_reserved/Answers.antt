use Rattle.wire.specs.Kinds.{same_bucket, bucket_in_range}
use Rattle.calls.specs.Freespace.{is_in}
use Rattle.bucket_bits.proofs.MarkLaws.{marking-start, marking-end, first-ranged, reserved-more}
use Rattle.bucket_bits.proofs.marks.BucketBits.mark_reserved.Goals as goal

pub loop-b-init : goal.loop-b-init
loop-b-init c =
    rw (c.into_iter-b-iterator.ensures.into_iter_gives, c.iter-b-items.ensures)
    (marking-start (λ a b. same_bucket a b) bucket_in_range _ _ c.requires.1 c.requires.0.range)

pub mark-requires : goal.mark-requires
mark-requires c = first-ranged (λ a b. same_bucket a b) bucket_in_range _ c.loop-b.invariant c.in-Some.ensures.steps

pub loop-b-preserved : goal.loop-b-preserved
loop-b-preserved c = rw c.mark.ensures (reserved-more c.loop-b.invariant c.in-Some.ensures.steps)

pub returns : goal.returns
unfolding is_in
returns c = marking-end (λ a b. same_bucket a b) bucket_in_range _ c.loop-b.invariant c.in-None.ensures.steps.0
