use Rattle.wire.proofs.FilledLaws.{filled-front}
use Rattle.wire.proofs.keys.Value.new.Goals as goal

-- the bytes lie at the front of zeros
pub invariant_of-result : goal.invariant_of-result
invariant_of-result c = rw (c.copy_from_slice.ensures.after) (filled-front 256 c.args.b.now c.requires)
