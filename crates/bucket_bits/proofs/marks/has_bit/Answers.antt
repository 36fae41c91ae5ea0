use Rattle.bucket_bits.proofs.BitLaws.{bit-tested}
use Rattle.bucket_bits.proofs.marks.has_bit.Goals as goal

pub returns : goal.returns
returns c = bit-tested c.args.k c.args.x
