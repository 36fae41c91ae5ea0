use Rattle.bucket_bits.proofs.BitLaws.{bit-shifted}
use Rattle.bucket_bits.proofs.marks.with_bit.Goals as goal

pub returns : goal.returns
returns c = bit-shifted c.args.k c.args.x c.requires
