use Rattle.std.proofs.Common.{arith}
use Rattle.wire.specs.Encode.{encode_field}
use Rattle.wire.specs.Numbers.{le_bytes}
use Rattle.wire.proofs.AppendLaws.{with-with, low_8}
use Rattle.wire.proofs.EncodeLaws.{encode_one}
use Rattle.change_fields.proofs.root_fields.put_root.Goals as goal

pub returns : goal.returns
unfolding encode_field le_bytes
returns c = simp (encode_one, c.put_head.ensures, c.number.ensures, c.put_u8.ensures, with-with, low_8 c.args.id (omega arith))
