use Rattle.std.proofs.Common.{append-nil}
use Rattle.wire.specs.Encode.{encode_field}
use Rattle.change_fields.proofs.batch_end.put_end.Goals as goal

pub returns : goal.returns
unfolding encode_field
returns c = simp (c.put_head.ensures, c.number.ensures, append-nil)
