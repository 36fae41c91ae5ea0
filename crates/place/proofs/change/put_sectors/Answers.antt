use Rattle.wire.specs.Encode.{encode_field}
use Rattle.wire.specs.Numbers.{le_bytes}
use Rattle.wire.proofs.AppendLaws.{with-with}
use Rattle.place.proofs.change.put_sectors.Goals as goal

pub returns : goal.returns
unfolding encode_field le_bytes
returns c = simp (c.number.ensures, c.put_head.ensures, c.put_u64.ensures, with-with)
