use Rattle.std.proofs.Common.{append_assoc, arith, ◌≡◌, ◌%◌}
use Rattle.wire.specs.Encode.{encode_field}
use Rattle.wire.specs.Numbers.{le_bytes}
use Rattle.calls.specs.ChangeList.{spot_body}
use Rattle.wire.proofs.AppendLaws.{with-with}
use Rattle.place_keys.proofs.spots.put_spot.Goals as goal

pub returns : goal.returns
unfolding encode_field spot_body le_bytes
returns c =
    let g : c.args.p.generation % 256 ≡ c.args.p.generation = omega arith in
    simp (c.number.ensures, c.put_head.ensures, c.put_sector.ensures, c.put_u16.ensures, c.put_bucket_bytes.ensures, c.put_u8.ensures, with-with, append_assoc, g)
