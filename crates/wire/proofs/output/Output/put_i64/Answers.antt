use Rattle.std.proofs.Common.{refl}
use mir.Syntax.{w64}
use mir.ValLaws.{to_z-of_z}
use Rattle.wire.specs.Rows.{signed_bytes}
use Rattle.wire.proofs.AppendLaws.{bytes_64}
use Rattle.wire.proofs.output.Output.put_i64.Goals as goal

pub returns : goal.returns
unfolding signed_bytes
returns c = rw (c.put_number.ensures, c.to_le_bytes.ensures, to_z-of_z w64 c.args.x c.ranges.x, bytes_64) refl
