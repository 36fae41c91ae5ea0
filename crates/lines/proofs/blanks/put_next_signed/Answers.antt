use mir.Syntax.{w64}
use Rattle.std.proofs.lemmas.Int.{to_z-of_z}
use Rattle.wire.proofs.AppendLaws.{then}
use Rattle.lines.proofs.blanks.put_next_signed.Goals as goal

pub returns : goal.returns
returns c = then _ _ _ c.put_u8.ensures (rw (to_z-of_z w64 c.args.n c.ranges.n) at c.put_signed.ensures)
