use Rattle.std.proofs.Common.{ap, ◌∙◌}
use Rattle.wire.specs.Output.{with_bytes}
use Rattle.wire.proofs.AppendLaws.{then}
use Rattle.lines.proofs.LineLaws.{placed-line}
use Rattle.lines.proofs.other_lines.put_placed.Goals as goal

pub returns : goal.returns
returns c =
    let sector = rw c.le64.ensures at c.put_next_decimal.ensures in
    let stored = rw c.le16.ensures at c.put_next_decimal-2.ensures in
    let bucket = rw c.le32.ensures at c.put_next_decimal-3.ensures in
    let generation = rw c.le8.ensures at c.put_next_decimal-4.ensures in
    then _ _ _ c.put_slice.ensures (then _ _ _ sector (then _ _ _ stored (then _ _ _ bucket (then _ _ _ generation c.put_u8.ensures))))
    ∙ ap (with_bytes c.args.out.now) (placed-line c.args.body.now)
