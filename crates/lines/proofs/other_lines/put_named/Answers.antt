use Rattle.std.proofs.Common.{ap, ◌∙◌}
use Rattle.wire.specs.Output.{with_bytes}
use Rattle.wire.proofs.AppendLaws.{then}
use Rattle.lines.proofs.LineLaws.{named-line}
use Rattle.lines.proofs.other_lines.put_named.Goals as goal

pub returns : goal.returns
returns c =
    then _ _ _ c.put_slice.ensures (then _ _ _ c.put_next_decimal.ensures c.put_u8.ensures)
    ∙ ap (with_bytes c.args.out.now) (named-line c.args.name.now c.args.n)
