use Rattle.std.proofs.Common.{◌≡◌}
use Rattle.lines.proofs.LineLaws.{LinesLeft}
use Rattle.lines.proofs.change_lines.put_lines.Given as goal

abbrev pub invariant-loop-field : goal.invariant-loop-field
invariant-loop-field l = (l.field-iterator.list.now ≡ l.change) × LinesLeft l.change l.fn.out l.field-iterator.at l.out
