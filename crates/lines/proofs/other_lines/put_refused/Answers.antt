use Rattle.lines.specs.Lines.{refused_line}
use Rattle.lines.proofs.other_lines.put_refused.Goals as goal

pub returns : goal.returns
unfolding refused_line
returns c = c.put_named.ensures
