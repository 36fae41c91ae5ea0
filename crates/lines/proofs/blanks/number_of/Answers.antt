use Rattle.std.proofs.Common.{◌∙◌}
use Rattle.lines.proofs.WordLaws.{number-of}
use Rattle.lines.proofs.blanks.number_of.Goals as goal

pub returns : goal.returns
returns c = c.from_le_bytes.ensures ∙ number-of c.copy_from_slice.new.self c.args.part.now c.copy_from_slice.ensures.after
