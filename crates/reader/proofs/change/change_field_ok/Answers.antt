use Rattle.reader.proofs.TagLaws.{change-unnamed}
use Rattle.reader.proofs.change.change_field_ok.Goals as goal

pub returns-in_default : goal.returns-in_default
returns-in_default c = change-unnamed (rw c.in_default.is at c.try_from.ensures).1 _
