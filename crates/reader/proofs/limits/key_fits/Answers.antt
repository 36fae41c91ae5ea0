use Rattle.reader.proofs.TagLaws.{fits-unnamed}
use Rattle.reader.proofs.limits.key_fits.Goals as goal

pub returns-in_default : goal.returns-in_default
returns-in_default c = fits-unnamed (rw c.in_default.is at c.try_from.ensures).1 _ _
