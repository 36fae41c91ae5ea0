use Rattle.reader.proofs.TagLaws.{within-unnamed}
use Rattle.reader.proofs.named_field.NamedField.keeps_limits.Goals as goal

pub body_within-requires : goal.body_within-requires
body_within-requires c = rw (c.args.self.named.is _ c.in-Some.is) at c.requires

pub returns-in-Some : goal.returns-in-Some
returns-in-Some c = rw (c.args.self.named.is _ c.in-Some.is) c.body_within.ensures

pub returns-in-None : goal.returns-in-None
returns-in-None c = within-unnamed (c.args.self.named.none c.in-None.is) _
