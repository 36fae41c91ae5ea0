use Rattle.reader.proofs.TagLaws.{call-unnamed}
use Rattle.reader.proofs.named_field.NamedField.may_stand.Goals as goal

pub returns-in-Some : goal.returns-in-Some
returns-in-Some c = rw (c.args.self.named.is _ c.in-Some.is) c.body_may_stand.ensures

pub returns-in-None : goal.returns-in-None
returns-in-None c = call-unnamed (c.args.self.named.none c.in-None.is) _ _
