-- Another field than a field 70.
use Rattle.apply.proofs.RootLaws.{other-field}
use Rattle.apply.proofs.front.after_field.Goals as goal

pub returns-then-field-number : goal.returns-then-field-number
returns-then-field-number c = other-field _ _ (rw c.number.ensures at c.if-field-number.true)
