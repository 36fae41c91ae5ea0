-- A field that is found lies within the list, behind the place.
use Rattle.std.proofs.Common.{sym, arith}
use Rattle.wire.proofs.FieldLaws.{field-at}
use Rattle.wire.proofs.fields.FieldsIterator.next.Goals as goal

pub overflow_add-self : goal.overflow_add-self
overflow_add-self c = omega (arith, (field-at _ _ _ _ _ (sym c.in_ok-field.ensures.place)).within)

pub invariant_of-self : goal.invariant_of-self
invariant_of-self c = record { within = (field-at _ _ _ _ _ (sym c.in_ok-field.ensures.place)).within }

pub returns-clause-goes : goal.returns-clause-goes
returns-clause-goes c =
    let f = field-at _ _ _ _ _ (sym c.in_ok-field.ensures.place) in
    record { on = λ u. (tt, tt, omega (arith, f.within, f.on)); keeps = tt; rests = λ u. tt }
