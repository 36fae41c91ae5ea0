use Rattle.std.proofs.Common.{arith, refl, length}
use Rattle.std.proofs.lemmas.Result.{err_from_is_err_and}
use Rattle.calls.specs.Answers.{read_call}
use Rattle.calls.specs.Place.{place_tests}
use Rattle.calls.proofs.answers.OutcomeLaws.{refused}
use Rattle.reader.proofs.NumberLaws.{some-number}
use Rattle.place.proofs.CallLaws.{answer-refused}
use Rattle.place.proofs.ReadLaws.{called, place-on}
use Rattle.place.proofs.place.place_read.Goals as goal

pub invariant_of-asked : goal.invariant_of-asked
invariant_of-asked c = record { called = called c.requires c.asked-pieces.ensures.are c.asked-pieces.ensures.few }

pub returns-in_err-chosen : goal.returns-in_err-chosen
returns-in_err-chosen c =
    let p = err_from_is_err_and c.from_residual.result c.from_residual.ensures.1 in
    let some = some-number c.in_err-chosen.field-0.0 in
    rw (p.1, p.2)
    (place-on c.args.read.now.list.now (length c.args.out.now) c.args.out.now c.requires.passed
    (refused _ _ (answer-refused (place_tests (read_call c.args.read.now.list.now)) _ _ c.in_err-chosen.ensures.refusal (omega (arith, some))) refl))
