use Rattle.std.proofs.Common.{arith, refl, ◌≤◌, length}
use Rattle.calls.proofs.answers.OutcomeLaws.{answer-short, answer-fits, refused, accepted}
use Rattle.reader.proofs.answer.written_of_length.Goals as goal

pub returns-then-out-n : goal.returns-then-out-n
returns-then-out-n g c =
    refused 21 c.args.out.now (answer-short (g.E.Emit.bytes c.args.e.now) (length c.args.out.now) (omega arith)) refl

pub returns : goal.returns
returns g c =
    let xs = c.args.out.now in
    let bs = g.E.Emit.bytes c.args.e.now in
    let fits : length bs ≤ length xs = omega arith in
    accepted bs xs (answer-fits bs (length xs) fits) (omega arith) c.put_into.ensures
