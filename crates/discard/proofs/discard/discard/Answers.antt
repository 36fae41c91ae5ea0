use Rattle.std.proofs.Common.{Some, length, rules}
use Rattle.calls.specs.Answers.{discard}
use Rattle.reader.proofs.LendingLaws.{moved, list-answered}
use Rattle.discard.proofs.OutcomeLaws.{discard-refused}
use Rattle.discard.proofs.discard.discard.Goals as goal

pub returns : goal.returns
returns c =
    let e = c.with_list.ensures in
    list-answered discard (Some c.number.result) c.with_list.result e.refused (rw c.number.ensures (discard-refused c.args.list.now (length c.args.out.now)))
    (λ z. let m = e.answered z in moved discard c.with_list.result m.is_of m.out-shows m.out-leaves (search rules))
