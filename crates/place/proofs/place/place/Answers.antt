use Rattle.std.proofs.Common.{Some, length, rules}
use Rattle.calls.specs.Answers as answers
use Rattle.reader.proofs.LendingLaws.{moved, list-answered}
use Rattle.place.proofs.ReadLaws.{place-refused}
use Rattle.place.proofs.place.place.Goals as goal

pub returns : goal.returns
returns c =
    let e = c.with_list.ensures in
    list-answered answers.place (Some c.number.result) c.with_list.result e.refused (rw c.number.ensures (place-refused c.args.list.now (length c.args.out.now)))
    (λ z. let m = e.answered z in moved answers.place c.with_list.result m.is_of m.out-shows m.out-leaves (search rules))
