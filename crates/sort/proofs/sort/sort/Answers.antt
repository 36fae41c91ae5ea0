use Rattle.std.proofs.Common.{Some, length, rules}
use Rattle.calls.specs.Answers.{sort}
use Rattle.reader.specs.Heads.{call_byte}
use Rattle.reader.specs.Readings.{ReadAs}
use Rattle.reader.proofs.LendingLaws.{moved, list-answered}
use Rattle.sort.proofs.OutcomeLaws.{sort-refused, read-own}
use Rattle.sort.proofs.sort.sort.Goals as goal

pub with_list-requires : goal.with_list-requires
with_list-requires c =
    record {
      callable = λ r t o q e x y.
          let own : ReadAs (Some (call_byte r.now.list.now)) r.now = read-own c.call_byte-own.ensures e q in
          search rules;
    }

pub returns : goal.returns
returns c =
    let e = c.with_list.ensures in
    list-answered sort (Some c.call_byte-own.result) c.with_list.result e.refused (sort-refused c.args.list.now (length c.args.out.now) c.call_byte-own.ensures)
    (λ z. let m = e.answered z in moved sort c.with_list.result m.is_of m.out-shows m.out-leaves (search rules))
