use Rattle.std.proofs.Common.{arith, ap, ◌∙◌}
use Rattle.wire.specs.Output.{with_bytes}
use Rattle.lines.proofs.ProgramLaws.{prints-refused, prints-answer}
use Rattle.lines.proofs.program.put_bucket_lines.Goals as goal

pub returns-then-list-gt-LONGEST_LIST : goal.returns-then-list-gt-LONGEST_LIST
returns-then-list-gt-LONGEST_LIST c =
    let put = rw c.number.ensures at c.put_refused.ensures in
    put ∙ ap (with_bytes c.args.out.now) (prints-refused c.args.list.now (omega (arith, c.if-list-gt-LONGEST_LIST.true)))

pub returns : goal.returns
returns c =
    c.put_answer.ensures ∙ ap (with_bytes c.args.out.now) (prints-answer c.args.list.now (omega (arith, c.if-list-gt-LONGEST_LIST.false)))
