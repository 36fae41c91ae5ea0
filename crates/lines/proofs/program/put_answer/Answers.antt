use Rattle.std.proofs.Common.{arith, sym, ap, ◌∙◌}
use Rattle.wire.specs.Output.{with_bytes}
use Rattle.wire.proofs.NumberLaws.{bytes-from}
use Rattle.calls.specs.ChangeList.{change_laid_out}
use Rattle.reader.proofs.NumberLaws.{some-number}
use Rattle.lines.specs.Program.{answer_by_byte}
use Rattle.lines.proofs.WrittenLaws.{answer-written}
use Rattle.lines.proofs.ProgramLaws.{lines-refused, lines-accepted}
use Rattle.lines.proofs.program.put_answer.Goals as goal

pub put_lines-requires : goal.put_lines-requires
put_lines-requires c =
    let s = c.args.list.now in
    let a = rw c.in-Ok.is at c.requires in
    ap change_laid_out a.bytes ∙ (answer-written s (bytes-from s (λ i. let h = c.type_inv.list i in omega arith)) (sym a.numbered)).1.laid_out

pub returns-in-Ok : goal.returns-in-Ok
returns-in-Ok c =
    let a = rw c.in-Ok.is at c.requires in
    c.put_lines.ensures ∙ ap (with_bytes c.args.out.now) (lines-accepted (answer_by_byte c.args.list.now) (sym a.numbered) a.bytes)

pub returns-in-Err : goal.returns-in-Err
returns-in-Err c =
    let a = rw c.in-Err.is at c.requires in
    let some = some-number c.in-Err.refusal in
    rw c.number.ensures at c.put_refused.ensures
    ∙ ap (with_bytes c.args.out.now) (lines-refused (answer_by_byte c.args.list.now) a.numbered (λ z. absurd (omega (arith, some))))
