use Rattle.std.proofs.Common.{arith, rules, sym, ap, ◌≡◌, ◌∙◌, length}
use Rattle.wire.specs.declared.output.Output.{Output}
use Rattle.wire.proofs.NumberLaws.{bytes-from}
use Rattle.reader.proofs.AnswerLaws.{same-slice}
use Rattle.lines.specs.Program.{bucket_lines}
use Rattle.lines.proofs.WrittenLaws.{printed-most}
use Rattle.lines.proofs.ProgramLaws.{shows}
use Rattle.lines.proofs.program.bucket_lines.Goals as goal

-- it is the text that was lent
pub shape_of-text : goal.shape_of-text
shape_of-text c =
    sym c.new-out.ensures.same_reference ∙ sym (same-slice c.new-out.result (bucket_lines c.args.list.now))
    ∙ ap (λ (o : Output). o.bytes.ghost_name) (sym c.put_bucket_lines.ensures)

pub returns : goal.returns
returns c =
    let s = c.args.list.now in
    let o = c.new-out.result in
    let before = c.new-out.ensures.same_bytes in
    let size : length c.args.text.now ≡ 262144 = search rules in
    let most = printed-most s (bytes-from s (λ i. let h = c.type_inv.list i in omega arith)) in
    let shown = shows o (bucket_lines s) c.new-out.ensures.front (rw before size) most in
    let left = rw (← c.put_bucket_lines.ensures, before) at shown in
    search (rules, left)
