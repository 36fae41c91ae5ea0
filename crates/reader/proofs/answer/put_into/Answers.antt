use Rattle.std.proofs.Common.{arith, ap, sym, ◌∙◌, ◌≡◌, ◌++◌, List, ℕ, length, drop}
use Rattle.wire.specs.declared.output.Output.{Output}
use Rattle.wire.specs.Output.{with_bytes}
use Rattle.reader.proofs.AnswerLaws.{whole-run, same-slice}
use Rattle.reader.proofs.answer.put_into.Goals as goal

pub returns : goal.returns
returns g c =
    let bs = g.E.Emit.bytes c.args.e.now in
    let before = c.new-front.ensures.same_bytes in
    let run : (with_bytes c.new-front.result bs).bytes.now ≡ bs ++ drop (length bs) c.new-front.result.bytes.now =
    whole-run c.new-front.result bs c.new-front.ensures.front (rw before c.requires) (omega arith) in
    let name = sym c.new-front.ensures.same_reference ∙ sym (same-slice c.new-front.result bs) ∙ ap (λ (o : Output). o.bytes.ghost_name) (sym c.emit.ensures) in
    c.out-1.given.1.1 name ∙ ap (λ (o : Output). o.bytes.now) c.emit.ensures ∙ run ∙ ap (λ (ys : List ℕ). bs ++ drop (length bs) ys) before
