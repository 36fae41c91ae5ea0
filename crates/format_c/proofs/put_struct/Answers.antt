use Rattle.std.proofs.Common.{arith, rules, sym, ap, ◌∙◌}
use Rattle.wire.specs.declared.output.Output.{Output}
use Rattle.wire.specs.Numbers.{words_bytes}
use Rattle.format_c.proofs.SizedLaws.{wrote_front, same-slice}
use Rattle.format_c.proofs.put_struct.Goals as goal

pub returns : goal.returns
returns c =
    let bs = words_bytes c.args.words.now in
    let before = c.new-front.ensures.same_bytes in
    let name = sym c.new-front.ensures.same_reference ∙ sym (same-slice c.new-front.result bs) ∙ ap (λ (o : Output). o.bytes.ghost_name) (sym c.put_words.ensures) in
    let e = c.put_words.ensures in
    let w = wrote_front c.new-front.result c.args.words.now c.new-front.ensures.front (rw before (omega arith)) c.requires in
    let h = rw (← e, before) at w in
    search (rules, h, name)
