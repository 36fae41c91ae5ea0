use Rattle.std.proofs.Common.{arith, refl, sym, ◌∙◌, pos, get_or}
use Rattle.wire.specs.Numbers.{each}
use Rattle.wire.specs.Rows.{signed_bytes}
use Rattle.wire.proofs.AppendLaws.{loop-turn, loop-end}
use Rattle.wire.proofs.SignedLaws.{back}
use Rattle.wire.proofs.output.Output.put_numbers.Goals as goal

pub loop-x-preserved : goal.loop-x-preserved
unfolding each
loop-x-preserved c =
    let i = c.loop-x.x-index in
    let x = get_or c.args.numbers.now i (pos 0) in
    let w = rw (back x (omega arith)) at c.put_i64.ensures in
    loop-turn (each signed_bytes) c.args.numbers.now i (pos 0) (signed_bytes x) c.loop-x.self c.put_i64.new.self (omega arith) refl w ∙ c.loop-x.invariant

pub returns : goal.returns
unfolding each
returns c =
    sym (loop-end (each signed_bytes) c.args.numbers.now c.loop-x.x-index c.loop-x.self (omega arith) refl) ∙ c.loop-x.invariant
