use Rattle.std.proofs.Common.{arith, ap, refl, ◌∙◌}
use Rattle.wire.specs.Output.{with_bytes}
use Rattle.lines.proofs.DigitLaws.{fill_none, fill_more, filled}
use Rattle.lines.proofs.digits.put_digits.Goals as goal

pub loop-i-init : goal.loop-i-init
loop-i-init c = (omega arith, fill_none _ _ _ refl)

pub loop-i-preserved : goal.loop-i-preserved
loop-i-preserved c = (omega arith, rw c.digit_of.ensures (fill_more c.loop-i.invariant.1 (omega arith)))

pub returns : goal.returns
returns c =
    c.put_slice.ensures ∙ ap (with_bytes c.args.out.now) (filled c.loop-i.invariant.1 c.args.count (omega arith) (omega arith))
