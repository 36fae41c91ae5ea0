use Rattle.std.proofs.Common.{arith, ap, ◌∙◌, ℕ}
use Rattle.wire.specs.Output.{with_bytes}
use Rattle.lines.specs.Digits.{last_digits, decimal}
use Rattle.lines.proofs.DigitLaws.{width-most}
use Rattle.lines.proofs.digits.put_decimal.Goals as goal

pub put_digits-requires : goal.put_digits-requires
put_digits-requires c = (omega arith, omega arith, omega (arith, c.width_of.ensures, width-most 19 c.args.n))

pub returns : goal.returns
unfolding decimal
returns c = c.put_digits.ensures ∙ ap (λ (k : ℕ). with_bytes c.args.out.now (last_digits 10 k c.args.n)) c.width_of.ensures
