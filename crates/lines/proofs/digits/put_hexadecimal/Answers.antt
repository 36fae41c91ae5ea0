use Rattle.lines.specs.Digits.{hexadecimal}
use Rattle.lines.proofs.digits.put_hexadecimal.Goals as goal

pub returns : goal.returns
unfolding hexadecimal
returns c = c.put_digits.ensures
