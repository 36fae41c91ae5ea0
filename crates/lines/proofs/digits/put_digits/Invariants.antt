-- The last digits are stored, and the rest has the others.
use Rattle.std.proofs.Common.{◌+◌, ◌≤◌}
use Rattle.lines.proofs.DigitLaws.{DigitsFilled}
use Rattle.lines.proofs.digits.put_digits.Given as goal

abbrev pub invariant-loop-i : goal.invariant-loop-i
invariant-loop-i l = (20 ≤ l.i + l.count) × DigitsFilled l.base l.n l.text l.i l.rest
