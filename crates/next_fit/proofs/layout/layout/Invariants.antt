-- The loop's invariant: the pieces below its index are laid out.
use Rattle.std.proofs.Common.{drop}
use Rattle.next_fit.proofs.LaidLaws.{LaidUpTo}
use Rattle.next_fit.proofs.layout.layout.Given as goal

abbrev pub invariant-loop-i : goal.invariant-loop-i
invariant-loop-i l = LaidUpTo l.bucket l.pieces l.i (drop l.i l.pieces) l.open l.slots
