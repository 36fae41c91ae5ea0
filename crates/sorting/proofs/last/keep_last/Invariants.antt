use Rattle.sorting.proofs.KeepLaws.{Keeping}
use Rattle.sorting.proofs.last.keep_last.Given as goal

abbrev pub invariant-loop-i : goal.invariant-loop-i
invariant-loop-i l = Keeping l.s l.fn.t l.t l.n l.i
