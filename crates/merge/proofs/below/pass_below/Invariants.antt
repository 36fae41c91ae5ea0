-- The stretch so far, and the keys below the limit that are left.
use Rattle.merge.proofs.MergeLaws.{Stretching}
use Rattle.merge.proofs.below.pass_below.Given as goal

abbrev pub invariant-loop-n : goal.invariant-loop-n
invariant-loop-n l = Stretching l.section l.vol l.keys l.start l.fn.counted l.lim l.n l.end l.count
