-- The loop's invariant: each count and what is left for its bucket are all of it.
use Rattle.std.proofs.Common.{length}
use Rattle.place_keys.proofs.BucketLaws.{DirtyCounting}
use Rattle.place_keys.proofs.dirty.fill_dirty.Given as goal

abbrev pub invariant-loop-slot : goal.invariant-loop-slot
invariant-loop-slot l = DirtyCounting l.plan.list.now l.plan.taken.now l.dirty (length l.yielded)
