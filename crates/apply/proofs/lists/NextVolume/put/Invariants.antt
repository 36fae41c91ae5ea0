-- The sections that are left to be written.
use Rattle.apply.proofs.ResultLaws.{Sectioning}
use Rattle.apply.proofs.lists.NextVolume.put.Given as goal

abbrev pub invariant-loop-section : goal.invariant-loop-section
invariant-loop-section l = Sectioning l.self l.fn.out l.out l.within l.section-index
