-- The front, one section more, and all.
use Rattle.std.proofs.Common.{arith, ap}
use Rattle.apply.proofs.ResultLaws.{sections-start, sections-on, sections-end}
use Rattle.apply.proofs.SectionPlaces.{section-at-index}
use Rattle.apply.proofs.lists.NextVolume.put.Goals as goal

pub loop-section-init : goal.loop-section-init
loop-section-init c = rw (← c.self.view_is) (sections-start c.self.invariant.0 c.self.invariant.1 c.put_front.ensures)

pub put_section-requires : goal.put_section-requires
put_section-requires c = (section-at-index c.sections.ensures _ c.loop-section.section-index c.loop-section-test.true).1

pub loop-section-preserved : goal.loop-section-preserved
loop-section-preserved c =
    let s = section-at-index c.sections.ensures _ c.loop-section.section-index c.loop-section-test.true in
    rw c.is_within-within.ensures (sections-on c.loop-section.invariant (omega arith) s.0 c.put_section.ensures)

pub returns : goal.returns
returns c =
    let n = c.self.view_is in
    sections-end c.loop-section.invariant c.self.invariant.0 (ap (λ x. x.volume) n) (ap (λ x. x.change) n) (omega arith)
