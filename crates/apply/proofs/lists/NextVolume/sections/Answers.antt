-- A volume that was read has the sections' keys there, and the queue has their queued keys.
use Rattle.apply.proofs.SectionPlaces.{sections-ready}
use Rattle.apply.proofs.lists.NextVolume.sections.Goals as goal

pub returns : goal.returns
returns c =
    let v = c.self.view_is in
    rw (← v, c.new.ensures, c.tag.ensures, c.new-2.ensures, c.tag-2.ensures, c.new-3.ensures, c.tag-3.ensures, c.new-4.ensures, c.tag-4.ensures, c.new-5.ensures, c.tag-5.ensures, c.new-6.ensures, c.tag-6.ensures, c.new-7.ensures)
    (sections-ready c.self.invariant.0 (rw (← v) at c.queued.ensures) (rw (← v) at c.queued-2.ensures) (rw (← v) at c.queued-3.ensures) (rw (← v) at c.queued-4.ensures) (rw (← v) at c.queued-5.ensures) (rw (← v) at c.queued-6.ensures) (rw (← v) at c.queued-7.ensures))
