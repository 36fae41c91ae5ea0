-- The keys that are put are those of the next volume.
use Rattle.apply.proofs.ResultLaws.{done-next}
use Rattle.apply.proofs.lists.NextVolume.put_section.Goals as goal

pub returns-in-Some : goal.returns-in-Some
returns-in-Some c =
    rw (← c.self.view_is) (done-next _ _ _ (rw (← c.self.view_is) at c.requires.keys.all) (rw c.new-rest.ensures at c.put_section.ensures))

pub returns-in-None : goal.returns-in-None
returns-in-None c =
    rw (← c.self.view_is) (done-next _ _ _ (rw (← c.self.view_is) at c.requires.keys.all) (rw c.new-rest.ensures at c.put_section_in_chunks.ensures))
