-- The queue's part has the section's queued keys.
use Rattle.std.proofs.Common.{refl}
use Rattle.apply.proofs.ResultLaws.{queue-ready}
use Rattle.apply.proofs.lists.NextVolume.queued.Goals as goal

pub returns : goal.returns
returns c = rw (← c.self.view_is) (queue-ready _ (rw c.in_ok-self.was at c.self.invariant.2) c.args.i c.requires _ refl)
