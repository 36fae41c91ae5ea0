use Rattle.std.proofs.Common.{rules, tests}
use Rattle.next_fit.proofs.LastSlotLaws.{needed}
use Rattle.next_fit.proofs.layout.buckets_needed.Goals as goal

pub returns : goal.returns
returns c =
    needed c.args.slots.now c.last.result c.map_or.result c.last.ensures.value (λ e. rw e at c.map_or.ensures)
    (λ x e. let p = rw e at c.map_or.ensures in search (rules, tests))
