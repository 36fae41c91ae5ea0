use Rattle.std.proofs.Common.{refl}
use Rattle.need_discard.proofs.ChosenLaws.{chosen-whole, chosen-all}
use Rattle.need_discard.proofs.discarded.discarded_in.Goals as goal

pub invariant_of-result : goal.invariant_of-result
invariant_of-result c = let a = c.args.alloc in record { whole = rw c.discarded_keys-n.ensures.1 (chosen-whole c.args.waiting.now a.list.now a.places.now a.whole) }

pub returns-clause-keys : goal.returns-clause-keys
returns-clause-keys c = let a = c.args.alloc in rw c.discarded_keys-n.ensures.1 (chosen-all c.args.waiting.now a.list.now a.places.now)

pub returns-clause-places : goal.returns-clause-places
returns-clause-places c = (refl, c.discarded_keys-n.ensures.1)
