use Rattle.release_keys.proofs.table.FreedBucket.key.Goals as goal

pub invariant_of-result : goal.invariant_of-result
invariant_of-result c = record { whole = c.requires c.in_ok-at.at c.in_ok-at.was }
