use Rattle.release_keys.proofs.RowLaws.{held-first, held-rest}
use Rattle.release_keys.proofs.table.HeldLeftIterator.next.Goals as goal

pub invariant_of-held : goal.invariant_of-held
invariant_of-held c = record { held = held-first c.in_ok-first.ensures.cases.0 c.args.self.now.held }

pub invariant_of-self : goal.invariant_of-self
invariant_of-self c = record { held = held-rest c.in_ok-first.ensures.cases.0 c.args.self.now.held }
