use Rattle.reader.proofs.ListedKeyLaws.{whole-rest}
use Rattle.reader.proofs.listed_keys.KeysLeftIterator.next.Goals as goal

pub invariant_of-self : goal.invariant_of-self
invariant_of-self c = record { whole = whole-rest c.in_ok-first.ensures.cases.0 c.args.self.now.keys.whole }
