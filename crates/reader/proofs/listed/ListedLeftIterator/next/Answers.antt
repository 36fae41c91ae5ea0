use Rattle.reader.proofs.ListedKeyLaws.{bodies-rest}
use Rattle.reader.proofs.listed.ListedLeftIterator.next.Goals as goal

pub new-self-requires : goal.new-self-requires
new-self-requires g c = bodies-rest c.in_ok-first.ensures.cases.0 c.args.self.now.listed.whole
