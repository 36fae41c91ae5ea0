use Rattle.calls.specs.Apply.{root_bit}
use Rattle.reader.specs.Roots.{root_id}
use Rattle.reader.proofs.RootBits.{missing-is}
use Rattle.reader.proofs.roots.is_missing.Goals as goal

pub returns : goal.returns
returns c = rw c.bit.ensures (missing-is (root_bit (root_id c.args.root)) c.args.roots)
