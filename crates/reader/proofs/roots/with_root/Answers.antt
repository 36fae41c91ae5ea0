use Rattle.calls.specs.Apply.{root_bit}
use Rattle.reader.specs.Roots.{root_id, with_root}
use Rattle.reader.proofs.RootBits.{or-bit}
use Rattle.reader.proofs.roots.with_root.Goals as goal

pub returns : goal.returns
unfolding with_root
returns c = rw c.bit.ensures (or-bit (root_bit (root_id c.args.root)) c.args.roots)
