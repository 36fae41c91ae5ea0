use Rattle.std.proofs.Common.{refl}
use Rattle.reader.proofs.RootBits.{rootless}
use Rattle.reader.proofs.roots.RootTryFromU8.try_from.Goals as goal

pub returns-in_default-2 : goal.returns-in_default-2
returns-in_default-2 c = (refl, rootless (rw c.in_default.is at c.try_from.ensures).1)
