use Rattle.std.proofs.Common.{refl, arith}
use Rattle.discard.proofs.OutcomeLaws.{ready-found}
use Rattle.discard.proofs.changes.discard_tabled.Goals as goal

pub tabled-waiting-requires : goal.tabled-waiting-requires
tabled-waiting-requires c = let r = ready-found c.args.list.now.given in (r.waits, r.few_waits, refl)

pub discard_within-requires-else-len-le64 : goal.discard_within-requires-else-len-le64
discard_within-requires-else-len-le64 c = (c.tabled-waiting.ensures, (ready-found c.args.list.now.given).few_allocs, omega arith)
