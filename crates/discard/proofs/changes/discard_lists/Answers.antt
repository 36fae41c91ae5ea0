use Rattle.discard.proofs.OutcomeLaws.{ready-found}
use Rattle.discard.proofs.changes.discard_lists.Goals as goal

pub searched-waiting-requires : goal.searched-waiting-requires
searched-waiting-requires c = (ready-found c.args.list.now.given).waits
