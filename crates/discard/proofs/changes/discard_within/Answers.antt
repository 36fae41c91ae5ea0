use Rattle.std.proofs.Common.{ℕ}
use lib.ListN.{length-replicate}
use Rattle.discard.proofs.OutcomeLaws.{ready-found, chosen-shown, changes-are}
use Rattle.discard.proofs.changes.discard_within.Goals as goal

pub discarded_in-requires : goal.discarded_in-requires
discarded_in-requires g c = ((ready-found c.args.list.now.given).allocs, rw (length-replicate {A = ℕ} g.row.N 0) c.requires.1)

pub invariant_of-d : goal.invariant_of-d
invariant_of-d g c = record { shown = chosen-shown c.args.list.now.given (rw c.requires.0 at c.discarded_in.ensures.keys) }

pub returns : goal.returns
returns g c = rw (c.new.ensures, c.discarded_in.ensures.keys, c.requires.0, c.args.list.now.same_size, changes-are c.args.list.now.given) at c.written.ensures
