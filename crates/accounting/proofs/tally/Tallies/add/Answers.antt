use Rattle.std.proofs.Common.{arith}
use Rattle.reader.specs.Pieces.{piece_in}
use Rattle.calls.proofs.lists.AllLaws.{all-nth}
use Rattle.accounting.proofs.TallyLaws.{kind-counts, no-kind-counts}
use Rattle.accounting.proofs.tally.Tallies.add.Goals as goal

pub add-requires-in-Some : goal.add-requires-in-Some
add-requires-in-Some c = all-nth (record { count = 0; file = 0; stored = 0 }) c.requires.kinds c.in-Some.i (omega (arith, c.in-Some.ensures.1))

pub returns-in-Some : goal.returns-in-Some
returns-in-Some c =
    let k = c.in-Some.ensures in
    rw (c.add.ensures, c.add-in-Some.ensures, kind-counts c.args.self.now.kinds c.in-Some.i (piece_in c.args.p) (record { count = 0; file = 0; stored = 0 }) (omega arith) k.0 k.1)

pub returns-in_default : goal.returns-in_default
returns-in_default c = rw (c.add.ensures, ← no-kind-counts c.args.self.now.kinds (piece_in c.args.p) (omega arith) c.in_default.ensures)
