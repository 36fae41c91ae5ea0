use Rattle.std.proofs.Common.{arith, ap, ◌∙◌}
use Rattle.reader.specs.Pieces.{piece_in}
use Rattle.reader.specs.PieceLists.{pieces_of, pieces_left}
use Rattle.accounting.proofs.TallyLaws.{none-tallied, tallied-first, tallied-few, tallied-next, tallied-end}
use Rattle.accounting.proofs.tally.tally_pieces.Goals as goal

pub loop-p-init : goal.loop-p-init
loop-p-init c = tallied-first (none-tallied c.none.ensures c.none-2.ensures) (ap pieces_left c.into_iter-p-iterator.ensures.into_iter_gives ∙ ap pieces_of c.iter-p-items.ensures)

pub add-requires : goal.add-requires
add-requires c = tallied-few c.loop-p.invariant c.in-Some.ensures.steps c.requires

pub loop-p-preserved : goal.loop-p-preserved
loop-p-preserved c =
    tallied-next c.loop-p.invariant (piece_in c.in-Some.p) (pieces_left c.next.new.self) c.in-Some.ensures.steps (omega arith) (omega arith) c.add.ensures

pub returns : goal.returns
returns c = tallied-end c.loop-p.invariant c.in-None.ensures.steps.0 c.requires
