-- The loop's invariant: the pieces passed are tallied.
use Rattle.reader.specs.PieceLists.{pieces_of, pieces_left}
use Rattle.accounting.proofs.TallyLaws.{TalliedUpTo}
use Rattle.accounting.proofs.tally.tally_pieces.Given as goal

abbrev pub invariant-loop-p : goal.invariant-loop-p
invariant-loop-p l = TalliedUpTo (pieces_of l.pieces) (pieces_left l.p-iterator) l.tallies
