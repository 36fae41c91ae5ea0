-- The loop's invariant: the pieces passed are read, and the others are left.
use Rattle.std.proofs.Common.{◌≡◌, ◌+◌, ◌++◌, length, map, take}
use Rattle.reader.specs.Pieces.{piece_in}
use Rattle.reader.specs.PieceLists.{pieces_of, pieces_left}
use Rattle.next_fit.proofs.layout.read_pieces.Given as goal

abbrev pub invariant-loop-i : goal.invariant-loop-i
invariant-loop-i l =
    (length l.records ≡ 1024) × (l.i + length (pieces_left l.p-iterator) ≡ length (pieces_of l.pieces))
    × (map piece_in (take l.i l.records) ++ pieces_left l.p-iterator ≡ pieces_of l.pieces)
