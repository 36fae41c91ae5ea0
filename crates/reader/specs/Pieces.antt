-- A piece as the code holds it.
use Rattle.calls.specs.CallList as calls
use Rattle.reader.specs.declared.piece.Piece.{Piece}

abbrev pub piece_in : Piece → calls.Piece
piece_in p = record { file = p.file; stored = p.stored; kind = p.kind; checksum = p.checksum }
