-- The pieces of a call list, by the places of their bodies: all of them, and those that are left of a walk.
use Rattle.std.specs.Prelude.{ℕ, List, map, take, drop}
use Rattle.calls.specs.CallList as calls
use Rattle.calls.specs.CallList.{piece_of}
use Rattle.reader.specs.Pieces.{piece_in}
use Rattle.reader.specs.declared.piece.Piece.{Piece}
use Rattle.reader.specs.declared.listed.FixedBody.{Ghosts}
use Rattle.reader.specs.declared.listed.Listed.{Listed}
use Rattle.reader.specs.declared.listed.ListedLeft.{ListedLeft}

-- a piece as a body, of 13 bytes
abbrev pub piece_body : Ghosts Piece
piece_body = record { Seen = calls.Piece; seen = λ p. piece_in p; width = 13; read = λ s. piece_of (take 13 s) }

abbrev pub Pieces : Type 0
Pieces = Listed Piece piece_body

-- the pieces whose bodies start at these places of a list
abbrev pub pieces_at : List ℕ → List ℕ → List calls.Piece
pieces_at s places = map (λ at. piece_of (take 13 (drop at s))) places

abbrev pub pieces_of : Pieces → List calls.Piece
pieces_of ps = pieces_at ps.list.now ps.places.now

abbrev pub pieces_left : ListedLeft Piece piece_body → List calls.Piece
pieces_left l = pieces_of l.listed
