-- A part of the tests of a piece.
use Rattle.std.specs.Prelude.{Bool, not, ◌||◌, cond, eqb}
use Rattle.calls.specs.CallList as calls

-- the last part of refusal 9's test: kind 0 or 5 has stored and file sectors equal, another has not
unfoldable pub kind_fits : calls.Piece → Bool
kind_fits p =
    cond (eqb p.kind 0 || eqb p.kind 5) (eqb p.stored p.file) (not (eqb p.stored p.file))
