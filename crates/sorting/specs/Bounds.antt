-- Positions on one side of a bound, and between two. No bound has all positions on either side.
use Rattle.std.specs.Prelude.{Bool, true, not, ◌&&◌, Option, Some, None}
use Rattle.wire.specs.Order.{pos_less}
use Rattle.wire.specs.declared.bpos.Bpos.{Bpos}

abbrev pub Bound : Type 0
Bound = Option Bpos

-- above it
unfoldable pub over : Bound → Bpos → Bool
over None p = true
over (Some q) p = pos_less q p

-- below it
unfoldable pub under : Bound → Bpos → Bool
under None p = true
under (Some q) p = pos_less p q

-- not above it
unfoldable pub at_most : Bound → Bpos → Bool
at_most None p = true
at_most (Some q) p = not (pos_less q p)

-- above one bound, and not above another
unfoldable pub within : Bound → Bound → Bpos → Bool
within low high p = over low p && at_most high p

-- the bound at a position
abbrev pub upper : Bpos → Bound
upper p = Some p
