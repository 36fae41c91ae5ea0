-- The pieces of a plan that are left, at their places, and a step over them.
use Rattle.std.specs.Prelude.{◌≡◌, List, [], ◌∷◌, Option, Some, None}
use Rattle.calls.specs.Extents as calls
use Rattle.calls.specs.Answers.{read_call}
use Rattle.place_keys.specs.Plan.{Bounded, placed_in, placed_from}
use Rattle.place_keys.specs.declared.placed.Placed.{Placed}
use Rattle.place_keys.specs.declared.plan.PlacedPieces.{PlacedPieces}

unfoldable pub placed_left : PlacedPieces → List calls.Placed
placed_left p = placed_from (read_call p.plan.list.now) p.next p.end

-- the first of some pieces, within the bounds that the words of a key ask for, and those after it; nothing where there is none
abbrev pub Stepped : List calls.Placed → Option Placed → List calls.Placed → Type 0
Stepped before (Some p) after = (before ≡ placed_in p ∷ after) × Bounded p
Stepped before None after = before ≡ []
