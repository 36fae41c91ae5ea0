-- Lists in which every field stands as often, in whatever order.
use Rattle.std.specs.Prelude.{ℕ, ◌≡◌, Bool, true, false, ◌&&◌, List, [], ◌∷◌, eqb}
use Rattle.wire.specs.Fields.{Field}
use Rattle.calls.specs.Lists.{count}

-- the same bytes
unfoldable pub same_bytes : List ℕ → List ℕ → Bool
same_bytes [] [] = true
same_bytes [] (y ∷ ys) = false
same_bytes (x ∷ xs) [] = false
same_bytes (x ∷ xs) (y ∷ ys) = eqb x y && same_bytes xs ys

-- the same tag and the same body
unfoldable pub same_field : Field → Field → Bool
same_field f g = eqb f.tag g.tag && same_bytes f.body g.body

-- every field stands in both lists as often
abbrev pub AsOften : List Field → List Field → Type 0
AsOften fs gs = (f : Field) → count (same_field f) fs ≡ count (same_field f) gs
