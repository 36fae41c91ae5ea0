-- Which of the tallies of the kinds a piece counts in.
use Rattle.std.specs.Prelude.{ℕ, ◌≤◌, ◌<◌, ◌+◌, ◌≡◌, Option, Some, None}

-- that of kind 2 first; none where the kind is not one of 2 to 5
abbrev pub CountedAs : ℕ → Option ℕ → Type 0
CountedAs kind (Some i) = (kind ≡ i + 2) × (i < 4)
CountedAs kind None = 2 ≤ kind → kind ≤ 5 → ⊥
