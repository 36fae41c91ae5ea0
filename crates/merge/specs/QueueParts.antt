-- A change list's queued keys by section.
use Rattle.std.specs.Prelude.{◌≡◌, ℕ, ◌<◌, ◌≤◌, List, [], ◌∷◌, Option, Some, None, map, flat_map, length, get_or}
use Rattle.reader.specs.Table.{between}
use Rattle.sorting.specs.Entries.{sections}
use Rattle.merge.specs.QueueTable.{QueuePart}
use Rattle.merge.specs.declared.queue.Queue.{Queue}

-- the places of each section, unless the table is too short
abbrev pub InParts : List ℕ → Option Queue → Type 0
InParts s (Some q) = (i : ℕ) → i < 7 → QueuePart (get_or sections i 0) s (get_or (map (λ p. p.now) q.parts) i [])
InParts s None = Unit {0}

-- all parts, one after the other, are at most so long
abbrev pub PartsWithin : ℕ → Option Queue → Type 0
PartsWithin long (Some q) = length (flat_map (λ p. p) (map (λ p. p.now) q.parts)) ≤ long
PartsWithin long None = Unit {0}

-- no end stands before the one before it, and none past a table so long
abbrev pub EndsWithin : List ℕ → ℕ → Type 0
EndsWithin ends long = (i : ℕ) → i < 7 → (get_or (0 ∷ ends) i 0 ≤ get_or ends i 0) × (get_or ends i 0 ≤ long)

-- the parts of a table from one end to the next
abbrev pub CutAt : List ℕ → List ℕ → List (List ℕ) → Type 0
CutAt ends table parts = (i : ℕ) → i < 7 → get_or parts i [] ≡ between (get_or (0 ∷ ends) i 0) (get_or ends i 0) table
