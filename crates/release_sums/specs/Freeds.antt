-- The released pieces that the code reads.
use Rattle.std.specs.Prelude.{ℕ, List, map, take, drop}
use Rattle.calls.specs.CallList as calls
use Rattle.calls.specs.CallList.{freed_of}
use Rattle.reader.specs.Located.{FreedsAt}
use Rattle.release_sums.specs.declared.requests.Freed.{Freed}

-- the piece that the code holds
abbrev pub freed_held : Freed → calls.Freed
freed_held r = record { first = r.first; sectors = r.sectors }

-- the pieces that offsets find
abbrev pub freeds_in : List ℕ → List ℕ → List calls.Freed
freeds_in s offsets = map (λ at. freed_of (take 10 (drop at s))) offsets

-- each offset finds a piece
abbrev pub Requested : List ℕ → List ℕ → Type 0
Requested s offsets = FreedsAt s offsets (freeds_in s offsets)
