-- A property of each element of a list, and lists of bytes.
use Rattle.std.specs.Prelude.{ℕ, ◌<◌, List, [], ◌∷◌}

-- each element of a list has a property
pub data All {A : Type 0} (P : A → Type 0) : List A → Type 0 where
  none : All P []
  more : {a : A} {s : List A} → P a → All P s → All P (a ∷ s)

-- each number of a list is a byte
abbrev pub Bytes : List ℕ → Type 0
Bytes s = All (λ b. b < 256) s
