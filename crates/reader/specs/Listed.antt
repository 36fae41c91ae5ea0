-- The values at places of a list, each read of the bytes from its place on.
use Rattle.std.specs.Prelude.{ℕ, List, map, ◌+◌, ◌<◌, ◌≤◌, length, drop, get_or}

-- the values at some places
abbrev pub values_at : {A : Type 0} → (List ℕ → A) → List ℕ → List ℕ → List A
values_at read s places = map (λ at. read (drop at s)) places

-- so many bytes stand at each of some places
pub record WholeBodies (width : ℕ) (s places : List ℕ) : Type 0 where
  pub at : (i : ℕ) → i < length places → get_or places i 0 + width ≤ length s
