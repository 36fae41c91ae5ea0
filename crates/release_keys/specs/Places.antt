-- The place of a key that may be missing.
use Rattle.std.specs.Prelude.{◌≡◌, ℕ, List, None, Some}
use Rattle.std.specs.Prelude as std
use Rattle.std.proofs.Math.Option.{Option, none, some}
use Rattle.wire.specs.Keys.{Key}
use Rattle.reader.specs.KeyHere.{key_here, Whole}
use Rattle.reader.specs.Located.{no_key}

-- the key at a place, or none
abbrev pub key_found : List ℕ → std.Option ℕ → Option Key
key_found s None = none
key_found s (Some at) = some (key_here s at)

-- where a key stands that may be missing
pub record PlaceOf (s : List ℕ) (place : std.Option ℕ) (k : Option Key) : Type 0 where
  pub is : key_found s place ≡ k
  pub whole : (at : ℕ) → place ≡ Some at → Whole s at

-- the key at a place, if there is one
abbrev pub key_placed : List ℕ → std.Option ℕ → Key
key_placed s None = no_key
key_placed s (Some at) = key_here s at
