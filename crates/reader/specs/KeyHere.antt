-- A key at a place of a list: its body starts there, with its length two bytes before it. FORMAT.md, "Fields" and "Keys".
use Rattle.std.specs.Prelude.{ℕ, ◌+◌, ◌-◌, ◌≤◌, ◌<◌, List, map, length, take, drop, get_or}
use Rattle.wire.specs.Numbers.{le}
use Rattle.wire.specs.Keys.{Key, key_of}

-- how long the body of the key at a place is
abbrev pub body_len : List ℕ → ℕ → ℕ
body_len s at = le 2 (drop (at - 2) s)

-- the key whose body starts at a place
unfoldable pub key_here : List ℕ → ℕ → Key
key_here s at = key_of (take (body_len s at) (drop at s))

-- a whole key stands at a place
pub record Whole (s : List ℕ) (at : ℕ) : Type 0 where
  pub after : 3 ≤ at
  pub long : 37 ≤ body_len s at
  pub short : body_len s at ≤ 293
  pub within : at + body_len s at ≤ length s

-- the keys at some places
abbrev pub keys_here : List ℕ → List ℕ → List Key
keys_here s places = map (key_here s) places

-- a whole key stands at each of some places
pub record WholeKeys (s places : List ℕ) : Type 0 where
  pub at : (i : ℕ) → i < length places → Whole s (get_or places i 0)
