-- The bytes of keys and of roots as fields of a change list.
use Rattle.std.specs.Prelude.{ℕ, List, map}
use Rattle.wire.specs.Keys.{Key}
use Rattle.wire.specs.Encode.{encode, key_field}
use Rattle.calls.specs.ChangeList.{root_field}

-- keys as fields of their tree
abbrev pub keys_bytes : ℕ → List Key → List ℕ
keys_bytes tree ks = encode (map (key_field tree) ks)

-- roots as fields
abbrev pub roots_bytes : List ℕ → List ℕ
roots_bytes ids = encode (map root_field ids)
