-- A key as the code holds it: what stands before its value, and the value.
use Rattle.std.specs.Prelude.{ℕ, List}
use Rattle.wire.specs.Keys.{Key}
use Rattle.wire.specs.declared.bpos.Bpos.{Bpos}
use Rattle.wire.specs.declared.keys.Bkey.{Bkey}
use Rattle.wire.specs.declared.keys.KeyHead.{KeyHead}

-- what stands before the value of a key that is made: versions 0
abbrev pub new_head : ℕ → ℕ → Bpos → KeyHead
new_head type size pos =
    record {
      key_type = type;
      size = size;
      version_hi = 0;
      version_lo = 0;
      pos = pos;
    }

-- the key that a value makes of what stands before it
abbrev pub key_with : KeyHead → List ℕ → Key
key_with h v =
    record {
      type = h.key_type;
      size = h.size;
      version_hi = h.version_hi;
      version_lo = h.version_lo;
      pos = h.pos;
      value = v;
    }

-- the key that the code holds
abbrev pub key_in : Bkey → Key
key_in k = key_with k.head k.value
