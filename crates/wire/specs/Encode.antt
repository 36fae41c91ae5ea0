-- Fields and keys as bytes, the other way round from Fields and Keys.
use Rattle.std.specs.Prelude.{ℕ, List, ◌++◌, length}
use Rattle.wire.specs.Numbers.{le_bytes, each}
use Rattle.wire.specs.Fields.{Field}
use Rattle.wire.specs.Keys.{Key}
use Rattle.wire.specs.declared.bpos.Bpos.{Bpos}

-- a field's tag and length
unfoldable pub head_bytes : ℕ → ℕ → List ℕ
head_bytes tag n = le_bytes 1 tag ++ le_bytes 2 n

unfoldable pub encode_field : Field → List ℕ
encode_field f = head_bytes f.tag (length f.body) ++ f.body

unfoldable pub encode : List Field → List ℕ
encode fs = each encode_field fs

unfoldable pub pos_bytes : Bpos → List ℕ
pos_bytes p = le_bytes 8 p.inode ++ le_bytes 8 p.offset ++ le_bytes 4 p.snapshot

-- the 37 bytes before a key's value
unfoldable pub key_start : Key → List ℕ
key_start k =
    le_bytes 1 k.type ++ le_bytes 4 k.size ++ le_bytes 4 k.version_hi ++ le_bytes 8 k.version_lo ++ pos_bytes k.pos

unfoldable pub key_body : Key → List ℕ
key_body k = key_start k ++ k.value

-- a key as a field of its tree
abbrev pub key_field : ℕ → Key → Field
key_field tree k = record { tag = tree; body = key_body k }
