-- What a field must be by itself, and which tag may stand after which.
use Rattle.std.specs.Prelude.{ℕ, List, Bool, ◌&&◌, ◌||◌, length, leb, eqb}
use Rattle.wire.specs.Fields.{Field}
use Rattle.wire.specs.Keys.{key_of, key_sized}
use Rattle.calls.specs.CallList.{shaped}
use Rattle.calls.specs.ChangeList.{change_shapes, root_listed, field_ok}

-- a key whose snapshot is 0
unfoldable pub key_ok : List ℕ → Bool
key_ok b = key_sized b && eqb (key_of b).pos.snapshot 0

-- one byte: 10, 12 or 14
unfoldable pub root_ok : List ℕ → Bool
root_ok b = eqb (length b) 1 && root_listed b

-- a field of a change list
unfoldable pub change_field_ok : Field → Bool
change_field_ok f = shaped change_shapes f && field_ok f

-- tags ascend within a batch, and begin anew after 76
unfoldable pub tag_after : ℕ → ℕ → Bool
tag_after last tag = eqb last 76 || leb last tag
