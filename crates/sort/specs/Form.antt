-- The fields at the places of a table, as bytes: each is its tag, its length and its body, which stand side by side in the list.
use Rattle.std.specs.Prelude.{ℕ, ◌+◌, ◌-◌, ◌≤◌, List, ◌++◌, length, take, drop}
use Rattle.wire.specs.Numbers.{each}
use Rattle.sorting.specs.EntryPlaces.{size_at}
use Rattle.wire.specs.Encode.{encode_field}
use Rattle.calls.specs.CallList.{head_body}
use Rattle.reader.specs.Heads.{head_in}
use Rattle.reader.specs.declared.head.Head.{Head}

-- a whole field has its body at a place
pub record Placed (s : List ℕ) (o : ℕ) : Type 0 where
  pub after : 3 ≤ o
  pub within : o + size_at s o ≤ length s

-- the bytes of the field whose body starts at a place
unfoldable pub bytes_at : List ℕ → ℕ → List ℕ
bytes_at s o = take (3 + size_at s o) (drop (o - 3) s)

-- the bytes of the fields at some places, one after the other
unfoldable pub fields_at : List ℕ → List ℕ → List ℕ
fields_at s os = each (bytes_at s) os

-- the bytes of field 1 and of the fields at some places
unfoldable pub form_bytes : List ℕ → Head → List ℕ → List ℕ
form_bytes s h os = encode_field (record { tag = 1; body = head_body (head_in h) }) ++ fields_at s os
