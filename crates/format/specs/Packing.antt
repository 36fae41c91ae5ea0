-- How C lays out bit fields and packed structs on a little-endian machine.
use Rattle.std.specs.Prelude.{ℕ, ◌+◌, ◌*◌, ◌/◌, ◌%◌, ◌^◌, List, [], ◌∷◌, ◌++◌, drop}
use Rattle.wire.specs.Numbers.{le, le_bytes}
use Rattle.wire.specs.Output.{put}

-- bit fields (width, value) in one word, from bit 0 up, each value cut to its width
unfoldable pub pack : List (ℕ × ℕ) → ℕ
pack [] = 0
pack ((w, x) ∷ fs) = x % 2 ^ w + 2 ^ w * pack fs

-- the values of the bit fields of these widths
unfoldable pub unpack : List ℕ → ℕ → List ℕ
unpack [] x = []
unpack (w ∷ ws) x = x % 2 ^ w ∷ unpack ws (x / 2 ^ w)

-- the members (bytes, value) of a packed struct, one after the other
unfoldable pub struct_bytes : List (ℕ × ℕ) → List ℕ
struct_bytes [] = []
struct_bytes ((n, x) ∷ ms) = le_bytes n x ++ struct_bytes ms

-- the numbers of these sizes that stand one after the other at the front of v
abbrev pub read_struct : List ℕ → List ℕ → List ℕ
read_struct [] v = []
read_struct (n ∷ ns) v = le n v ∷ read_struct ns (drop n v)

-- a member of a packed struct: its first byte, and how many bytes it has
pub record Member : Type 0 where
  pub at : ℕ
  pub size : ℕ

-- a member's value in a struct that stands at the front of v
unfoldable pub get : Member → List ℕ → ℕ
get m v = le m.size (drop m.at v)

-- v with a member's bytes stored, and every other byte as it was
unfoldable pub store : Member → ℕ → List ℕ → List ℕ
store m x v = put v m.at (le_bytes m.size x)
