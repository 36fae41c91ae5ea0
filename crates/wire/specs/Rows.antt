-- FORMAT.md, "Accounting rows": 73 is a row's inode 8, offset 8, and 1 or 3 signed numbers of 8 bytes each.
use Rattle.std.specs.Prelude.{ℕ, List, [], ◌∷◌, ◌++◌, ℤ, length, drop, eqb, cond}
use Rattle.std.specs.Int.{w64}
use Rattle.std.proofs.Common.{to_z, of_z}
use Rattle.wire.specs.Numbers.{le, le_bytes, each}
use Rattle.wire.specs.Fields.{Field}

-- a row of accounting: the inode and the offset of its place, and its numbers
pub record Counters : Type 0 where
  pub inode : ℕ
  pub offset : ℕ
  pub numbers : List ℤ

-- a signed number in 8 bytes: `of_z w64` is its two's complement
unfoldable pub signed_bytes : ℤ → List ℕ
signed_bytes x = le_bytes 8 (of_z w64 x)

unfoldable pub row_body : Counters → List ℕ
row_body r = le_bytes 8 r.inode ++ le_bytes 8 r.offset ++ each signed_bytes r.numbers

-- the number in 8 bytes: `to_z w64` reads the two's complement
unfoldable pub signed_read : List ℕ → ℤ
signed_read s = to_z w64 (le 8 s)

-- a row's body: one number in 24 bytes, or three in 40
unfoldable pub row_of : List ℕ → Counters
row_of b =
    record {
      inode = le 8 b;
      offset = le 8 (drop 8 b);
      numbers =
          cond (eqb (length b) 24) (signed_read (drop 16 b) ∷ [])
          (signed_read (drop 16 b) ∷ signed_read (drop 24 b) ∷ signed_read (drop 32 b) ∷ []);
    }

abbrev pub row_field : Counters → Field
row_field r = record { tag = 73; body = row_body r }
