-- A row is written and read back: signed numbers, and a row's body.
use Prim.Native.Nat.{ℕ, ◌^◌, ◌<◌}
use mathlib.Core.Path.{◌≡◌, ap, ◌∙◌}
use mathlib.Core.List.{List, [], ◌∷◌, ◌++◌}
use lib.IntN.{ℤ}
use mathlib.Core.Bool.{Bool, true, false, cond}
use lib.Dec.{eqb}
use lib.ListN.{length, drop}
use mir.Syntax.{w64}
use mir.Val.{SFits, to_z, of_z}
use mir.ValLaws.{to_z-of_z, of_z_fits, to_z-Fits}
use Rattle.wire.specs.Numbers.{le, le_bytes, each}
use Rattle.wire.specs.Rows.{Counters, signed_bytes, signed_read, row_body, row_of}
use Rattle.wire.specs.Bytes.{none, Bytes}
use Rattle.wire.proofs.NumberLaws.{all_append, all_drop, bytes_le, le-bound, le-le_bytes}

pub signed_back : (z : ℤ) (s : List ℕ) → SFits w64 z → signed_read (signed_bytes z ++ s) ≡ z
unfolding signed_read signed_bytes
signed_back z s h = ap (to_z w64) (le-le_bytes 8 (of_z w64 z) s (of_z_fits w64 z h).fits) ∙ to_z-of_z w64 z h

-- one number or three, each of 64 bits
pub data Numbers : List ℤ → Type 0 where
  one : {x : ℤ} → SFits w64 x → Numbers (x ∷ [])
  three : {x y z : ℤ} → SFits w64 x → SFits w64 y → SFits w64 z → Numbers (x ∷ y ∷ z ∷ [])

-- a row whose numbers fit their bytes
pub record RowFits (r : Counters) : Type 0 where
  pub inode : r.inode < 2 ^ 64
  pub offset : r.offset < 2 ^ 64
  pub numbers : Numbers r.numbers

abbrev pub row_with : ℕ → ℕ → List ℤ → Counters
row_with i o ns = record { inode = i; offset = o; numbers = ns }

module _ (i o : ℕ) where
  numbers-back : {ns : List ℤ} → Numbers ns → (row_of (row_body (row_with i o ns))).numbers ≡ ns
  unfolding row_of row_body each signed_bytes le_bytes
  numbers-back (one {x} h) = λ k. signed_back x [] h k ∷ []
  numbers-back (three {x} {y} {z} h g f) = λ k. signed_back x (signed_bytes y ++ (signed_bytes z ++ [])) h k ∷ signed_back y (signed_bytes z ++ []) g k ∷ signed_back z [] f k ∷ []

pub row_back : (r : Counters) → RowFits r → row_of (row_body r) ≡ r
unfolding row_of row_body le_bytes
row_back r h =
    let i : (row_of (row_body r)).inode ≡ r.inode = le-le_bytes 8 r.inode _ h.inode in
    let o : (row_of (row_body r)).offset ≡ r.offset = le-le_bytes 8 r.offset _ h.offset in
    let n : (row_of (row_body r)).numbers ≡ r.numbers = numbers-back r.inode r.offset h.numbers in
    λ k. record { inode = i k; offset = o k; numbers = n k }

-- 24 bytes or 40
pub data RowLength : ℕ → Type 0 where
  short : RowLength 24
  long : RowLength 40

pub row-length : (i o : ℕ) {ns : List ℤ} → Numbers ns → RowLength (length (row_body (row_with i o ns)))
unfolding row_body each signed_bytes le_bytes
row-length i o (one h) = short
row-length i o (three h g f) = long

pub row-bytes : (r : Counters) → Bytes (row_body r)
unfolding row_body each signed_bytes
row-bytes r = all_append (all_append (bytes_le 8 r.inode) (bytes_le 8 r.offset)) (go r.numbers)
  where
    go : (ns : List ℤ) → Bytes (each signed_bytes ns)
    go [] = none
    go (n ∷ ns) = all_append (bytes_le 8 (of_z w64 n)) (go ns)

-- a row that was read of bytes fits

signed-fits : {b : List ℕ} → Bytes b → SFits w64 (signed_read b)
unfolding signed_read
signed-fits {b} r = to_z-Fits w64 (le 8 b) (record { fits = le-bound 8 r })

pub row_fits : {b : List ℕ} → Bytes b → RowFits (row_of b)
unfolding row_of
row_fits {b} r = record { inode = le-bound 8 r; offset = le-bound 8 (all_drop 8 r); numbers = go (eqb (length b) 24) }
  where
    at : (k : ℕ) → SFits w64 (signed_read (drop k b))
    at k = signed-fits (all_drop k r)

    go :
        (t : Bool)
        → Numbers
        (cond t (signed_read (drop 16 b) ∷ []) (signed_read (drop 16 b) ∷ signed_read (drop 24 b) ∷ signed_read (drop 32 b) ∷ []))
    go true = one (at 16)
    go false = three (at 16) (at 24) (at 32)
