-- FORMAT.md, "Accounting rows": the rows of accounting. `Txn::count` adds an amount at a place of a row of zeros.
use Rattle.std.specs.Prelude.{ℕ, zero, suc, ◌+◌, ◌*◌, ◌/◌, ◌%◌, ◌^◌, List, [], ◌∷◌, Bool, false, not, ℤ, pos, negsuc, length, eqb}
use Rattle.wire.specs.Rows.{Counters}
use Rattle.wire.specs.Keys.{Key}
use Rattle.calls.specs.Lists.{those, any_of, total}
use Rattle.calls.specs.Extents.{Placed}

abbrev pub is_zero : ℤ → Bool
is_zero (pos n) = eqb n 0
is_zero (negsuc n) = false

-- a row of three numbers
abbrev pub row3 : ℕ → ℕ → ℤ → ℤ → ℤ → Counters
row3 inode offset a b c = record { inode = inode; offset = offset; numbers = a ∷ b ∷ c ∷ [] }

-- all-zero rows are left out
unfoldable pub counted_rows : List Counters → List Counters
counted_rows rs = those (λ r. any_of (λ z. not (is_zero z)) r.numbers) rs

-- user sectors, the one row of one number
abbrev pub sectors_row : ℤ → Counters
sectors_row sectors = record { inode = 0x0204010100000000; offset = 0; numbers = sectors ∷ [] }

-- buckets, sectors and unused sectors of a data type: 0 free, 4 user, 9 waiting
abbrev pub buckets_row : ℕ → ℤ → ℤ → ℤ → Counters
buckets_row data_type buckets sectors unused = row3 (0x0300000000000000 + data_type * 2 ^ 40) 0 buckets sectors unused

-- pieces, file sectors and stored sectors of a compression kind
abbrev pub kind_row : ℕ → List Placed → Counters
kind_row kind ps =
    let qs = those (λ p. eqb p.piece.kind kind) ps in
    row3 (0x0400000000000000 + kind * 2 ^ 48) 0 (pos (length qs)) (pos (total (λ p. p.piece.file) qs))
    (pos (total (λ p. p.piece.stored) qs))

-- extent keys, 40 plus value length each, stored sectors
abbrev pub extents_row : List Key → ℕ → Counters
extents_row extents stored =
    row3 0x05ffffffff000000 0 (pos (length extents)) (pos (total (λ k. 40 + length k.value) extents)) (pos stored)

-- n bytes of a number, the lowest first, read as a number with the highest first
unfoldable pub swapped : ℕ → ℕ → ℕ
swapped zero x = 0
swapped (suc n) x = (x % 256) * 256 ^ n + swapped n (x / 256)

-- the owner's: byte 8, then the inode's eight bytes from the lowest, read from the highest across inode and offset
abbrev pub owner_row : ℕ → List Placed → Counters
owner_row inode ps =
    let place = 8 * 256 ^ 8 + swapped 8 inode in
    row3 (place / 256) (place % 256 * 256 ^ 7) (pos (length ps)) (pos (total (λ p. p.piece.file) ps))
    (pos (total (λ p. p.piece.stored) ps))
