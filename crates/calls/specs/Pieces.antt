-- FORMAT.md, "Pieces and extents": next fit, and refusals 6, 7 and 9.
use Rattle.std.specs.Prelude.{ℕ, suc, ◌+◌, ◌%◌, min, max, List, [], ◌∷◌, Bool, not, ◌&&◌, ◌||◌, cond, leb, eqb}
use Rattle.calls.specs.CallList.{Piece}

-- where a piece goes: the index of its bucket among those taken, and its offset in that bucket
pub record Slot : Type 0 where
  pub index : ℕ
  pub offset : ℕ

-- next fit: a piece that exceeds the open bucket opens the next; `index` is the open bucket and `used` how much of it is
unfoldable pub next_fit : ℕ → ℕ → ℕ → List ℕ → List Slot
next_fit bucket index used [] = []
next_fit bucket index used (z ∷ zs) =
    let fits = leb (used + z) bucket in
    let i = cond fits index (suc index) in
    let u = cond fits used 0 in
    record { index = i; offset = u } ∷ next_fit bucket i (u + z) zs

-- how many buckets are needed: none for no pieces, else one more than the last index
unfoldable pub buckets_needed : List Slot → ℕ
buckets_needed [] = 0
buckets_needed (s ∷ []) = suc s.index
buckets_needed (s ∷ t ∷ ss) = buckets_needed (t ∷ ss)

-- kinds are 0, 2, 3, 4, 5
unfoldable pub kind_listed : Piece → Bool
kind_listed p = eqb p.kind 0 || (leb 2 p.kind && leb p.kind 5)

-- block sectors: 0 counts as 1
unfoldable pub block_of : ℕ → ℕ
block_of block = max 1 block

unfoldable pub divides : ℕ → ℕ → Bool
divides block n = eqb (n % block) 0

-- file sectors within 1 to min(128, bucket), stored within 1 to file, both multiples of the block, kind 0 or 5 with them equal, 2 to 4 unequal
unfoldable pub piece_sized : ℕ → ℕ → Piece → Bool
piece_sized bucket block p =
    (leb 1 p.file && leb p.file (min 128 bucket))
    && ((leb 1 p.stored && leb p.stored p.file)
    && ((divides block p.file && divides block p.stored)
    && cond (eqb p.kind 0 || eqb p.kind 5) (eqb p.stored p.file) (not (eqb p.stored p.file))))
