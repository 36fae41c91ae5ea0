-- What rows count of pieces: how many, their file sectors and their stored sectors; of all, and of each compression kind.
use Rattle.std.specs.Prelude.{ℕ, ◌+◌, ◌*◌, ◌/◌, ◌%◌, ◌^◌, ◌≤◌, ◌≡◌, List, [], ◌∷◌, map, pos, length, eqb}
use Rattle.calls.specs.Lists.{those, total}
use Rattle.wire.specs.Bytes.{All}
use Rattle.wire.specs.Rows.{Counters}
use Rattle.wire.specs.declared.kinds.Bucket.{Bucket}
use Rattle.calls.specs.CallList.{Piece}
use Rattle.calls.specs.Extents.{Placed}
use Rattle.calls.specs.Accounting.{row3, swapped}
use Rattle.accounting.specs.declared.tally.Tally.{Tally}
use Rattle.accounting.specs.declared.tally.Tallies.{Tallies}

abbrev pub tally_of : List Piece → Tally
tally_of ps = record { count = length ps; file = total (λ p. p.file) ps; stored = total (λ p. p.stored) ps }

unfoldable pub of_kind : ℕ → List Piece → List Piece
of_kind kind ps = those (λ p. eqb p.kind kind) ps

-- two tallies together
abbrev pub sum : Tally → Tally → Tally
sum a b = record { count = a.count + b.count; file = a.file + b.file; stored = a.stored + b.stored }

-- the tallies of the compression kinds 2, 3, 4 and 5
abbrev pub kinds_of : List Piece → List Tally
kinds_of ps = tally_of (of_kind 2 ps) ∷ tally_of (of_kind 3 ps) ∷ tally_of (of_kind 4 ps) ∷ tally_of (of_kind 5 ps) ∷ []

abbrev pub tallies_of : List Piece → Tallies
tallies_of ps = record { all = tally_of ps; kinds = kinds_of ps }

-- the same for tallies of kinds, one by one
abbrev pub sums : List Tally → List Tally → List Tally
sums [] us = []
sums (t ∷ ts) [] = []
sums (t ∷ ts) (u ∷ us) = sum t u ∷ sums ts us

abbrev pub both : Tallies → Tallies → Tallies
both a b = record { all = sum a.all b.all; kinds = sums a.kinds b.kinds }

-- a tally of at most n pieces, each with two-byte sizes
pub record Small (n : ℕ) (t : Tally) : Type 0 where
  pub count : t.count ≤ n
  pub file : t.file ≤ 65536 * n
  pub stored : t.stored ≤ 65536 * n

-- tallies of at most n pieces
pub record Smalls (n : ℕ) (t : Tallies) : Type 0 where
  pub all : Small n t.all
  pub kinds : All (Small n) t.kinds

-- the tallies of these pieces
pub record Tallied (ps : List Piece) (t : Tallies) : Type 0 where
  pub is : t ≡ tallies_of ps
  pub small : Smalls 1024 t

-- those of some placed pieces, in so many buckets
pub record Known (taken : ℕ) (t : Tallies) : Type 0 where
  pub buckets : List Bucket
  pub placed : List Placed
  pub count : length buckets ≡ taken
  pub tallied : Tallied (map (λ p. p.piece) placed) t

-- a tally as a row of three numbers
abbrev pub counts_row : ℕ → ℕ → Tally → Counters
counts_row inode offset t = row3 inode offset (pos t.count) (pos t.file) (pos t.stored)

-- the row of a compression kind, as `kind_row` places it
abbrev pub kind_counts : ℕ → Tally → Counters
kind_counts kind t = counts_row (0x0400000000000000 + kind * 2 ^ 48) 0 t

-- the rows of tallies of compression kinds, from a kind on
abbrev pub kind_rows : ℕ → List Tally → List Counters
kind_rows kind [] = []
kind_rows kind (t ∷ ts) = kind_counts kind t ∷ kind_rows (kind + 1) ts

-- the row of an owner, as `owner_row` places it
abbrev pub owner_counts : ℕ → Tally → Counters
owner_counts inode t = let place = 8 * 256 ^ 8 + swapped 8 inode in counts_row (place / 256) (place % 256 * 256 ^ 7) t
