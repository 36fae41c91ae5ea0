-- What refusals 6 and 9 show of a piece, and of how many buckets the pieces need.
use mathlib.Core.Path.{◌≡◌, refl, ap, sym}
use mathlib.Core.Bool.{Bool, true, false, ◌&&◌, ◌||◌, cond}
use mathlib.Core.List.{List, [], ◌∷◌, map}
use Prim.Native.Nat.{ℕ, suc, ◌+◌, ◌≤◌, ◌<◌, min}
use native.Mathlib.Omega.{arith}
use lib.Dec.{leb, eqb}
use lib.ListN.{length, length-map}
use borrow.Author.Tests.{leb-true, leb-false, eqb-true}
use Rattle.calls.specs.Answers.{read_call, read_volume}
use Rattle.calls.specs.CallList as calls
use Rattle.calls.specs.CallList.{Piece}
use Rattle.calls.specs.Lists.{all_of}
use Rattle.calls.specs.Pieces.{next_fit, buckets_needed, kind_listed, piece_sized}
use Rattle.calls.specs.Place.{slots_of}
use Rattle.calls.proofs.lists.BoolLaws.{parts as and-true}
use Rattle.reader.specs.PieceLists.{Pieces, pieces_of}
use Rattle.reader.specs.declared.read_list.ReadList.{ReadList}
use Rattle.place_tests.specs.Called.{Called}
use Rattle.place_tests.proofs.RefusalLaws.{Asked}

pub kind-bound : (p : Piece) → kind_listed p ≡ true → p.kind < 16
unfolding kind_listed
kind-bound p e = go (eqb p.kind 0) refl e
  where
    go : (t : Bool) → eqb p.kind 0 ≡ t → t || (leb 2 p.kind && leb p.kind 5) ≡ true → p.kind < 16
    go true t e = omega (arith, eqb-true p.kind 0 t)
    go false t e = omega (arith, leb-true p.kind 5 (and-true (leb 2 p.kind) (leb p.kind 5) e).1)

module _ (B block : ℕ) (p : Piece) (e : piece_sized B block p ≡ true) where
  parts : (leb 1 p.file && leb p.file (min 128 B) ≡ true) × (leb 1 p.stored && leb p.stored p.file ≡ true)
  unfolding piece_sized
  parts =
      let a = and-true (leb 1 p.file && leb p.file (min 128 B)) _ e in
      (a.0, (and-true (leb 1 p.stored && leb p.stored p.file) _ a.1).0)

  pub file-low : 1 ≤ p.file
  file-low = leb-true 1 p.file (and-true (leb 1 p.file) (leb p.file (min 128 B)) parts.0).0

  pub file-high : p.file ≤ 128
  file-high = omega (arith, leb-true p.file (min 128 B) (and-true (leb 1 p.file) (leb p.file (min 128 B)) parts.0).1)

  pub stored_low : 1 ≤ p.stored
  stored_low = leb-true 1 p.stored (and-true (leb 1 p.stored) (leb p.stored p.file) parts.1).0

  pub stored-high : p.stored ≤ 128
  stored-high = omega (arith, file-high, leb-true p.stored p.file (and-true (leb 1 p.stored) (leb p.stored p.file) parts.1).1)

  pub stored-fits : p.stored ≤ B
  stored-fits =
      omega (
        arith,
        leb-true p.file (min 128 B) (and-true (leb 1 p.file) (leb p.file (min 128 B)) parts.0).1,
        leb-true p.stored p.file (and-true (leb 1 p.stored) (leb p.stored p.file) parts.1).1,
      )

-- at most one bucket for each piece
needed-most : (B i u v : ℕ) (zs : List ℕ) → buckets_needed (record { index = i; offset = v } ∷ next_fit B i u zs) ≤ suc i + length zs
unfolding next_fit buckets_needed
needed-most B i u v [] = omega arith
needed-most B i u v (z ∷ zs) = go (leb (u + z) B) (λ j w x. needed-most B j w x zs)
  where
    go : (t : Bool) → ((j w x : ℕ) → buckets_needed (record { index = j; offset = x } ∷ next_fit B j w zs) ≤ suc j + length zs)
        → buckets_needed (record { index = cond t i (suc i); offset = cond t u 0 } ∷ next_fit B (cond t i (suc i)) (cond t u 0 + z) zs) ≤ suc i + suc (length zs)
    go true ih = omega (arith, ih i (u + z) u)
    go false ih = omega (arith, ih (suc i) (0 + z) 0)

needed-few : (B block : ℕ) (ps : List Piece) → all_of (piece_sized B block) ps ≡ true → buckets_needed (next_fit B 0 0 (map (λ p. p.stored) ps)) ≤ length ps
unfolding next_fit buckets_needed all_of
needed-few B block [] h = omega arith
needed-few B block (p ∷ ps) h = go (leb (0 + p.stored) B) refl
  where
    go : (t : Bool) → leb (0 + p.stored) B ≡ t
        → buckets_needed (record { index = cond t 0 1; offset = cond t 0 0 } ∷ next_fit B (cond t 0 1) (cond t 0 0 + p.stored) (map (λ p. p.stored) ps)) ≤ suc (length ps)
    go true e = omega (arith, needed-most B 0 (0 + p.stored) 0 (map (λ p. p.stored) ps), length-map ps (λ p. p.stored))
    go false e =
        absurd (omega (arith, leb-false (0 + p.stored) B e, stored-fits B block p (and-true (piece_sized B block p) (all_of (piece_sized B block) ps) h).0))

module _ {r : ReadList} {ps : Pieces} (q : Called r ps) where
  sectors : (read_volume r.list.now).head.bucket_sectors ≡ r.head.bucket_sectors
  sectors = ap (λ (x : calls.Head). x.bucket_sectors) (sym q.head)

  -- the slots that the code lays out
  pub slots-are : next_fit r.head.bucket_sectors 0 0 (map (λ p. p.stored) (pieces_of ps)) ≡ slots_of (read_call r.list.now)
  unfolding slots_of
  slots-are = rw (sectors, q.pieces)

  pub needed-short : Asked (read_call r.list.now) r.head → buckets_needed (slots_of (read_call r.list.now)) ≤ 1024
  unfolding slots_of
  needed-short a = rw sectors (omega (arith, needed-few r.head.bucket_sectors _ (read_call r.list.now).pieces a.sizes, q.few, ap length q.pieces))
