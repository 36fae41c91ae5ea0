-- The requests of a call, pieces and freed pieces, are written and read back, and what was read of them is written again.
use mathlib.Core.Path.{◌≡◌, refl}
use mathlib.Core.List.{List, []}
use Prim.Native.Nat.{ℕ, ◌^◌, ◌<◌}
use native.Mathlib.Omega.{arith}
use lib.ListN.{length, drop}
use lib.Seq.{take_all}
use Rattle.wire.specs.Numbers.{le, le_bytes}
use Rattle.wire.specs.Bytes.{All, Bytes}
use Rattle.wire.proofs.NumberLaws.{all_append, all_drop, bytes_le, le-bound, le-le_bytes}
use Rattle.wire.proofs.RoundTrip.{next-again}
use Rattle.calls.specs.CallList.{Piece, Freed, piece_of, freed_of, piece_body, freed_body, call_list_of}
use Rattle.calls.specs.Answers.{read_call}
use Rattle.calls.proofs.lists.AllLaws.{all-imp, all_map}
use Rattle.calls.proofs.encoding.KeyFitsLaws.{bodies-bytes}

-- each number fits its bytes

pub record PieceFits (p : Piece) : Type 0 where
  pub file : p.file < 2 ^ 16
  pub stored : p.stored < 2 ^ 16
  pub kind : p.kind < 2 ^ 8
  pub checksum : p.checksum < 2 ^ 64

pub record FreedFits (r : Freed) : Type 0 where
  pub first : r.first.0 < 2 ^ 64
  pub sectors : r.sectors < 2 ^ 16

-- what is written is read back

pub piece_back : (p : Piece) → PieceFits p → piece_of (piece_body p) ≡ p
unfolding piece_of piece_body le_bytes
piece_back p h =
    let b : List ℕ = piece_body p in
    let f : le 2 b ≡ p.file = le-le_bytes 2 p.file _ h.file in
    let n : le 2 (drop 2 b) ≡ p.stored = le-le_bytes 2 p.stored _ h.stored in
    let k : le 1 (drop 4 b) ≡ p.kind = le-le_bytes 1 p.kind _ h.kind in
    let c : le 8 (drop 5 b) ≡ p.checksum = le-le_bytes 8 p.checksum [] h.checksum in
    λ i. record { file = f i; stored = n i; kind = k i; checksum = c i }

pub freed-back : (r : Freed) → FreedFits r → freed_of (freed_body r) ≡ r
unfolding freed_of freed_body le_bytes
freed-back r h =
    let b : List ℕ = freed_body r in
    let f : le 8 b ≡ r.first.0 = le-le_bytes 8 r.first.0 _ h.first in
    let n : le 2 (drop 8 b) ≡ r.sectors = le-le_bytes 2 r.sectors [] h.sectors in
    λ i. record { first = record { 0 = f i }; sectors = n i }

-- what is written is 13 bytes, and 10

pub piece-length : (p : Piece) → length (piece_body p) ≡ 13
unfolding piece_body le_bytes
piece-length p = refl

pub piece_bytes : (p : Piece) → Bytes (piece_body p)
unfolding piece_body
piece_bytes p = search (all_append, bytes_le)

pub freed-length : (r : Freed) → length (freed_body r) ≡ 10
unfolding freed_body le_bytes
freed-length r = refl

pub freed-bytes : (r : Freed) → Bytes (freed_body r)
unfolding freed_body
freed-bytes r = search (all_append, bytes_le)

-- what is read of bytes fits

piece-fits : {b : List ℕ} → Bytes b → PieceFits (piece_of b)
unfolding piece_of
piece-fits r =
    record {
      file = le-bound 2 r;
      stored = le-bound 2 (all_drop 2 r);
      kind = le-bound 1 (all_drop 4 r);
      checksum = le-bound 8 (all_drop 5 r);
    }

freed-fits : {b : List ℕ} → Bytes b → FreedFits (freed_of b)
unfolding freed_of
freed-fits r = record { first = le-bound 8 r; sectors = le-bound 2 (all_drop 8 r) }

module _ {s : List ℕ} (r : Bytes s) where
  pub pieces-fit : All PieceFits (read_call s).pieces
  unfolding call_list_of
  pieces-fit = all_map piece_of (all-imp (λ b k. piece-fits k) (bodies-bytes 65 r))

  pub releases-fit : All FreedFits (read_call s).releases
  unfolding call_list_of
  releases-fit = all_map freed_of (all-imp (λ b k. freed-fits k) (bodies-bytes 66 r))

-- what was read is written again

pub piece-again : {b : List ℕ} → Bytes b → length b ≡ 13 → piece_body (piece_of b) ≡ b
unfolding piece_of piece_body
piece-again {b} r e =
    rw (
      next-again r 0 2 (omega arith),
      next-again r 2 2 (omega arith),
      next-again r 4 1 (omega arith),
      next-again r 5 8 (omega arith),
    ) (take_all 13 b (omega arith))

pub freed-again : {b : List ℕ} → Bytes b → length b ≡ 10 → freed_body (freed_of b) ≡ b
unfolding freed_of freed_body
freed-again {b} r e = rw (next-again r 0 8 (omega arith), next-again r 8 2 (omega arith)) (take_all 10 b (omega arith))
