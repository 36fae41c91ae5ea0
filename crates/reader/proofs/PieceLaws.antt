-- A piece, read at its place.
use mathlib.Core.Path.{◌≡◌}
use mathlib.Core.List.{List}
use Prim.Native.Nat.{ℕ, ◌+◌}
use native.Mathlib.Omega.{arith}
use native.Mathlib.Nat.{add-zero}
use lib.ListN.{take, drop}
use Rattle.wire.specs.Numbers.{le}
use Rattle.wire.proofs.NumberLaws.{body-le}
use Rattle.calls.specs.CallList.{piece_of}

-- a piece, each part read at its own place
pub piece-at : (s : List ℕ) (at : ℕ)
    → piece_of (take 13 (drop at s))
    ≡ record { file = le 2 (drop at s); stored = le 2 (drop (at + 2) s); kind = le 1 (drop (at + 4) s); checksum = le 8 (drop (at + 5) s) }
unfolding piece_of
piece-at s at =
    let b = body-le s at 13 in
    let e : le 2 (take 13 (drop at s)) ≡ le 2 (drop at s) = rw add-zero at (b 2 0 (omega arith)) in
    simp (e, b 2 2 (omega arith), b 1 4 (omega arith), b 8 5 (omega arith))

-- a piece's parts, each at its own place
pub ruleset piece_places = (piece-at)
