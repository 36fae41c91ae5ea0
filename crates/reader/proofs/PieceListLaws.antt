-- The pieces at some places of a list.
use mathlib.Core.Path.{◌≡◌, refl}
use mathlib.Core.List.{List, [], ◌∷◌, map}
use Prim.Native.Nat.{ℕ, suc, ◌<◌}
use native.Mathlib.Omega.{arith}
use lib.ListN.{length, get_or, take, drop}
use Rattle.calls.specs.CallList as calls
use Rattle.calls.specs.CallList.{piece_of}
use Rattle.reader.specs.Located.{PiecesAt, no_piece}
use Rattle.reader.specs.PieceLists.{pieces_at}

-- those that stand there
pub pieces-listed : {s offsets : List ℕ} {ps : List calls.Piece} → PiecesAt s offsets ps → pieces_at s offsets ≡ ps
pieces-listed {s} {offsets} {ps} f = go offsets ps f.count (λ i h. (f.at i h).is)
  where
    go : (os : List ℕ) (qs : List calls.Piece) → length os ≡ length qs → ((i : ℕ) → i < length os → piece_of (take 13 (drop (get_or os i 0) s)) ≡ get_or qs i no_piece)
        → map (λ at. piece_of (take 13 (drop at s))) os ≡ qs
    go [] [] e h = refl
    go [] (q ∷ qs) e h = absurd (omega arith)
    go (o ∷ os) [] e h = absurd (omega arith)
    go (o ∷ os) (q ∷ qs) e h = rw (h 0 (omega arith), go os qs (omega arith) (λ i l. h (suc i) (omega arith))) refl
