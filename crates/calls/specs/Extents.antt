-- FORMAT.md, "Pieces and extents": what place queues for each piece.
use Rattle.std.specs.Prelude.{ℕ, zero, suc, List, [], ◌∷◌}
use Rattle.wire.specs.Numbers.{words_bytes}
use Rattle.wire.specs.Keys.{Key}
use Rattle.wire.specs.Kinds.{sector_at, extent_end}
use Rattle.wire.specs.Positions.{extent_at, backpointer_at}
use Rattle.wire.specs.declared.kinds.Bucket.{Bucket}
use Rattle.wire.specs.declared.kinds.DeviceSector.{DeviceSector}
use Rattle.wire.specs.declared.kinds.FileSector.{FileSector}
use Rattle.format.specs.Entries.{pointer, extent_words}
use Rattle.format.specs.Backpointer.{backpointer}
use Rattle.calls.specs.CallList.{Head, Piece}
use Rattle.calls.specs.Pieces.{Slot}
use Rattle.calls.specs.Trees.{new_key}

-- a piece with its place: where it starts on the device, its bucket and generation, and the file sector where its extent ends
pub record Placed : Type 0 where
  pub piece : Piece
  pub first : DeviceSector
  pub bucket : Bucket
  pub generation : ℕ
  pub end : FileSector

-- the bucket at an index among those taken
unfoldable pub bucket_at : Bucket → List Bucket → ℕ → Bucket
bucket_at d [] i = d
bucket_at d (b ∷ bs) zero = b
bucket_at d (b ∷ bs) (suc i) = bucket_at d bs i

-- the pieces at their slots; extents end at base + file sectors so far
unfoldable pub placed_at : ℕ → (Bucket → ℕ) → (ℕ → Bucket) → FileSector → List Piece → List Slot → List Placed
placed_at sectors gen bucket from [] slots = []
placed_at sectors gen bucket from (p ∷ ps) [] = []
placed_at sectors gen bucket from (p ∷ ps) (s ∷ ss) =
    let b = bucket s.index in
    let end = extent_end from p.file in
    record { piece = p; first = sector_at b sectors s.offset; bucket = b; generation = gen b; end = end }
    ∷ placed_at sectors gen bucket end ps ss

-- an extent: type 6, its size the file sectors
unfoldable pub extent_key : Head → Placed → Key
extent_key h p =
    new_key 6 p.piece.file (extent_at h.inode p.end)
    (words_bytes
    (extent_words h.option p.piece.kind p.piece.stored p.piece.file p.piece.checksum
    (pointer p.first p.generation)))

-- its backpointer: type 28
unfoldable pub backpointer_key : Head → Placed → Key
backpointer_key h p =
    new_key 28 0 (backpointer_at p.first) (backpointer p.generation p.piece.stored (extent_at h.inode p.end))
