-- What planning hands over to the emission, with the bounds that refusals and limits have shown by then; and the pieces one after the other.
use Rattle.std.specs.Prelude.{ℕ, ◌+◌, ◌*◌, ◌≤◌, ◌<◌, ◌^◌, ◌≡◌, true, List, ◌∷◌, map, length, get_or, drop}
use Rattle.wire.specs.Kinds.{no_bucket, bucket_below, bucket_in_range, base_in_range, file_sector_number, sector_number}
use Rattle.wire.specs.declared.kinds.Bucket.{Bucket}
use Rattle.wire.specs.declared.kinds.FileSector.{FileSector}
use Rattle.calls.specs.Lists.{all_of, in_order}
use Rattle.calls.specs.CallList.{CallList, Piece}
use Rattle.calls.specs.Generations.{gen_of}
use Rattle.calls.specs.Pieces.{buckets_needed, kind_listed, block_of, piece_sized}
use Rattle.calls.specs.Extents as calls
use Rattle.calls.specs.Extents.{bucket_at, placed_at}
use Rattle.calls.specs.Place.{slots_of, walk_of, dirty_in}
use Rattle.calls.specs.Answers.{read_call, read_volume}
use Rattle.reader.specs.Heads.{head_in}
use Rattle.reader.specs.declared.head.Head.{Head}
use Rattle.reader.specs.Pieces.{piece_in}
use Rattle.format.specs.Checksums.{option_byte}
use Rattle.format.specs.declared.checksums.ChecksumOption.{ChecksumOption}
use Rattle.next_fit.specs.Fit.{slots_in}
use Rattle.next_fit.specs.declared.slot.Slot.{Slot}
use Rattle.place_keys.specs.declared.placed.Placed.{Placed}

-- The pieces of a list s, the slots of each, the buckets taken, their generations, the head and its checksum option.
pub record Planned (s : List ℕ) (ps : List Piece) (ts : List Slot) (buckets : List Bucket) (generations : List ℕ) (h : Head) (o : ChecksumOption) : Type 0 where
  pub pieces : ps ≡ (read_call s).pieces
  pub slots : slots_in ts ≡ slots_of (read_call s)
  pub head : head_in h ≡ (read_volume s).head
  pub taken : buckets ≡ (walk_of (read_call s)).taken
  pub gens : generations ≡ map (gen_of (read_volume s).trees.gens) buckets
  -- refusal 3: at most 1,024 pieces, the base below 2^40
  pub few : length ps ≤ 1024
  pub base : base_in_range h.base ≡ true
  -- refusal 5
  pub option : option_byte o ≡ h.option
  -- refusals 6 and 9
  pub kinds : all_of kind_listed (read_call s).pieces ≡ true
  pub sizes : all_of (piece_sized h.bucket_sectors (block_of h.block_sectors)) (read_call s).pieces ≡ true
  -- refusal 11: the walk takes as many buckets as needed, at most one for each piece
  pub enough : buckets_needed (slots_of (read_call s)) ≤ length buckets
  pub short : length buckets ≤ 1024
  -- refusal 3: runs end at most at 65,536
  pub low : all_of bucket_in_range buckets ≡ true
  -- refusals 22 and 10: runs ascend, and no bucket is in two of them
  pub ascend : in_order bucket_below buckets ≡ true

-- the piece that the code holds, at its place
abbrev pub placed_in : Placed → calls.Placed
placed_in p =
    record { piece = piece_in p.piece; first = p.first; bucket = p.bucket; generation = p.generation; end = p.end }

-- the pieces from piece i on, at their slots, the first extent from a file sector on; from the base on, all are `placed_of`
unfoldable pub placed_from : CallList → ℕ → FileSector → List calls.Placed
placed_from c i end =
    placed_at c.volume.head.bucket_sectors (gen_of c.volume.trees.gens) (bucket_at no_bucket (walk_of c).taken) end
    (drop i c.pieces)
    (drop i (slots_of c))

-- how far in the file the extents of the first i pieces end at most
abbrev pub Reached : ℕ → FileSector → Type 0
Reached i end = file_sector_number end ≤ 2 ^ 40 + 128 * i

-- the bounds that the words of a key ask for
pub record Bounded (p : Placed) : Type 0 where
  pub stored : (1 ≤ p.piece.stored) × (p.piece.stored ≤ 128)
  pub file : (1 ≤ p.piece.file) × (p.piece.file ≤ 128)
  pub kind : p.piece.kind < 16
  pub first : sector_number p.first < 2 ^ 44

-- one step: piece i at its place, and the pieces after it
pub record PieceStepped (s : List ℕ) (i : ℕ) (end : FileSector) (r : Placed) : Type 0 where
  pub here : placed_from (read_call s) i end ≡ placed_in r ∷ placed_from (read_call s) (i + 1) r.end
  pub reached : Reached (i + 1) r.end
  pub bounded : Bounded r

-- the dirty counts of the buckets taken, by index, in a table that may be longer
pub record Dirty (ps : List calls.Placed) (buckets : List Bucket) (counts : List ℕ) : Type 0 where
  pub long : length buckets ≤ length counts
  pub at : (i : ℕ) → i < length buckets → get_or counts i 0 ≡ dirty_in ps (bucket_at no_bucket buckets i)

-- those of some placed pieces
pub record DirtyKnown (buckets : List Bucket) (counts : List ℕ) : Type 0 where
  pub placed : List calls.Placed
  pub dirty : Dirty placed buckets counts
