-- Where fields stand: offsets that find, one for one, the keys of a tree, the reserved buckets and the requests.
use Rattle.std.specs.Prelude.{ℕ, ◌+◌, ◌≤◌, ◌<◌, ◌≡◌, List, [], length, take, drop, get_or}
use Rattle.wire.specs.Keys.{Key}
use Rattle.wire.specs.Kinds.{bucket_read, no_bucket, no_sector}
use Rattle.wire.specs.declared.kinds.Bucket.{Bucket}
use Rattle.calls.specs.CallList.{Piece, Freed, piece_of, freed_of}
use Rattle.reader.specs.KeyHere.{key_here, Whole}

-- a key stands at a place
pub record KeyAt (s : List ℕ) (at : ℕ) (k : Key) : Type 0 where
  pub whole : Whole s at
  pub is : key_here s at ≡ k

-- a place that no key has
abbrev pub no_key : Key
no_key =
    record {
      type = 0;
      size = 0;
      version_hi = 0;
      version_lo = 0;
      pos = record { inode = 0; offset = 0; snapshot = 0 };
      value = [];
    }

-- these offsets find these keys
pub record KeysAt (s offsets : List ℕ) (ks : List Key) : Type 0 where
  pub count : length offsets ≡ length ks
  pub at : (i : ℕ) → i < length offsets → KeyAt s (get_or offsets i 0) (get_or ks i no_key)

-- a reserved bucket's body starts at a place
pub record BucketAt (s : List ℕ) (at : ℕ) (b : Bucket) : Type 0 where
  pub within : at + 4 ≤ length s
  pub is : bucket_read (take 4 (drop at s)) ≡ b

pub record BucketsAt (s offsets : List ℕ) (bs : List Bucket) : Type 0 where
  pub count : length offsets ≡ length bs
  pub at : (i : ℕ) → i < length offsets → BucketAt s (get_or offsets i 0) (get_or bs i no_bucket)

-- a piece's body starts at a place
pub record PieceAt (s : List ℕ) (at : ℕ) (p : Piece) : Type 0 where
  pub within : at + 13 ≤ length s
  pub is : piece_of (take 13 (drop at s)) ≡ p

abbrev pub no_piece : Piece
no_piece = record { file = 0; stored = 0; kind = 0; checksum = 0 }

pub record PiecesAt (s offsets : List ℕ) (ps : List Piece) : Type 0 where
  pub count : length offsets ≡ length ps
  pub at : (i : ℕ) → i < length offsets → PieceAt s (get_or offsets i 0) (get_or ps i no_piece)

-- a released piece's body starts at a place
pub record FreedAt (s : List ℕ) (at : ℕ) (r : Freed) : Type 0 where
  pub within : at + 10 ≤ length s
  pub is : freed_of (take 10 (drop at s)) ≡ r

abbrev pub no_freed : Freed
no_freed = record { first = no_sector; sectors = 0 }

pub record FreedsAt (s offsets : List ℕ) (rs : List Freed) : Type 0 where
  pub count : length offsets ≡ length rs
  pub at : (i : ℕ) → i < length offsets → FreedAt s (get_or offsets i 0) (get_or rs i no_freed)
