-- A table of bits, one for each bucket: bucket b in bit b mod 8 of byte b div 8.
use Rattle.std.specs.Prelude.{ℕ, ◌+◌, ◌/◌, ◌%◌, ◌^◌, ◌≡◌, Bool, true, not, ◌&&◌, cond, List, leb, eqb, length, get_or, set}
use Rattle.wire.specs.Keys.{Key}
use Rattle.wire.specs.Kinds.{bucket_in_range}
use Rattle.wire.specs.Positions.{bucket_in}
use Rattle.wire.specs.declared.kinds.Bucket.{Bucket}
use Rattle.calls.specs.Limits.{at_inode0}
use Rattle.calls.specs.Freespace.{is_in, is_used}
use Rattle.reader.specs.ListedKeys.{keys_listed}
use Rattle.reader.specs.ListedBuckets.{buckets_listed}
use Rattle.reader.specs.declared.read_list.ReadList.{ReadList}
use Rattle.bucket_bits.specs.declared.marks.BucketBits.{BucketBits}

-- a bit of a byte
abbrev pub bit : ℕ → ℕ → ℕ
bit k x = x / 2 ^ k % 2

unfoldable pub has_bit : ℕ → ℕ → Bool
has_bit k x = eqb (bit k x) 1

-- a byte with a bit set
unfoldable pub with_bit : ℕ → ℕ → ℕ
with_bit k x = cond (has_bit k x) x (x + 2 ^ k)

-- a bucket is marked
unfoldable pub marked : BucketBits → Bucket → Bool
marked bits b = has_bit (b.0 % 8) (get_or bits.bytes (b.0 / 8) 0)

-- the table with a bucket marked
unfoldable pub with_mark : BucketBits → Bucket → BucketBits
with_mark bits b = record { bytes = set bits.bytes (b.0 / 8) (with_bit (b.0 % 8) (get_or bits.bytes (b.0 / 8) 0)) }

-- an alloc value that is long enough and has a data type other than free
abbrev pub holds_data : List ℕ → Bool
holds_data v = leb 16 (length v) && not (eqb (get_or v 14 0) 0)

-- an alloc key at inode 0 whose bucket is in use
unfoldable pub in_use : Key → Bool
in_use k = at_inode0 k && holds_data k.value

-- the table with its bucket marked
unfoldable pub used_mark : Key → BucketBits → BucketBits
used_mark k bits = cond (in_use k) (with_mark bits (bucket_in k.pos)) bits

-- the marked buckets are those of which a test holds
pub record Marks (bits : BucketBits) (is : Bucket → Bool) : Type 0 where
  pub told : (b : Bucket) → bucket_in_range b ≡ true → marked bits b ≡ is b

-- the tables of a list's reserved buckets and of those in use
pub record Tables (r : ReadList) (reserved used : BucketBits) : Type 0 where
  pub reserved-told : Marks reserved (is_in (buckets_listed r.reserved))
  pub used-told : Marks used (is_used (keys_listed r.alloc))
