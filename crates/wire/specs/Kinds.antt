-- A bucket number, a device sector and a file sector each have a kind of their own. These are the ways from one to another.
use Rattle.std.specs.Prelude.{ℕ, zero, suc, ◌+◌, ◌-◌, ◌*◌, ◌/◌, ◌%◌, ◌^◌, List, [], ◌∷◌, map, Bool, ◌&&◌, leb, ltb, eqb}
use Rattle.wire.specs.Numbers.{le, le_bytes}
use Rattle.wire.specs.declared.kinds.Bucket.{Bucket}
use Rattle.wire.specs.declared.kinds.DeviceSector.{DeviceSector}
use Rattle.wire.specs.declared.kinds.FileSector.{FileSector}

-- the sector at an offset into a bucket of so many sectors
abbrev pub sector_at : Bucket → ℕ → ℕ → DeviceSector
sector_at b sectors offset = record { 0 = b.0 * sectors + offset }

-- the bucket that a sector lies in, where a bucket has so many sectors
abbrev pub bucket_of : DeviceSector → ℕ → Bucket
bucket_of d sectors = record { 0 = d.0 / sectors }

-- how far into its bucket a sector lies
abbrev pub offset_in : DeviceSector → ℕ → ℕ
offset_in d sectors = d.0 % sectors

-- a sector is one of so many from a first one on
abbrev pub sector_within : DeviceSector → ℕ → DeviceSector → Bool
sector_within first count d = leb first.0 d.0 && ltb d.0 (first.0 + count)

abbrev pub same_sector : DeviceSector → DeviceSector → Bool
same_sector a b = eqb a.0 b.0

-- the file sector where an extent of so many sectors ends
abbrev pub extent_end : FileSector → ℕ → FileSector
extent_end from sectors = record { 0 = from.0 + sectors }

-- a bucket for a place that none has
abbrev pub no_bucket : Bucket
no_bucket = record { 0 = 0 }

-- a device sector for a place that none has
abbrev pub no_sector : DeviceSector
no_sector = record { 0 = 0 }

-- a bucket by its number
abbrev pub bucket_is : ℕ → Bucket
bucket_is n = record { 0 = n }

-- the buckets of a table that holds their numbers
unfoldable pub buckets_in : List ℕ → List Bucket
buckets_in ns = map bucket_is ns

-- the next bucket
abbrev pub next_bucket : Bucket → Bucket
next_bucket b = record { 0 = b.0 + 1 }

abbrev pub same_bucket : Bucket → Bucket → Bool
same_bucket a b = eqb a.0 b.0

abbrev pub bucket_below : Bucket → Bucket → Bool
bucket_below a b = ltb a.0 b.0

-- FORMAT.md, "Limits": bucket numbers are below 65,536
abbrev pub bucket_in_range : Bucket → Bool
bucket_in_range b = ltb b.0 65536

-- the end of a run, which may be the one after the last bucket
abbrev pub run_end_in_range : Bucket → Bool
run_end_in_range b = leb b.0 65536

-- a run of so many buckets up to an end, the end left out: where it starts, from bucket 0 on, and whether it began before that
abbrev pub run_start : Bucket → ℕ → Bucket
run_start end size = record { 0 = end.0 - size }

abbrev pub began_before : Bucket → ℕ → Bool
began_before end size = ltb end.0 size

-- n buckets from a first one on
unfoldable pub buckets_from : ℕ → Bucket → List Bucket
buckets_from zero b = []
buckets_from (suc n) b = b ∷ buckets_from n (next_bucket b)

-- the buckets from a first one up to an end, the end left out
abbrev pub buckets_up_to : Bucket → Bucket → List Bucket
buckets_up_to start end = buckets_from (end.0 - start.0) start

-- a bucket in the fields 64, 71, 72 and 75
abbrev pub bucket_bytes : Bucket → List ℕ
bucket_bytes b = le_bytes 4 b.0

abbrev pub bucket_read : List ℕ → Bucket
bucket_read s = record { 0 = le 4 s }

-- a device sector in the fields 66 and 72
abbrev pub sector_bytes : DeviceSector → List ℕ
sector_bytes d = le_bytes 8 d.0

abbrev pub sector_read : List ℕ → DeviceSector
sector_read s = record { 0 = le 8 s }

-- the base file sector of field 1
abbrev pub file_sector_bytes : FileSector → List ℕ
file_sector_bytes f = le_bytes 8 f.0

abbrev pub file_sector_read : List ℕ → FileSector
file_sector_read s = record { 0 = le 8 s }

-- FORMAT.md, "Limits": the base is below 2^40
abbrev pub base_in_range : FileSector → Bool
base_in_range f = ltb f.0 (2 ^ 40)

-- the numbers of a kind, for a line of text, a pointer's offset and a bound
abbrev pub bucket_number : Bucket → ℕ
bucket_number b = b.0

abbrev pub sector_number : DeviceSector → ℕ
sector_number d = d.0

abbrev pub file_sector_number : FileSector → ℕ
file_sector_number f = f.0
