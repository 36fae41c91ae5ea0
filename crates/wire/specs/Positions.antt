-- A key's position is made and read by these functions of the kinds, one for each tree. FORMAT.md, "Keys".
use Rattle.std.specs.Prelude.{ℕ, ◌+◌, ◌-◌, ◌*◌, ◌/◌, ◌%◌, ◌^◌}
use Rattle.wire.specs.declared.kinds.Bucket.{Bucket}
use Rattle.wire.specs.declared.kinds.DeviceSector.{DeviceSector}
use Rattle.wire.specs.declared.kinds.FileSector.{FileSector}
use Rattle.wire.specs.declared.bpos.Bpos.{Bpos}

-- tree 0: the extent ends at base + file sectors so far, snapshot 2^32 − 1
abbrev pub extent_at : ℕ → FileSector → Bpos
extent_at inode end = record { inode = inode; offset = end.0; snapshot = 2 ^ 32 - 1 }

-- tree 4: an alloc key, at inode 0
abbrev pub alloc_at : Bucket → Bpos
alloc_at b = record { inode = 0; offset = b.0; snapshot = 0 }

-- tree 10: inode 2^61 + index
abbrev pub lru_at : ℕ → Bucket → Bpos
lru_at index b = record { inode = 2 ^ 61 + index; offset = b.0; snapshot = 0 }

-- tree 11: a freespace run, at inode 0 and its end, which is left out of it
abbrev pub run_at : Bucket → Bpos
run_at end = record { inode = 0; offset = end.0; snapshot = 0 }

-- tree 12: at (journal number, bucket)
abbrev pub need_discard_at : ℕ → Bucket → Bpos
need_discard_at journal b = record { inode = journal; offset = b.0; snapshot = 0 }

-- tree 13: at device sector × 65,536
abbrev pub backpointer_at : DeviceSector → Bpos
backpointer_at d = record { inode = 0; offset = d.0 * 65536; snapshot = 0 }

-- tree 14: at b div 256
abbrev pub gens_at : Bucket → Bpos
gens_at b = record { inode = 0; offset = b.0 / 256; snapshot = 0 }

-- tree 14: byte b mod 256 of the record's value
abbrev pub gens_byte : Bucket → ℕ
gens_byte b = b.0 % 256

-- the bucket that a key of tree 4, 10 or 12 is of, and the end of a run of tree 11
abbrev pub bucket_in : Bpos → Bucket
bucket_in p = record { 0 = p.offset }
