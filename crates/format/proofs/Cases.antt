-- FORMAT.md, "Worked cases": 5, 6 and 9.
use Rattle.std.proofs.Common.{◌≡◌, ◌+◌, ◌^◌, refl}
use Rattle.wire.specs.Numbers.{le, le_bytes}
use Rattle.wire.specs.Output.{put}
use Rattle.wire.specs.Positions.{lru_at}
use Rattle.wire.specs.declared.kinds.Bucket.{Bucket}
use Rattle.format.specs.Packing.{pack, unpack, struct_bytes, get, store}
use Rattle.format.specs.AllocV4.{flags, gen, oldest_gen, flags_word, flags_of, new_alloc, next_gen, emptied_flags, emptied}
use Rattle.format.specs.Entries.{crc32, csum_type_of}
use Rattle.format.specs.Lru.{fragmentation}

-- 5: "Dirty 96 of 128: 1,610,612,736 in the LRU inode."
pub p5 : fragmentation 96 128 ≡ 1_610_612_736
unfolding fragmentation
p5 = refl

-- and in a key of that index, above 2^61
pub p5-inode : (b : Bucket) → (lru_at (fragmentation 96 128) b).inode ≡ 2 ^ 61 + 1_610_612_736
unfolding fragmentation
p5-inode b = refl

-- 6: "Generation 255, flags hexadecimal 23: emptied 0 and 21."
pub p6 : (next_gen 255 ≡ 0) × (emptied_flags 0x23 ≡ 0x21)
unfolding next_gen emptied_flags flags_word flags_of pack unpack
p6 = (refl, refl)

-- the same of a whole value, in which 255 was placed and journal number 7 empties it
pub p6-value :
    (get gen (emptied 7 (new_alloc 1 255 96 1)) ≡ 0)
    × (get oldest_gen (emptied 7 (new_alloc 1 255 96 1)) ≡ 0)
    × (get flags (emptied 7 (new_alloc 1 255 96 1)) ≡ 0x21)
unfolding get store put le le_bytes emptied new_alloc struct_bytes next_gen emptied_flags flags_word flags_of pack unpack
p6-value = (refl, refl, refl)

-- 9: "Option 1, kind 0, 128 sectors, checksum 0: hexadecimal 500FFFE."
pub p9 : crc32 128 128 (csum_type_of 1) 0 0 ≡ 0x500FFFE
unfolding crc32 csum_type_of pack
p9 = refl
