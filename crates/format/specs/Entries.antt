-- The entries of an extent (extents_format.h): struct bch_extent_ptr, bch_extent_crc32 and bch_extent_crc64; and FORMAT.md, "Pieces and extents".
use Rattle.std.specs.Prelude.{ℕ, zero, suc, ◌-◌, List, [], ◌∷◌, ◌++◌, slice_index}
use Rattle.wire.specs.Kinds.{sector_number}
use Rattle.wire.specs.declared.kinds.DeviceSector.{DeviceSector}
use Rattle.format.specs.Packing.{pack}

-- type (the first bit set), cached, unused, unwritten, offset, dev, gen
unfoldable pub pointer : DeviceSector → ℕ → ℕ
pointer d generation =
    pack ((1, 1) ∷ (1, 0) ∷ (1, 0) ∷ (1, 0) ∷ (44, sector_number d) ∷ (8, 0) ∷ (8, generation) ∷ [])

-- type (the second bit set), _compressed_size and _uncompressed_size less one, offset, _unused, csum_type, compression_type, csum
unfoldable pub crc32 : ℕ → ℕ → ℕ → ℕ → ℕ → ℕ
crc32 stored file csum_type kind checksum =
    pack ((2, 2) ∷ (7, stored - 1) ∷ (7, file - 1) ∷ (7, 0) ∷ (1, 0) ∷ (4, csum_type) ∷ (4, kind) ∷ (32, checksum) ∷ [])

-- type (the third bit set), _compressed_size and _uncompressed_size less one, offset, nonce, csum_type, compression_type, csum_hi; csum_lo is the next
-- word, and a checksum of 64 bits has no more
unfoldable pub crc64 : ℕ → ℕ → ℕ → ℕ → ℕ
crc64 stored file csum_type kind =
    pack ((3, 4) ∷ (9, stored - 1) ∷ (9, file - 1) ∷ (9, 0) ∷ (10, 0) ∷ (4, csum_type) ∷ (4, kind) ∷ (16, 0) ∷ [])

-- checksum options 0 to 3 give types 0, 5, 6, 7
unfoldable pub csum_type_of : ℕ → ℕ
csum_type_of option = slice_index (0 ∷ 5 ∷ 6 ∷ 7 ∷ []) option

-- option 0: no entry; option 1: a crc32; options 2 and 3: a crc64 with the checksum
unfoldable pub checksum_entry : ℕ → ℕ → ℕ → ℕ → ℕ → List ℕ
checksum_entry zero kind stored file checksum = []
checksum_entry (suc zero) kind stored file checksum = crc32 stored file (csum_type_of 1) kind checksum ∷ []
checksum_entry (suc (suc n)) kind stored file checksum = crc64 stored file (csum_type_of (suc (suc n))) kind ∷ checksum ∷ []

-- an extent's value: its checksum entry, if it has one, and its pointer
unfoldable pub extent_words : ℕ → ℕ → ℕ → ℕ → ℕ → ℕ → List ℕ
extent_words option kind stored file checksum word = checksum_entry option kind stored file checksum ++ (word ∷ [])
