-- What is packed is read back: a word's bit fields, a struct's members.
use Rattle.std.proofs.Common.{◌≡◌, ℕ, ◌+◌, ◌-◌, ◌*◌, ◌/◌, ◌%◌, ◌^◌, ◌<◌, ◌≤◌, List, [], ◌∷◌, map, get_or, refl, ap, ◌∙◌, mod-lt, mod-eq_of_lt, mul-le-mul_left, zero-add, mul-add, arith, pow_pos, pow-add}
use native.Mathlib.Nat.{add-mul-mod_self_left, add-mul-div_left, div-eq_of_lt, mod-mod}
use Rattle.wire.specs.Kinds.{sector_number}
use Rattle.wire.specs.declared.kinds.DeviceSector.{DeviceSector}
use Rattle.format.specs.Packing.{pack, unpack}
use Rattle.format.specs.Entries.{pointer, crc32, crc64}
use Rattle.format.specs.AllocV4.{Flags, flags_word, flags_of}

-- each value is within its width
abbrev pub Fit : List (ℕ × ℕ) → Type 0
Fit [] = Unit {0}
Fit ((w, x) ∷ fs) = (x < 2 ^ w) × Fit fs

-- bit fields that fit are read back
pub unpack-pack : (fs : List (ℕ × ℕ)) → Fit fs → unpack (map (λ f. f.0) fs) (pack fs) ≡ map (λ f. f.1) fs
unfolding pack unpack
unpack-pack [] h = refl
unpack-pack ((w, x) ∷ fs) h =
    let e : x % 2 ^ w ≡ x = mod-eq_of_lt h.0 in
    let q : (x + 2 ^ w * pack fs) / 2 ^ w ≡ pack fs = add-mul-div_left x (pack fs) (pow_pos w) ∙ rw (div-eq_of_lt h.0, zero-add) in
    rw (e, q, unpack-pack fs h.1, add-mul-mod_self_left x (2 ^ w) (pack fs), e)

-- the bits of some fields
abbrev pub width_of : List (ℕ × ℕ) → ℕ
width_of [] = 0
width_of ((w, x) ∷ fs) = w + width_of fs

-- a word has no more bits than its fields
pub pack-below : (fs : List (ℕ × ℕ)) → pack fs < 2 ^ width_of fs
unfolding pack
pack-below [] = omega arith
pack-below ((w, x) ∷ fs) =
    let l : pack fs + 1 ≤ 2 ^ width_of fs = omega (arith, pack-below fs) in
    rw (pow-add 2 w (width_of fs)) (omega (arith, mod-lt x (pow_pos w), mul-le-mul_left (2 ^ w) l, mul-add (2 ^ w) (pack fs) 1))

-- struct bch_extent_ptr: type, cached, unused, unwritten, offset, dev, gen; FORMAT.md, "Pieces and extents": the pointer is 1 + 16 × first device sector + 2^56 × generation
pub pointer-decodes : (d : DeviceSector) (generation : ℕ) → sector_number d < 2 ^ 44 → generation < 256
    → unpack (1 ∷ 1 ∷ 1 ∷ 1 ∷ 44 ∷ 8 ∷ 8 ∷ []) (pointer d generation) ≡ 1 ∷ 0 ∷ 0 ∷ 0 ∷ sector_number d ∷ 0 ∷ generation ∷ []
unfolding pointer
pointer-decodes d generation h g =
    unpack-pack ((1, 1) ∷ (1, 0) ∷ (1, 0) ∷ (1, 0) ∷ (44, sector_number d) ∷ (8, 0) ∷ (8, generation) ∷ []) (omega arith)

-- the pointer is one word
pub pointer-below : (d : DeviceSector) (generation : ℕ) → pointer d generation < 2 ^ 64
unfolding pointer
pointer-below d generation =
    pack-below ((1, 1) ∷ (1, 0) ∷ (1, 0) ∷ (1, 0) ∷ (44, sector_number d) ∷ (8, 0) ∷ (8, generation) ∷ [])

-- a checksum of more than 32 bits is cut
crc32-low : (stored file ctype kind checksum : ℕ) → crc32 stored file ctype kind checksum ≡ crc32 stored file ctype kind (checksum % 2 ^ 32)
unfolding crc32 pack
crc32-low stored file ctype kind checksum = simp mod-mod

-- struct bch_extent_crc32: type, _compressed_size, _uncompressed_size, offset, _unused, csum_type, compression_type, csum; FORMAT.md, "Pieces and extents": the checksum's low 32 bits
pub crc32-decodes : (stored file ctype kind checksum : ℕ) → stored ≤ 128 → file ≤ 128 → ctype < 16 → kind < 16
    → unpack (2 ∷ 7 ∷ 7 ∷ 7 ∷ 1 ∷ 4 ∷ 4 ∷ 32 ∷ []) (crc32 stored file ctype kind checksum) ≡ 2 ∷ (stored - 1) ∷ (file - 1) ∷ 0 ∷ 0 ∷ ctype ∷ kind ∷ (checksum % 2 ^ 32) ∷ []
unfolding crc32
crc32-decodes stored file ctype kind checksum s f t k =
    ap (unpack (2 ∷ 7 ∷ 7 ∷ 7 ∷ 1 ∷ 4 ∷ 4 ∷ 32 ∷ [])) (crc32-low stored file ctype kind checksum)
    ∙ unpack-pack
    ((2, 2) ∷ (7, stored - 1) ∷ (7, file - 1) ∷ (7, 0) ∷ (1, 0) ∷ (4, ctype) ∷ (4, kind) ∷ (32, checksum % 2 ^ 32) ∷ [])
    (omega arith)

-- struct bch_extent_crc64: type, _compressed_size, _uncompressed_size, offset, nonce, csum_type, compression_type, csum_hi
pub crc64-decodes : (stored file ctype kind : ℕ) → stored ≤ 512 → file ≤ 512 → ctype < 16 → kind < 16
    → unpack (3 ∷ 9 ∷ 9 ∷ 9 ∷ 10 ∷ 4 ∷ 4 ∷ 16 ∷ []) (crc64 stored file ctype kind) ≡ 4 ∷ (stored - 1) ∷ (file - 1) ∷ 0 ∷ 0 ∷ ctype ∷ kind ∷ 0 ∷ []
unfolding crc64
crc64-decodes stored file ctype kind s f t k =
    unpack-pack
    ((3, 4) ∷ (9, stored - 1) ∷ (9, file - 1) ∷ (9, 0) ∷ (10, 0) ∷ (4, ctype) ∷ (4, kind) ∷ (16, 0) ∷ [])
    (omega arith)

-- extents_format.h: an entry's type is the position of its first set bit, which is 0 in a pointer
pub pointer-first : (d : DeviceSector) (generation : ℕ) → pointer d generation % 2 ≡ 1
unfolding pointer pack
pointer-first d generation = omega arith

-- 1 in a crc32
pub crc32-first : (stored file ctype kind checksum : ℕ) → crc32 stored file ctype kind checksum % 4 ≡ 2
unfolding crc32 pack
crc32-first stored file ctype kind checksum = omega arith

-- and 2 in a crc64
pub crc64-first : (stored file ctype kind : ℕ) → crc64 stored file ctype kind % 8 ≡ 4
unfolding crc64 pack
crc64-first stored file ctype kind = omega arith

-- each flag is within its mask
pub record FlagsFit (f : Flags) : Type 0 where
  pub need_discard : f.need_discard < 2 ^ 1
  pub need_inc_gen : f.need_inc_gen < 2 ^ 1
  pub backpointers_start : f.backpointers_start < 2 ^ 6
  pub nr_backpointers : f.nr_backpointers < 2 ^ 6
  pub unnamed : f.unnamed < 2 ^ 18

-- alloc_background_format.h's masks: NEED_DISCARD, NEED_INC_GEN, BACKPOINTERS_START, NR_BACKPOINTERS, and the bits above them
pub flags-decode : (f : Flags) → FlagsFit f → flags_of (flags_word f) ≡ f
unfolding flags_of flags_word
flags-decode f h =
    let e = unpack-pack
    ((1, f.need_discard) ∷ (1, f.need_inc_gen) ∷ (6, f.backpointers_start) ∷ (6, f.nr_backpointers) ∷ (18, f.unnamed) ∷ [])
    (omega arith) in
    λ i. record {
      need_discard = get_or (e i) 0 0;
      need_inc_gen = get_or (e i) 1 0;
      backpointers_start = get_or (e i) 2 0;
      nr_backpointers = get_or (e i) 3 0;
      unnamed = get_or (e i) 4 0;
    }
