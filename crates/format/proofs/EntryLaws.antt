-- The formulas of FORMAT.md, "Pieces and extents", for the pointer and the checksum entries.
use Rattle.std.proofs.Common.{◌≡◌, ℕ, zero, suc, ◌+◌, ◌-◌, ◌*◌, ◌%◌, ◌^◌, ◌<◌, ◌≤◌, [], ◌∷◌, refl, arith}
use Rattle.wire.specs.Kinds.{sector_number}
use Rattle.wire.specs.declared.kinds.DeviceSector.{DeviceSector}
use Rattle.format.specs.Packing.{pack}
use Rattle.format.specs.Entries.{pointer, crc32, crc64, csum_type_of, checksum_entry, extent_words}

-- the pointer word is 1 + 16 × device sector + 2^56 × generation
pub pointer_is : (d : DeviceSector) (generation : ℕ) → sector_number d < 2 ^ 44 → generation < 256
    → 1 + 16 * sector_number d + 2 ^ 56 * generation ≡ pointer d generation
unfolding pointer pack
pointer_is d generation h g = omega arith

-- option 1's entry is 2 plus stored and file sectors less one at bits 2 and 9, checksum type at 24, kind at 28, low checksum half at 32
pub crc32-is : (stored file ctype kind checksum : ℕ) → stored ≤ 128 → file ≤ 128 → ctype < 16 → kind < 16
    → 2 + (stored - 1) * 2 ^ 2 + (file - 1) * 2 ^ 9 + ctype * 2 ^ 24 + kind * 2 ^ 28 + checksum % 2 ^ 32 * 2 ^ 32 ≡ crc32 stored file ctype kind checksum
unfolding crc32 pack
crc32-is stored file ctype kind checksum s f t k =
    let a : (stored - 1) % 128 ≡ stored - 1 = omega arith in
    let b : (file - 1) % 128 ≡ file - 1 = omega arith in
    let d : ctype % 16 ≡ ctype = omega arith in
    let e : kind % 16 ≡ kind = omega arith in
    rw (a, b, d, e) (omega arith)

-- options 2 and 3: 4 plus the same at 3, 12, 40, 44
pub crc64-is : (stored file ctype kind : ℕ) → stored ≤ 512 → file ≤ 512 → ctype < 16 → kind < 16
    → 4 + (stored - 1) * 2 ^ 3 + (file - 1) * 2 ^ 12 + ctype * 2 ^ 40 + kind * 2 ^ 44 ≡ crc64 stored file ctype kind
unfolding crc64 pack
crc64-is stored file ctype kind s f t k =
    let a : (stored - 1) % 512 ≡ stored - 1 = omega arith in
    let b : (file - 1) % 512 ≡ file - 1 = omega arith in
    let d : ctype % 16 ≡ ctype = omega arith in
    let e : kind % 16 ≡ kind = omega arith in
    rw (a, b, d, e) (omega arith)

-- the word of an entry, of either width
pub ruleset entries_packed = (crc32-is, crc64-is)

-- options 1 to 3 give their number and 4
pub csum-none : csum_type_of 0 ≡ 0
unfolding csum_type_of
csum-none = refl

pub csum-is : (option : ℕ) → 0 < option → option ≤ 3 → option + 4 ≡ csum_type_of option
unfolding csum_type_of
csum-is zero l h = absurd (omega arith)
csum-is (suc zero) l h = refl
csum-is (suc (suc zero)) l h = refl
csum-is (suc (suc (suc zero))) l h = refl
csum-is (suc (suc (suc (suc n)))) l h = absurd (omega arith)

-- the words by option
module _ (kind stored file checksum word : ℕ) where
  pub words-0 : extent_words 0 kind stored file checksum word ≡ word ∷ []
  unfolding extent_words checksum_entry
  words-0 = refl

  pub words-1 : extent_words 1 kind stored file checksum word ≡ crc32 stored file (csum_type_of 1) kind checksum ∷ word ∷ []
  unfolding extent_words checksum_entry
  words-1 = refl

  pub words_more : (option : ℕ) → 1 < option → extent_words option kind stored file checksum word ≡ crc64 stored file (csum_type_of option) kind ∷ checksum ∷ word ∷ []
  unfolding extent_words checksum_entry
  words_more zero l = absurd (omega arith)
  words_more (suc zero) l = absurd (omega arith)
  words_more (suc (suc n)) l = refl
