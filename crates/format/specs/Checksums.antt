-- FORMAT.md, "Call list": the checksum options of a head. The checksum types of an entry, as the Linux header's BCH_CSUM has them.
use Rattle.std.specs.Prelude.{◌≡◌, ℕ, ◌<◌, Result, MatchResult}
use Rattle.format.specs.declared.checksums.ChecksumOption.{ChecksumOption}
use Rattle.format.specs.declared.checksums.ChecksumOption.TheVariants.{Off, Crc32c, Crc64, Xxhash}
use Rattle.format.specs.declared.checksums.UnknownOption.{UnknownOption}
use Rattle.format.specs.declared.checksums.ChecksumType.{ChecksumType}
use Rattle.format.specs.declared.checksums.ChecksumType.TheVariants as types

-- the byte of an option
abbrev pub option_byte : ChecksumOption → ℕ
option_byte Off = 0
option_byte Crc32c = 1
option_byte Crc64 = 2
option_byte Xxhash = 3

-- what a byte names: the option that has it, and none above 3
abbrev pub Names : ℕ → Result ChecksumOption UnknownOption → Type 0
Names byte r = MatchResult r (λ o. option_byte o ≡ byte) (λ e. (e.0 ≡ byte) × (3 < byte))

-- the number of a type
abbrev pub csum_number : ChecksumType → ℕ
csum_number types.None = 0
csum_number types.Crc32c = 5
csum_number types.Crc64 = 6
csum_number types.Xxhash = 7
