-- The compression kinds that a piece may have, as the Linux header's BCH_COMPRESSION_TYPE has them.
use Rattle.std.specs.Prelude.{◌≡◌, ℕ, false, ◌&&◌, ◌||◌, leb, eqb, Result, MatchResult}
use Rattle.format.specs.declared.compression.Compression.{Compression}
use Rattle.format.specs.declared.compression.Compression.TheVariants.{Off, Gzip, Lz4, Zstd, Incompressible}
use Rattle.format.specs.declared.compression.UnknownCompression.{UnknownCompression}

-- the byte of a kind
abbrev pub kind_byte : Compression → ℕ
kind_byte Off = 0
kind_byte Gzip = 2
kind_byte Lz4 = 3
kind_byte Zstd = 4
kind_byte Incompressible = 5

-- what a byte names: the kind that has it, and none for 1 and above 5
abbrev pub NamesKind : ℕ → Result Compression UnknownCompression → Type 0
NamesKind byte r =
    MatchResult r (λ k. kind_byte k ≡ byte) (λ e. (e.0 ≡ byte) × ((eqb byte 0 || (leb 2 byte && leb byte 5)) ≡ false))
