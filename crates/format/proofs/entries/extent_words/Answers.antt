use Rattle.std.proofs.Common.{arith, refl, ◌≡◌, ℕ, ◌≤◌, List, [], ◌∷◌, ◌++◌, length, drop, replicate}
use mathlib.Core.Logic.{⊎_elim}
use Rattle.format.specs.declared.checksums.ChecksumOption.{ChecksumOption}
use Rattle.format.specs.Checksums.{option_byte}
use Rattle.format.specs.Entries.{checksum_entry, extent_words}
use Rattle.wire.specs.Filled.{Filled}
use Rattle.wire.proofs.FilledLaws.{filled-front}
use Rattle.format.proofs.entries.extent_words.Goals as goal
use Rattle.format.proofs.entries.extent_words.Goals.{in-Off, in-Crc32c, in-Crc64}

-- how many words the value of an option has
abbrev Sized : ChecksumOption → ℕ → Type 0
Sized o n = (kind stored file checksum word : ℕ) → length (extent_words (option_byte o) kind stored file checksum word) ≡ n

-- the words of a value in front of zeros
stored : {o p : ChecksumOption} {n : ℕ} {ws : List ℕ} (xs : List ℕ) → Sized o n → o ≡ p → length (extent_words (option_byte p) 0 0 0 0 0) ≡ length xs → length xs ≤ 3 → ws ≡ xs ++ drop (length xs) (replicate 3 0) → Filled 3 n ws
stored xs size e long most is = rw (is, ← size 0 0 0 0 0, e, long) (filled-front 3 xs most)

-- a value's words stand in front of zeros
pub invariant_of-result : goal.invariant_of-result
unfolding checksum_entry extent_words
invariant_of-result c =
    let size : Sized c.args.option c.extent_size.result = c.extent_size.ensures.1 in
    elim c.match-option.branch [
      | in-Off w ↦ stored (c.args.word ∷ []) size w.in-Off.is refl (omega arith) w.words-is
      | in-Crc32c w ↦ stored (w.crc32.result ∷ c.args.word ∷ []) size w.in-Crc32c.is refl (omega arith) w.words-is
      | in-Crc64 w ↦
          let xs = w.crc64.result ∷ c.args.checksum ∷ c.args.word ∷ [] in
          ⊎_elim
          (λ e. stored xs size e refl (omega arith) w.words-is)
          (λ e. stored xs size e refl (omega arith) w.words-is)
          w.in-Crc64.is
    ]
