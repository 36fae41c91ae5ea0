-- Laws of packed words and structs.
use Rattle.std.proofs.Common.{◌≡◌, ℕ, ◌+◌, ◌*◌, ◌^◌, ◌<◌, List, [], ◌∷◌, ◌++◌, arith}
use Rattle.wire.specs.Numbers.{le_bytes, each, words_bytes}
use Rattle.wire.proofs.NumberLaws.{le_join}
use Rattle.format.specs.Packing.{struct_bytes}
use Rattle.format.specs.AllocV4.{new_alloc, flags_word}
use Rattle.format.specs.Packing.{pack}

-- a number of four bytes and four zeros are one of eight
pub wide : (x : ℕ) (s : List ℕ) → x < 2 ^ 32 → le_bytes 4 x ++ (le_bytes 4 0 ++ s) ≡ le_bytes 8 x ++ s
wide x s h =
    let e : x + 256 ^ 4 * 0 ≡ x = omega arith in
    rw (le_join 4 4 x 0 s (omega arith), e)

module _ (journal generation dirty clock : ℕ) (g : generation < 256) (d : dirty < 2 ^ 32) where
  second : (s : List ℕ) → le_bytes 4 0x23 ++ (le_bytes 1 generation ++ (le_bytes 1 generation ++ (le_bytes 1 4 ++ (le_bytes 1 0 ++ s)))) ≡ le_bytes 8 (0x23 + generation * 2 ^ 32 + generation * 2 ^ 40 + 4 * 2 ^ 48) ++ s
  second s =
      let e : 0x23 + 256 ^ 4 * (generation + 256 ^ 1 * (generation + 256 ^ 1 * (4 + 256 ^ 1 * 0))) ≡ 0x23 + generation * 2 ^ 32 + generation * 2 ^ 40 + 4 * 2 ^ 48 = omega arith in
      rw (
        le_join 1 1 4 0 s (omega arith),
        le_join 1 2 generation (4 + 256 ^ 1 * 0) s (omega arith),
        le_join 1 3 generation (generation + 256 ^ 1 * (4 + 256 ^ 1 * 0)) s (omega arith),
        le_join 4 4 0x23 (generation + 256 ^ 1 * (generation + 256 ^ 1 * (4 + 256 ^ 1 * 0))) s (omega arith),
        e,
      )

  pub new-words : words_bytes (journal ∷ (0x23 + generation * 2 ^ 32 + generation * 2 ^ 40 + 4 * 2 ^ 48) ∷ dirty ∷ 1 ∷ clock ∷ 0 ∷ 0 ∷ 0 ∷ []) ≡ new_alloc journal generation dirty clock
  unfolding words_bytes each new_alloc struct_bytes flags_word pack
  new-words =
      rw (second _, wide dirty _ d, wide 0 (le_bytes 8 0 ++ (le_bytes 4 0 ++ (le_bytes 4 0 ++ []))) (omega arith), wide 0 [] (omega arith))
