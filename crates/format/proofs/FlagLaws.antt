-- What the flag masks come to as numbers.
use Rattle.std.proofs.Common.{◌≡◌, ℕ, ◌+◌, ◌-◌, ◌*◌, ◌/◌, ◌%◌, ◌^◌, ◌<◌, arith, ap, ◌∙◌}
use native.Mathlib.Nat.{mod-mod}
use Rattle.std.specs.Int.Bits.{bit_and}
use Rattle.std.proofs.lemmas.Nat.{and_mask, and_block}
use Rattle.std.proofs.lemmas.Nat.Bits.{and_high}
use Rattle.format.specs.Packing.{pack, unpack}
use Rattle.format.specs.AllocV4.{flags_word, flags_of, emptied_flags, discarded_flags}

-- the low byte without bit 1
pub empty-is : (x : ℕ) → x < 2 ^ 32 → x % 256 - x / 2 % 2 * 2 ≡ emptied_flags x
unfolding emptied_flags flags_word flags_of pack unpack
empty-is x h = simp mod-mod (omega arith)

-- all but bit 0
pub discard-is : (x : ℕ) → x < 2 ^ 32 → x - x % 2 ≡ discarded_flags x
unfolding discarded_flags flags_word flags_of pack unpack
discard-is x h = simp mod-mod (omega arith)

pub discard-sum : (x : ℕ) → x < 2 ^ 32 → x / 2 * 2 ≡ discarded_flags x
discard-sum x h = omega (arith, discard-is x h)

pub empty-masked : (x : ℕ) → x < 2 ^ 32 → bit_and x 0xfd ≡ emptied_flags x
empty-masked x h =
    let e : x ≡ x / 4 * 2 ^ 2 + x % 4 = omega arith in
    let b : bit_and (x / 4 * 2 ^ 2 + x % 4) (63 * 2 ^ 2 + 1) ≡ bit_and (x / 4) 63 * 2 ^ 2 + bit_and (x % 4) 1 =
    and_block 2 (x / 4) 63 (x % 4) 1 (omega arith) (omega arith)
    in
    let m : bit_and (x / 4) 63 ≡ x / 4 % 64 = and_mask (x / 4) 6 in
    let n : bit_and (x % 4) 1 ≡ x % 4 % 2 = and_mask (x % 4) 1 in
    ap (λ (y : ℕ). bit_and y 0xfd) e ∙ omega (arith, b, m, n, empty-is x h)

pub discard-masked : (x : ℕ) → x < 2 ^ 32 → bit_and x 0xffff_fffe ≡ discarded_flags x
discard-masked x h = omega (arith, and_high x 31 1, discard-is x h)

-- the flags that a mask leaves
pub ruleset flags_masked = (empty-masked, discard-masked)
