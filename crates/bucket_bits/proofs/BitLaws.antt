-- The bits of a byte, and the table of bits.
use mathlib.Core.Path.{◌≡◌, refl, ap, sym}
use mathlib.Core.Bool.{Bool, true, false, ◌||◌, cond}
use Prim.Native.Nat.{ℕ, ◌+◌, ◌*◌, ◌/◌, ◌%◌, ◌^◌, ◌<◌, max}
use native.Mathlib.Nat.{zero-div}
use native.Mathlib.Omega.{arith}
use lib.Bits.{or_add_and}
use lib.Dec.{eqb}
use lib.ListN.{length, get_or, set, replicate, length-set, get_or-replicate}
use lib.Seq.{get_or-set_same, get_or-set_other}
use borrow.Author.Tests.{eqb-true, eqb-false, eq-eqb, ne_eqb}
use Rattle.std.specs.Int.Bits.{bit_and, bit_or}
use Rattle.std.proofs.lemmas.Nat.{one_shl}
use Rattle.std.proofs.lemmas.Nat.Bits.{and_pow, shr_and_one, bit_at_or, bit_at-pow_same, bit_at-pow_other}
use Rattle.wire.specs.Kinds.{same_bucket}
use Rattle.wire.specs.declared.kinds.Bucket.{Bucket}
use Rattle.bucket_bits.specs.declared.marks.BucketBits.{BucketBits}
use Rattle.bucket_bits.specs.Bits.{bit, has_bit, with_bit, marked, with_mark}

-- a byte with a bit set, as `|` makes it
or-bit : (k x : ℕ) → bit_or x (2 ^ k) ≡ with_bit k x
unfolding has_bit with_bit
or-bit k x = go (eqb (bit k x) 1) refl
  where
    go : (t : Bool) → eqb (bit k x) 1 ≡ t → bit_or x (2 ^ k) ≡ cond t x (x + 2 ^ k)
    go true e = let h = rw (eqb-true (bit k x) 1 e) at (and_pow x k) in omega (arith, h, or_add_and x (2 ^ k))
    go false e =
        let n = eqb-false (bit k x) 1 e in
        let z : bit k x ≡ 0 = omega (arith, n) in
        let h = rw z at (and_pow x k) in
        omega (arith, h, or_add_and x (2 ^ k))

pub bit-tested : (k x : ℕ) → eqb (bit_and (x / 2 ^ k) 1) 1 ≡ has_bit k x
unfolding has_bit
bit-tested k x = rw (shr_and_one x k)

pub bit-shifted : (k x : ℕ) → k < 8 → bit_or x (1 * 2 ^ k % 256) ≡ with_bit k x
bit-shifted k x h = rw (one_shl k 8 h) (or-bit k x)

-- a bit of a byte with a bit set
pub bit-set : (i j x : ℕ) → has_bit j (with_bit i x) ≡ eqb i j || has_bit j x
unfolding has_bit
bit-set i j x = rw (← or-bit i x, bit_at_or x (2 ^ i) j) (go (eqb i j) refl)
  where
    go : (t : Bool) → eqb i j ≡ t → eqb (max (bit j x) (bit j (2 ^ i))) 1 ≡ t || eqb (bit j x) 1
    go true e =
        let h : bit j (2 ^ i) ≡ 1 = rw (← eqb-true i j e) (bit_at-pow_same i) in
        let m : max (bit j x) (bit j (2 ^ i)) ≡ 1 = omega (arith, h) in
        eq-eqb _ 1 m
    go false e =
        let h = bit_at-pow_other i j (λ z. eqb-false i j e (sym z)) in
        let m : max (bit j x) (bit j (2 ^ i)) ≡ bit j x = omega (arith, h) in
        rw m

-- one bucket more is marked
module _ (bits : BucketBits) (b c : Bucket) (r : b.0 / 8 < length bits.bytes) where
  pub mark-told : marked (with_mark bits b) c ≡ same_bucket b c || marked bits c
  unfolding marked with_mark
  mark-told = go (eqb (b.0 / 8) (c.0 / 8)) refl
    where
      parts : b.0 / 8 ≡ c.0 / 8 → eqb (b.0 % 8) (c.0 % 8) ≡ eqb b.0 c.0
      parts e = at-parts (eqb (b.0 % 8) (c.0 % 8)) refl
        where
          at-parts : (t : Bool) → eqb (b.0 % 8) (c.0 % 8) ≡ t → t ≡ eqb b.0 c.0
          at-parts true d = let h = eqb-true (b.0 % 8) (c.0 % 8) d in sym (eq-eqb b.0 c.0 (omega arith))
          at-parts false d = let h = eqb-false (b.0 % 8) (c.0 % 8) d in sym (ne_eqb b.0 c.0 (λ s. h (ap (λ (m : ℕ). m % 8) s)))

      go : (t : Bool) → eqb (b.0 / 8) (c.0 / 8) ≡ t
          → has_bit (c.0 % 8) (get_or (set bits.bytes (b.0 / 8) (with_bit (b.0 % 8) (get_or bits.bytes (b.0 / 8) 0))) (c.0 / 8) 0)
          ≡ eqb b.0 c.0 || has_bit (c.0 % 8) (get_or bits.bytes (c.0 / 8) 0)
      go true d =
          let e = eqb-true (b.0 / 8) (c.0 / 8) d in
          rw (← e, get_or-set_same bits.bytes (b.0 / 8) (with_bit (b.0 % 8) (get_or bits.bytes (b.0 / 8) 0)) 0 r, ← parts e)
          (bit-set (b.0 % 8) (c.0 % 8) (get_or bits.bytes (b.0 / 8) 0))
      go false d =
          let n = eqb-false (b.0 / 8) (c.0 / 8) d in
          rw (
            get_or-set_other bits.bytes (b.0 / 8) (c.0 / 8) (with_bit (b.0 % 8) (get_or bits.bytes (b.0 / 8) 0)) 0 (λ e. n (sym e)),
            ne_eqb b.0 c.0 (λ e. n (ap (λ (m : ℕ). m / 8) e)),
          )

pub mark-length : (bits : BucketBits) (b : Bucket) → length (with_mark bits b).bytes ≡ length bits.bytes
unfolding with_mark
mark-length bits b = length-set bits.bytes (b.0 / 8) (with_bit (b.0 % 8) (get_or bits.bytes (b.0 / 8) 0))

-- where all bytes are 0, no bucket is marked
pub mark-none : (bits : BucketBits) (n : ℕ) (b : Bucket) → bits.bytes ≡ replicate n 0 → b.0 / 8 < n → marked bits b ≡ false
unfolding marked has_bit
mark-none bits n b e h = rw (e, get_or-replicate {A = ℕ} n (b.0 / 8) 0 0 h, zero-div (2 ^ (b.0 % 8)))
