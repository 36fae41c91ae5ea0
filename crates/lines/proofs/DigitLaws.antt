-- Laws of numbers as text.
use Prim.Native.Nat.{ℕ, zero, suc, ◌+◌, ◌-◌, ◌*◌, ◌/◌, ◌%◌, ◌^◌, ◌<◌, ◌≤◌}
use mathlib.Core.Path.{◌≡◌, refl, sym, ap, ◌∙◌}
use mathlib.Core.List.{List, ◌∷◌}
use native.Mathlib.Nat.{pow-zero, pow-suc, one-le-pow, div-one, div-div-eq-div-mul}
use native.Mathlib.Omega.{arith}
use lib.Dec.{ltb}
use lib.ListN.{length, take, drop, set, length-set, length-drop, drop_of_length-le}
use lib.Seq.{take_all}
use Rattle.calls.proofs.lists.MapLaws.{drop-set}
use borrow.Author.Tests.{lt-ltb, le-ltb}
use Rattle.calls.proofs.lists.BoolLaws.{cond-most}
use Rattle.std.specs.Prelude.{Option, Some, None, IfNone, IfSome, unwrap_or}
use lib.IntN.{ℤ, pos, negsuc}
use lib.Signed.{◌<ℤ◌, ◌≤ℤ◌}
use mir.Syntax.{w64}
use mir.Val.{SFits, of_z}
use Rattle.std.specs.Int.RustNames.{unsigned_abs}
use Rattle.std.proofs.lemmas.Int.{ints}
use Rattle.lines.specs.Digits.{digit, last_digits, width, decimal, signed}

-- digits that are stored from the last on: from index `from` on they stand, and `rest` has those before
pub record DigitsFilled (base n : ℕ) (text : List ℕ) (from rest : ℕ) : Type 0 where
  pub size : length text ≡ 20
  pub within : from ≤ 20
  pub left : rest ≡ n / base ^ (20 - from)
  pub digits : drop from text ≡ last_digits base (20 - from) n

pub fill_none : (base n : ℕ) (text : List ℕ) → length text ≡ 20 → DigitsFilled base n text 20 n
unfolding last_digits
fill_none base n text h =
    record {
      size = h;
      within = omega arith;
      left = sym (ap (λ (k : ℕ). n / k) (pow-zero base) ∙ div-one n);
      digits = drop_of_length-le text {i = 20} (omega arith);
    }

pub fill_more : {base n : ℕ} {text : List ℕ} {from rest : ℕ} → DigitsFilled base n text from rest → 0 < from
    → DigitsFilled base n (set text (from - 1) (digit (rest % base))) (from - 1) (rest / base)
unfolding last_digits
fill_more {base} {n} {text} {from} {rest} f h =
    let i : from - 1 < length text = omega (arith, f.size, f.within) in
    let x : suc (from - 1) ≡ from = omega arith in
    let e : 20 - (from - 1) ≡ suc (20 - from) = omega (arith, f.within) in
    let d : ℕ = digit (rest % base) in
    record {
      size = length-set text (from - 1) d ∙ f.size;
      within = omega (arith, f.within);
      left =
          ap (λ (m : ℕ). m / base) f.left ∙ div-div-eq-div-mul n (base ^ (20 - from)) base
          ∙ sym (ap (λ (m : ℕ). n / m) (ap (λ (m : ℕ). base ^ m) e ∙ pow-suc base (20 - from)));
      digits =
          drop-set text (from - 1) d i ∙ ap (λ (m : ℕ). d ∷ drop m text) x ∙ ap (λ (l : List ℕ). d ∷ l) f.digits
          ∙ ap (λ (m : ℕ). digit (m % base) ∷ last_digits base (20 - from) n) f.left
          ∙ ap (λ (m : ℕ). last_digits base m n) (sym e);
    }

pub filled : {base n : ℕ} {text : List ℕ} {from rest : ℕ} → DigitsFilled base n text from rest → (count : ℕ) → from ≡ 20 - count → count ≤ 20
    → take (20 - (20 - count)) (drop (20 - count) text) ≡ last_digits base count n
filled {base} {n} {text} {from} f count h l =
    let e : 20 - (20 - count) ≡ count = omega arith in
    let d : drop (20 - count) text ≡ last_digits base count n =
    ap (λ (m : ℕ). drop m text) (sym h) ∙ f.digits ∙ ap (λ (m : ℕ). last_digits base m n) (ap (λ (m : ℕ). 20 - m) h ∙ e) in
    take_all (20 - (20 - count)) (drop (20 - count) text) (omega (arith, length-drop (20 - count) text, f.size)) ∙ d

-- how many digits a number has, by its powers of ten
width-is : (k j n : ℕ) → j ≤ k → 10 ^ j ≤ n → n < 10 * 10 ^ j → width k n ≡ j + 1
unfolding width
width-is zero zero n h l u = refl
width-is zero (suc j) n h l u = absurd (omega arith)
width-is (suc k) zero n h l u = rw (lt-ltb n 10 (omega (arith, pow-zero 10)))
width-is (suc k) (suc j) n h l u =
    let s : 10 ^ suc j ≡ 10 ^ j * 10 = pow-suc 10 j in
    let o : 1 ≤ 10 ^ j = one-le-pow j 10 (omega arith) in
    rw (le-ltb n 10 (omega arith)) (omega (arith, width-is k j (n / 10) (omega arith) (omega arith) (omega arith)))

-- 0 has one
width-zero : (k : ℕ) → width k 0 ≡ 1
unfolding width
width-zero zero = refl
width-zero (suc k) = refl

-- the same by the greatest power of ten in a number, which 0 has none of
pub width-by : (n : ℕ) (r : Option ℕ) → IfNone r (n ≡ 0) → IfSome r (λ k. 10 ^ k ≤ n) → IfSome r (λ k. n < 10 * 10 ^ k) → IfSome r (λ k. k < 20)
    → unwrap_or r 0 + 1 ≡ width 19 n
width-by n None z l u b = rw z (sym (width-zero 19))
width-by n (Some k) z l u b = sym (width-is 19 k n (omega arith) l u)

pub width-most : (k n : ℕ) → width k n ≤ k + 1
unfolding width
width-most zero n = omega arith
width-most (suc k) n = cond-most (ltb n 10) (omega arith) (omega (arith, width-most k (n / 10)))

-- a signed number from 0 on, and below 0
pub signed-plus : (z : ℤ) → SFits w64 z → pos 0 ≤ℤ z → decimal (unsigned_abs z) ≡ signed (of_z w64 z)
unfolding signed
signed-plus (pos n) f h = let l : n < 2 ^ 63 = omega (arith, f.sfits) in rw (lt-ltb n (2 ^ 63) l)
signed-plus (negsuc n) f h = absurd (omega (arith, ints, h))

pub signed-minus : (z : ℤ) → SFits w64 z → z <ℤ pos 0 → 45 ∷ decimal (unsigned_abs z) ≡ signed (of_z w64 z)
unfolding signed
signed-minus (pos n) f h = absurd (omega (arith, ints, h))
signed-minus (negsuc n) f h =
    let l : 2 ^ 63 ≤ 2 ^ 64 - suc n = omega (arith, f.sfits) in
    let m : suc n ≡ 2 ^ 64 - (2 ^ 64 - suc n) = omega (arith, f.sfits) in
    rw (le-ltb (2 ^ 64 - suc n) (2 ^ 63) l) (ap (λ (m : ℕ). 45 ∷ decimal m) m)
