-- Laws of little-endian numbers, and of lists of bytes.
use Prim.Native.Nat.{ℕ, zero, suc, ◌+◌, ◌*◌, ◌/◌, ◌%◌, ◌^◌, ◌<◌, ◌≤◌}
use mathlib.Core.Path.{◌≡◌, refl, ap}
use mathlib.Core.List.{List, [], ◌∷◌, ◌++◌}
use lib.ListN.{length, get_or, drop, take, length-take, length-drop}
use lib.Seq.{get_or-drop, drop-drop}
use native.Mathlib.Nat.{add_assoc, zero-add, add-zero, suc-add, one-le-pow, pow-suc, pow-zero, mul_assoc, mul_comm}
use native.Mathlib.Omega.{arith}
use Rattle.std.specs.Int.{w16, w32, w64, from_le_bytes}
use Rattle.wire.specs.Numbers.{le, le_bytes}
use Rattle.wire.specs.Bytes.{All, none, more, Bytes}

module _ {A : Type 0} {P : A → Type 0} where
  pub all_append : {s t : List A} → All P s → All P t → All P (s ++ t)
  all_append none q = q
  all_append (more h r) q = more h (all_append r q)

  pub all_take : (n : ℕ) {s : List A} → All P s → All P (take n s)
  all_take zero r = none
  all_take (suc n) none = none
  all_take (suc n) (more h r) = more h (all_take n r)

  pub all_drop : (n : ℕ) {s : List A} → All P s → All P (drop n s)
  all_drop zero r = r
  all_drop (suc n) none = none
  all_drop (suc n) (more h r) = all_drop n r

-- what a slice of bytes tells of its elements
pub bytes-from : (s : List ℕ) → ((i : ℕ) → get_or s i 0 < 256) → Bytes s
bytes-from [] h = none
bytes-from (b ∷ s) h = more (h 0) (bytes-from s (λ i. h (suc i)))

pub bytes-at : {s : List ℕ} → Bytes s → (i : ℕ) → get_or s i 0 < 256
bytes-at none i = omega arith
bytes-at (more h r) zero = h
bytes-at (more h r) (suc i) = bytes-at r i

pub bytes_le : (n x : ℕ) → Bytes (le_bytes n x)
unfolding le_bytes
bytes_le zero x = none
bytes_le (suc n) x = more {a = x % 256} (omega arith) (bytes_le n (x / 256))

le-nil : (n : ℕ) → le n [] ≡ 0
unfolding le
le-nil zero = refl
le-nil (suc n) = refl

-- one law for every width
pub le_split : (m n : ℕ) (s : List ℕ) → le (m + n) s ≡ le m s + 256 ^ m * le n (drop m s)
unfolding le
le_split zero n s = rw (zero-add n, pow-zero) (omega arith)
le_split (suc m) n [] = simp le-nil (omega arith)
le_split (suc m) n (b ∷ s) = rw (suc-add, pow-suc, le_split m n s, mul_comm (256 ^ m) 256, mul_assoc) (omega arith)

-- the same at a place of a list, as the readers have it
pub le-at : (m n : ℕ) (s : List ℕ) (at : ℕ) → le (m + n) (drop at s) ≡ le m (drop at s) + 256 ^ m * le n (drop (at + m) s)
le-at m n s at = rw (le_split, drop-drop)

byte-front : (s : List ℕ) → le 1 s ≡ get_or s 0 0
unfolding le
byte-front [] = refl
byte-front (b ∷ s) = omega arith

pub le-byte : (s : List ℕ) (at : ℕ) → le 1 (drop at s) ≡ get_or s at 0
le-byte s at = rw (byte-front, get_or-drop, add-zero)

-- the number at a place by its bytes
module _ (s : List ℕ) where
  pub two_bytes : (at : ℕ) → le 2 (drop at s) ≡ get_or s at 0 + 256 * get_or s (at + 1) 0
  two_bytes at = omega (arith, le-at 1 1 s at, le-byte s at, le-byte s (at + 1))

  pub four_bytes :
      (at : ℕ)
      → le 4 (drop at s) ≡ get_or s at 0 + 256 * get_or s (at + 1) 0 + 65536 * get_or s (at + 2) 0 + 16777216 * get_or s (at + 3) 0
  four_bytes at = omega (arith, le-at 2 2 s at, two_bytes at, rw add_assoc at (two_bytes (at + 2)))

  pub eight_bytes :
      (at : ℕ)
      → le 8 (drop at s)
      ≡ get_or s at 0 + 256 * get_or s (at + 1) 0 + 65536 * get_or s (at + 2) 0 + 16777216 * get_or s (at + 3) 0
      + 4294967296 * get_or s (at + 4) 0 + 1099511627776 * get_or s (at + 5) 0 + 281474976710656 * get_or s (at + 6) 0
      + 72057594037927936 * get_or s (at + 7) 0
  eight_bytes at = omega (arith, le-at 4 4 s at, four_bytes at, simp add_assoc at (four_bytes (at + 4)))

-- a number within the first m bytes
pub le-take : (n m : ℕ) (s : List ℕ) → n ≤ m → le n (take m s) ≡ le n s
unfolding le
le-take zero m s h = refl
le-take (suc n) zero s h = absurd (omega arith)
le-take (suc n) (suc m) [] h = refl
le-take (suc n) (suc m) (b ∷ s) h = rw (le-take n m s (omega arith))

-- the number that is made of the first bytes
module _ (s : List ℕ) where
  pub from_two : from_le_bytes w16 (take 2 s) ≡ le 2 s
  from_two = omega (arith, two_bytes (take 2 s) 0, le-take 2 2 s (omega arith))

  pub from_four : from_le_bytes w32 (take 4 s) ≡ le 4 s
  from_four = omega (arith, four_bytes (take 4 s) 0, le-take 4 4 s (omega arith))

  pub from_eight : from_le_bytes w64 (take 8 s) ≡ le 8 s
  from_eight = omega (arith, eight_bytes (take 8 s) 0, le-take 8 8 s (omega arith))

pub ruleset numbers_at = (le-byte, from_two, from_four, from_eight)

pub le-drop-take : (n k m : ℕ) (s : List ℕ) → k + n ≤ m → le n (drop k (take m s)) ≡ le n (drop k s)
le-drop-take n zero m s h = le-take n m s (omega arith)
le-drop-take n (suc k) zero s h = absurd (omega arith)
le-drop-take n (suc k) (suc m) [] h = refl
le-drop-take n (suc k) (suc m) (b ∷ s) h = le-drop-take n k m s (omega arith)

-- a field's body: len bytes from start
module _ (s : List ℕ) (start len : ℕ) where
  pub body-le : (n k : ℕ) → k + n ≤ len → le n (drop k (take len (drop start s))) ≡ le n (drop (start + k) s)
  body-le n k h = rw (le-drop-take n k len (drop start s) h, drop-drop)

  pub body-length : start + len ≤ length s → length (take len (drop start s)) ≡ len
  body-length h = rw (length-take, length-drop) (omega arith)

pub le-bound : (n : ℕ) {s : List ℕ} → Bytes s → le n s < 256 ^ n
unfolding le
le-bound zero r = omega (arith, pow-zero 256)
le-bound (suc n) none = one-le-pow (suc n) 256 (omega arith)
le-bound (suc n) (more {a = b} {s} h r) = omega (arith, pow-suc 256 n, le-bound n r)

-- what is written is read back, and what is read is written again
pub le-le_bytes : (n x : ℕ) (s : List ℕ) → x < 256 ^ n → le n (le_bytes n x ++ s) ≡ x
unfolding le le_bytes
le-le_bytes zero x s h = omega (arith, pow-zero 256)
le-le_bytes (suc n) x s h = rw (le-le_bytes n (x / 256) s (omega (arith, pow-suc 256 n))) (omega arith)

pub le_bytes-le : (n : ℕ) {s : List ℕ} → Bytes s → n ≤ length s → le_bytes n (le n s) ≡ take n s
unfolding le le_bytes
le_bytes-le zero r l = refl
le_bytes-le (suc n) none l = absurd (omega arith)
le_bytes-le (suc n) (more {a = b} {s} h r) l =
    let x : ℕ = le n s in
    let low : (b + 256 * x) % 256 ≡ b = omega arith in
    let high : (b + 256 * x) / 256 ≡ x = omega arith in
    rw (low, high, le_bytes-le n r (omega arith))

pub le-length : (n x : ℕ) → length (le_bytes n x) ≡ n
unfolding le_bytes
le-length zero x = refl
le-length (suc n) x = ap suc (le-length n (x / 256))

-- two numbers side by side are one
pub le_join : (m n x y : ℕ) (s : List ℕ) → x < 256 ^ m → le_bytes m x ++ (le_bytes n y ++ s) ≡ le_bytes (m + n) (x + 256 ^ m * y) ++ s
unfolding le_bytes
le_join zero n x y s h =
    let e : x + 256 ^ 0 * y ≡ y = omega (arith, pow-zero 256) in
    rw (zero-add, e)
le_join (suc m) n x y s h =
    let e : 256 ^ suc m * y ≡ 256 * (256 ^ m * y) = rw (pow-suc, mul_comm (256 ^ m) 256, mul_assoc) in
    let a : (x + 256 ^ suc m * y) % 256 ≡ x % 256 = omega (arith, e) in
    let b : (x + 256 ^ suc m * y) / 256 ≡ x / 256 + 256 ^ m * y = omega (arith, e) in
    rw (suc-add, a, b, le_join m n (x / 256) y s (omega (arith, pow-suc 256 m)))
