-- Numbers as text: decimal, signed decimal, and 16 hexadecimal digits.
use Rattle.std.specs.Prelude.{ℕ, zero, suc, ◌+◌, ◌-◌, ◌/◌, ◌%◌, ◌^◌, List, [], ◌∷◌, cond, ltb}

-- the digit of a number below 16
abbrev pub digit : ℕ → ℕ
digit d = cond (ltb d 10) (48 + d) (87 + d)

-- the last so many digits of a number, the highest first
unfoldable pub last_digits : ℕ → ℕ → ℕ → List ℕ
last_digits base zero n = []
last_digits base (suc k) n = digit (n / base ^ k % base) ∷ last_digits base k n

-- how many decimal digits a number has, if it has at most k more than one
unfoldable pub width : ℕ → ℕ → ℕ
width zero n = 1
width (suc k) n = cond (ltb n 10) 1 (suc (width k (n / 10)))

-- a number below 2^64, which has at most 20 digits
unfoldable pub decimal : ℕ → List ℕ
decimal n = last_digits 10 (width 19 n) n

-- a two's complement of 64 bits: a minus sign before what is below 0
unfoldable pub signed : ℕ → List ℕ
signed n = cond (ltb n (2 ^ 63)) (decimal n) (45 ∷ decimal (2 ^ 64 - n))

unfoldable pub hexadecimal : ℕ → List ℕ
hexadecimal n = last_digits 16 16 n
