-- Laws of tests, and of tests as numbers.
use mathlib.Core.Path.{◌≡◌, refl, sym}
use mathlib.Core.Bool.{Bool, true, false, not, ◌&&◌, ◌||◌, cond, false≢true, or-true}
use Prim.Native.Nat.{ℕ, ◌+◌, ◌≤◌, ◌<◌}
use native.Mathlib.Omega.{arith}
use native.Mathlib.Nat.{zero-add}
use lib.Dec.{ltb}
use borrow.Author.Tests.{lt-ltb, not-true}
use Rattle.calls.specs.Lists.{one}

-- a test does not both hold and fail
pub clash : {t : Bool} → t ≡ true → t ≡ false → ⊥
clash e d = let z : ◌≡◌ {A = ℕ} 0 1 = cc in omega arith

-- two tests hold where each does
pub both : {a b : Bool} → a ≡ true → b ≡ true → (a && b) ≡ true
both {a = true} {b} p q = q
both {a = false} {b} p q = p

pub parts : (a b : Bool) → (a && b) ≡ true → (a ≡ true) × (b ≡ true)
parts true b h = (refl, h)
parts false b h = absurd (false≢true h)

-- neither holds where their choice fails
pub neither : (t u : Bool) → (t || u) ≡ false → (t ≡ false) × (u ≡ false)
neither true u e = absurd (clash refl e)
neither false u e = (refl, e)

pub not-both : (t u : Bool) → not (t && u) ≡ true → t ≡ true → u ≡ false
not-both t u e d = not-true u (rw d at e)

pub or-then : (t u : Bool) → (not t || u) ≡ true → t ≡ true → u ≡ true
or-then t u h e = rw e at h

pub or_map : (a b : Bool) {x y : Bool} → (a ≡ true → x ≡ true) → (b ≡ true → y ≡ true) → (a || b) ≡ true → (x || y) ≡ true
or_map true b {x} {y} f g h = rw (f refl)
or_map false b {x} {y} f g h = rw (g h) (or-true x)

-- rearranged
pub or_swap : (a b c : Bool) → (a || (b || c)) ≡ (b || (a || c))
or_swap true true c = refl
or_swap true false c = refl
or_swap false b c = refl

pub or-shift : (a b c : Bool) → (a || (b || c)) ≡ ((b || a) || c)
or-shift true true c = refl
or-shift true false c = refl
or-shift false true c = refl
or-shift false false c = refl

pub or_same : (a b : Bool) → (a || b) ≡ (a || (a || b))
or_same true b = refl
or_same false b = refl

pub not-or : (a b m : Bool) → ((m && not a) && not b) ≡ (m && not (a || b))
not-or true b true = refl
not-or false b true = refl
not-or a b false = refl

pub cond_same : {A : Type 0} (t : Bool) (a : A) → cond t a a ≡ a
cond_same true a = refl
cond_same false a = refl

-- a number by a test
pub cond-most : (t : Bool) {a b m : ℕ} → a ≤ m → b ≤ m → cond t a b ≤ m
cond-most true h g = h
cond-most false h g = g

-- 1 where a test holds, else 0
pub ind-le : (t : Bool) → one t ≤ 1
ind-le true = omega arith
ind-le false = omega arith

pub some_in : (t : Bool) → 0 < one t → t ≡ true
some_in true h = refl
some_in false h = absurd (omega arith)

pub ind-ltb : (t : Bool) → ltb 0 (one t) ≡ t
ind-ltb true = refl
ind-ltb false = refl

pub and-le : (t u : Bool) → one (t && u) ≤ one t
and-le true u = ind-le u
and-le false u = omega arith

pub and_le_right : (t u : Bool) → one (t && u) ≤ one u
and_le_right true u = omega arith
and_le_right false u = omega arith

-- one more of a number that is not 0
pub or_some : (t u : Bool) (n : ℕ) → u ≡ ltb 0 n → (t || u) ≡ ltb 0 (one t + n)
or_some true u n e = sym (lt-ltb 0 (1 + n) (omega arith))
or_some false u n e = rw zero-add e
