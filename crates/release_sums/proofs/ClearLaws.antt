-- A scratch that was cleared.
use mathlib.Core.Path.{◌≡◌, refl, ap, ◌∙◌}
use mathlib.Core.List.{List, ◌++◌}
use Prim.Native.Nat.{ℕ, zero, suc, ◌≤◌, ◌<◌}
use native.Mathlib.Omega.{arith}
use lib.ListN.{length, get_or, drop, replicate, length-append, length-drop, length-replicate, get_or-append}
use borrow.Author.Tests.{ltb-true}
use Rattle.release_sums.specs.Summing.{Cleared}

pub zeros-at : (n o : ℕ) → ◌≡◌ {A = ℕ} (get_or (replicate n 0) o 0) 0
zeros-at zero o = refl
zeros-at (suc n) zero = refl
zeros-at (suc n) (suc o) = zeros-at n o

front_length : (n : ℕ) (l : List ℕ) → n ≤ length l → length (replicate n 0 ++ drop n l) ≡ length l
front_length n l h = omega (arith, length-append (replicate n 0) (drop n l), length-replicate {A = ℕ} n 0, length-drop n l)

front-zero : (n : ℕ) (l : List ℕ) (b : ℕ) → b < n → get_or (replicate n 0 ++ l) b 0 ≡ 0
front-zero n l b h = get_or-append (replicate n 0) l 0 b (omega (arith, length-replicate {A = ℕ} n 0)) ∙ zeros-at n b

module _ (l m : List ℕ) (h : 65536 ≤ length l) (e : m ≡ replicate 65536 0 ++ drop 65536 l) where
  pub cleared-length : length m ≡ length l
  cleared-length = ap length e ∙ front_length 65536 l h

  pub cleared : Cleared m
  cleared = record { long = omega (arith, cleared-length); zero = λ b k. ap (λ (x : List ℕ). get_or x b.0 0) e ∙ front-zero 65536 (drop 65536 l) b.0 (ltb-true b.0 65536 k) }
