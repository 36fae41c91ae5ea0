-- Signed numbers, their bits, and what is counted below zero.
use mathlib.Core.Path.{◌≡◌}
use Prim.Native.Nat.{ℕ, zero, suc, ◌<◌, ◌^◌}
use native.Mathlib.Omega.{arith}
use lib.IntN.{ℤ, pos, neg_ℤ}
use lib.Signed.{mag}
use mir.Syntax.{w64}
use mir.Val.{SFits, to_z, of_z}
use mir.ValLaws.{to_z-of_z}

-- the bits of a number that fits, read back
pub back : (z : ℤ) → mag z < 2 ^ 63 → to_z w64 (of_z w64 z) ≡ z
back z h = to_z-of_z w64 z (record { sfits = h })

-- n below zero fits
pub minus-fits : (n : ℕ) → n < 2 ^ 63 → SFits w64 (neg_ℤ (pos n))
minus-fits zero h = record { sfits = h }
minus-fits (suc n) h = record { sfits = omega arith }
