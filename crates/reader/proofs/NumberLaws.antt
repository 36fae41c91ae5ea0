-- Every refusal has a number.
use mathlib.Core.Path.{◌≡◌}
use Prim.Native.Nat.{◌<◌}
use native.Mathlib.Omega.{arith}
use Rattle.reader.specs.Refusals.{number_of}
use Rattle.reader.specs.declared.refusal.Refusal.{Refusal}

-- it is not 0
pub refused-some : (e : Refusal) → number_of e ≡ 0 → ⊥
refused-some e z = grind arith

pub some-number : (e : Refusal) → 0 < number_of e
some-number e = grind (arith, refused-some e)
