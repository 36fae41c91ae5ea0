-- The LRU key of a bucket that is not full.
use mathlib.Core.Path.{◌≡◌}
use mathlib.Core.Bool.{cond}
use mathlib.Core.List.{List, []}
use Prim.Native.Nat.{ℕ, ◌*◌, ◌≤◌, ◌<◌, ◌^◌}
use native.Mathlib.Nat.{div-lt_iff_lt-mul}
use native.Mathlib.Omega.{arith}
use lib.Dec.{ltb}
use borrow.Author.Tests.{le-ltb}
use Rattle.wire.specs.Keys.{Key}
use Rattle.wire.proofs.EncodeLaws.{encode-none}
use Rattle.format.specs.Lru.{fragmentation}
use Rattle.change_fields.specs.FieldBytes.{keys_bytes}

pub lru-none : (dirty sectors : ℕ) (ks : List Key) → sectors ≤ dirty → keys_bytes 10 (cond (ltb dirty sectors) ks []) ≡ []
lru-none dirty sectors ks h = rw (le-ltb dirty sectors h) encode-none

-- its index
pub index-low : (dirty sectors : ℕ) → dirty < sectors → fragmentation dirty sectors < 2 ^ 31
unfolding fragmentation
index-low dirty sectors h = (div-lt_iff_lt-mul {k = sectors} {x = dirty * 2 ^ 31} {y = 2 ^ 31} (omega arith)).1 (omega arith)
