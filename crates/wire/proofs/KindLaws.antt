-- Buckets from one on.
use mathlib.Core.Path.{◌≡◌, refl, ap}
use Prim.Native.Nat.{ℕ, zero, suc}
use lib.ListN.{length}
use Rattle.wire.specs.Kinds.{buckets_from, next_bucket}
use Rattle.wire.specs.declared.kinds.Bucket.{Bucket}

pub from-length : (n : ℕ) (b : Bucket) → length (buckets_from n b) ≡ n
unfolding buckets_from
from-length zero b = refl
from-length (suc n) b = ap suc (from-length n (next_bucket b))
