-- The lent scratch: the sum of each bucket, and the buckets whose sum is not 0.
use Rattle.std.specs.Prelude.{◌≡◌, true, false, Bool, ℕ, ◌/◌, ◌≤◌, ◌<◌, List, length, get_or, ltb}
use Rattle.wire.specs.Kinds.{bucket_in_range, bucket_number, buckets_from, no_bucket}
use Rattle.wire.specs.declared.kinds.Bucket.{Bucket}
use Rattle.calls.specs.CallList.{Freed}
use Rattle.calls.specs.Lists.{those}
use Rattle.calls.specs.Release.{freed_in}

-- a bucket's sum
abbrev pub sum_of : List ℕ → Bucket → ℕ
sum_of sums b = get_or sums (bucket_number b) 0

-- the mark of a bucket's group of 64
abbrev pub mark_of : List Bool → Bucket → Bool
mark_of marks b = get_or marks (bucket_number b / 64) false

-- the sums of all buckets within the limit are 0
pub record Cleared (sums : List ℕ) : Type 0 where
  pub long : 65536 ≤ length sums
  pub zero : (b : Bucket) → bucket_in_range b ≡ true → sum_of sums b ≡ 0

-- they are what requests free of each bucket
pub record Summed (sectors : ℕ) (rs : List Freed) (sums : List ℕ) : Type 0 where
  pub long : 65536 ≤ length sums
  pub at : (b : Bucket) → bucket_in_range b ≡ true → sum_of sums b ≡ freed_in sectors rs b

-- a bucket has the sum 0 where its group, one of 1,024, is not marked
pub record Marked (sums : List ℕ) (marks : List Bool) : Type 0 where
  pub groups : length marks ≡ 1024
  pub zero : (b : Bucket) → bucket_in_range b ≡ true → mark_of marks b ≡ false → sum_of sums b ≡ 0

-- the first bucket from a number on whose sum is not 0, or an end, where no bucket before it has one
pub record FirstSum (sums : List ℕ) (from end first : ℕ) : Type 0 where
  pub within : (from ≤ first) × (first ≤ end)
  pub zero : (b : Bucket) → from ≤ bucket_number b → bucket_number b < first → sum_of sums b ≡ 0
  pub found : first < end → 0 < get_or sums first 0

-- those of n buckets from a first one on whose sum is not 0, ascending
unfoldable pub summed_from : ℕ → Bucket → List ℕ → List Bucket
summed_from n first sums = those (λ b. ltb 0 (sum_of sums b)) (buckets_from n first)

-- all buckets within the limit whose sum is not 0, ascending
unfoldable pub summed_buckets : List ℕ → List Bucket
summed_buckets sums = summed_from 65536 no_bucket sums
