-- The sums that are taken out of the scratch, one after the other.
use Rattle.std.specs.Prelude.{◌≡◌, ℕ, ◌-◌, List, [], ◌∷◌, map, Option, Some, None, take, drop, replicate}
use Rattle.wire.specs.Kinds.{bucket_is}
use Rattle.wire.specs.declared.kinds.Bucket.{Bucket}
use Rattle.release_sums.specs.Summing.{sum_of, summed_from}
use Rattle.release_sums.specs.declared.sums.BucketSum.{BucketSum}
use Rattle.release_sums.specs.declared.sums.Sums.{Sums}

-- a bucket with its sum
abbrev pub bucket_sum : (Bucket → ℕ) → Bucket → BucketSum
bucket_sum value b = record { bucket = b; sectors = value b }

-- those of the buckets within the limit from a number on whose sum is not 0, ascending
unfoldable pub sums_from : ℕ → List ℕ → List BucketSum
sums_from next sums = map (bucket_sum (sum_of sums)) (summed_from (65536 - next) (bucket_is next) sums)

abbrev pub sums_left : Sums → List BucketSum
sums_left l = sums_from l.next l.sums.now

-- the same table, with the same entries past the limit
abbrev pub SameTable : Sums → Sums → Type 0
SameTable before after = (after.sums.ghost_name ≡ before.sums.ghost_name) × (drop 65536 after.sums.now ≡ drop 65536 before.sums.now)

-- the first sum is taken out, and the others are left; nothing where all are 0
abbrev pub SumTaken : Sums → Option BucketSum → Sums → Type 0
SumTaken before (Some sum) after = (sums_left before ≡ sum ∷ sums_left after) × SameTable before after
SumTaken before None after = (sums_left before ≡ []) × (take 65536 after.sums.now ≡ replicate 65536 0) × SameTable before after
