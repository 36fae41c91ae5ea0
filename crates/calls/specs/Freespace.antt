-- FORMAT.md, "Freespace run": the free count, wanted, overlap and the walk.
use Rattle.std.specs.Prelude.{ℕ, zero, suc, ◌+◌, List, [], ◌∷◌, ◌++◌, Bool, false, not, ◌&&◌, ◌||◌, cond, length, get_or, leb, eqb}
use Rattle.wire.specs.Keys.{Key}
use Rattle.wire.specs.Kinds.{same_bucket, bucket_below, run_start, began_before, buckets_up_to}
use Rattle.wire.specs.Positions.{bucket_in, alloc_at}
use Rattle.wire.specs.declared.kinds.Bucket.{Bucket}
use Rattle.calls.specs.Lists.{any_of, those, total, from_option}
use Rattle.calls.specs.Limits.{is_run}
use Rattle.calls.specs.Trees.{lookup, deletion}

-- a bucket is in a list
unfoldable pub is_in : List Bucket → Bucket → Bool
is_in bs b = any_of (λ c. same_bucket c b) bs

-- type 25 at inode 0; others are ignored
unfoldable pub runs_of : List Key → List Key
runs_of ks = those is_run ks

-- a run covers offset − size up to offset, the end left out, from bucket 0 on
abbrev pub end_of : Key → Bucket
end_of k = bucket_in k.pos

abbrev pub start_of : Key → Bucket
start_of k = run_start (end_of k) k.size

unfoldable pub buckets_of : Key → List Bucket
buckets_of k = buckets_up_to (start_of k) (end_of k)

-- the unreserved buckets in all runs
unfoldable pub free_count : (Bucket → Bool) → List Key → ℕ
free_count reserved runs = total (λ k. length (those (λ b. not (reserved b)) (buckets_of k))) runs

-- with n buckets needed, n + 32 + journal reserve, also for n 0
unfoldable pub wanted : ℕ → ℕ → ℕ
wanted n reserve = n + 32 + reserve

-- a bucket is in both runs
unfoldable pub overlap : Key → Key → Bool
overlap a b =
    bucket_below (start_of a) (end_of a)
    && (bucket_below (start_of b) (end_of b) && (bucket_below (start_of a) (end_of b) && bucket_below (start_of b) (end_of a)))

-- two runs overlap
unfoldable pub overlaps : List Key → Bool
overlaps [] = false
overlaps (k ∷ ks) = any_of (overlap k) ks || overlaps ks

-- refusal 13: the inode 0 alloc key of 16 bytes or more has byte 14 not 0
unfoldable pub is_used : List Key → Bucket → Bool
is_used alloc b =
    from_option false (λ k. leb 16 (length k.value) && not (eqb (get_or k.value 14 0) 0)) (lookup (alloc_at b) alloc)

-- What the walk makes of one run: the buckets taken, how many the run has left, how many are still needed, and whether it met a used one.
pub record Passed : Type 0 where
  pub taken : List Bucket
  pub left : ℕ
  pub need : ℕ
  pub used : Bool

-- the buckets of a run from one on, until none is needed; reserved buckets passed are skipped
unfoldable pub pass : (Bucket → Bool) → (Bucket → Bool) → ℕ → List Bucket → Passed
pass reserved used need [] = record { taken = []; left = 0; need = need; used = false }
pass reserved used zero (b ∷ bs) = record { taken = []; left = length (b ∷ bs); need = 0; used = false }
pass reserved used (suc n) (b ∷ bs) =
    let r = pass reserved used (cond (reserved b) (suc n) n) bs in
    record {
      taken = cond (reserved b) r.taken (b ∷ r.taken);
      left = r.left;
      need = r.need;
      used = cond (reserved b) r.used (used b || r.used);
    }

-- a run walked to its end is deleted, size 0 included; one begun is shortened at the same position
unfoldable pub shortened : Key → ℕ → Key
shortened k left =
    cond (eqb left 0) (deletion k.pos)
    (record { type = k.type; size = left; version_hi = k.version_hi; version_lo = k.version_lo; pos = k.pos; value = k.value })

-- What the walk over the runs makes: the buckets taken, the keys queued, and refusal 12 or 13, or 0.
pub record Walked : Type 0 where
  pub taken : List Bucket
  pub queue : List Key
  pub refusal : ℕ

-- runs are walked in order until n are taken
unfoldable pub walk : (Bucket → Bool) → (Bucket → Bool) → ℕ → List Key → Walked
walk reserved used need [] = record { taken = []; queue = []; refusal = 0 }
walk reserved used zero (k ∷ ks) = record { taken = []; queue = []; refusal = 0 }
walk reserved used (suc n) (k ∷ ks) =
    let p = pass reserved used (suc n) (buckets_of k) in
    let r = walk reserved used p.need ks in
    record {
      taken = p.taken ++ r.taken;
      queue = shortened k p.left ∷ r.queue;
      refusal = cond (began_before (end_of k) k.size) 12 (cond p.used 13 r.refusal);
    }
