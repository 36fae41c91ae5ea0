-- Each bucket that a walk takes is within the limit.
use mathlib.Core.Path.{◌≡◌, refl}
use mathlib.Core.Bool.{Bool, true, false, cond}
use mathlib.Core.List.{List, [], ◌∷◌}
use Prim.Native.Nat.{ℕ, zero, suc, ◌+◌, ◌-◌, ◌≤◌}
use native.Mathlib.Omega.{arith}
use borrow.Author.Tests.{leb-true, lt-ltb}
use Rattle.wire.specs.Keys.{Key}
use Rattle.wire.specs.Kinds.{bucket_in_range, buckets_from, next_bucket}
use Rattle.wire.specs.declared.kinds.Bucket.{Bucket}
use Rattle.calls.specs.Lists.{all_of, those}
use Rattle.calls.specs.Limits.{is_run}
use Rattle.calls.specs.Freespace.{start_of, end_of, buckets_of, runs_of, pass, walk}
use Rattle.calls.specs.Answers.{read_volume}
use Rattle.reader.specs.Checked.{Checked, end_in_range}
use Rattle.calls.proofs.lists.BoolLaws.{parts as and-true}
use Rattle.calls.proofs.lists.AllOfLaws.{all-of-append}
use Rattle.reader.proofs.CheckedLaws.{end-at, run-range}

module _ (R U : Bucket → Bool) where
  from-small : (n need : ℕ) (b : Bucket) → b.0 + n ≤ 65536 → all_of bucket_in_range (pass R U need (buckets_from n b)).taken ≡ true
  unfolding pass buckets_from all_of
  from-small zero zero b h = refl
  from-small zero (suc need) b h = refl
  from-small (suc n) zero b h = refl
  from-small (suc n) (suc need) b h = go (R b) (from-small n (suc need) (next_bucket b) (omega arith)) (from-small n need (next_bucket b) (omega arith))
    where
      go : (t : Bool) → all_of bucket_in_range (pass R U (suc need) (buckets_from n (next_bucket b))).taken ≡ true
          → all_of bucket_in_range (pass R U need (buckets_from n (next_bucket b))).taken ≡ true
          → all_of bucket_in_range
          (cond t (pass R U (cond t (suc need) need) (buckets_from n (next_bucket b))).taken
          (b ∷ (pass R U (cond t (suc need) need) (buckets_from n (next_bucket b))).taken))
          ≡ true
      go true x y = x
      go false x y = rw (lt-ltb b.0 65536 (omega arith)) y

  run_small : (need : ℕ) (k : Key) → k.pos.offset ≤ 65536 → all_of bucket_in_range (pass R U need (buckets_of k)).taken ≡ true
  unfolding buckets_of
  run_small need k h = from-small ((end_of k).0 - (start_of k).0) need (start_of k) (omega arith)

  walk-small : (n : ℕ) (ks : List Key) → all_of end_in_range ks ≡ true → all_of bucket_in_range (walk R U n (runs_of ks)).taken ≡ true
  unfolding runs_of those walk all_of
  walk-small n [] h = none n
    where
      none : (m : ℕ) → all_of bucket_in_range (walk R U m []).taken ≡ true
      none zero = refl
      none (suc m) = refl
  walk-small n (k ∷ ks) h =
      let p = and-true (end_in_range k) (all_of end_in_range ks) h in
      go n (is_run k) refl p.0 (λ m. walk-small m ks p.1)
    where
      go : (m : ℕ) (t : Bool) → is_run k ≡ t → end_in_range k ≡ true → ((j : ℕ) → all_of bucket_in_range (walk R U j (those is_run ks)).taken ≡ true)
          → all_of bucket_in_range (walk R U m (cond t (k ∷ those is_run ks) (those is_run ks))).taken ≡ true
      go m false e l ih = ih m
      go zero true e l ih = refl
      go (suc m) true e l ih =
          all-of-append bucket_in_range (pass R U (suc m) (buckets_of k)).taken (walk R U (pass R U (suc m) (buckets_of k)).need (those is_run ks)).taken
          (run_small (suc m) k (leb-true k.pos.offset 65536 (end-at k l e))) (ih (pass R U (suc m) (buckets_of k)).need)

  -- of a list that refusals 2 and 3 let through
  pub walk-in-range : {s : List ℕ} → Checked s → (n : ℕ) → all_of bucket_in_range (walk R U n (runs_of (read_volume s).trees.freespace)).taken ≡ true
  walk-in-range {s} c n = walk-small n (read_volume s).trees.freespace (run-range c)
