-- Ranges of buckets, and how often the runs of a tree cover one.
use mathlib.Core.Path.{◌≡◌, refl, ap, sym, ◌∙◌}
use mathlib.Core.Bool.{Bool, true, false, not, ◌&&◌, ◌||◌, cond}
use mathlib.Core.List.{List, [], ◌∷◌}
use Prim.Native.Nat.{ℕ, zero, suc, ◌+◌, ◌-◌, ◌≤◌, ◌<◌}
use native.Mathlib.Omega.{arith}
use native.Mathlib.Nat.{zero-add}
use lib.Dec.{leb, ltb, eqb}
use lib.ListN.{length}
use borrow.Author.Tests.{lt-ltb, le-ltb, ltb-true, ltb-false, leb-true, leb-false, eqb-true, eqb-false, le-leb, lt-leb}
use Rattle.wire.specs.Keys.{Key}
use Rattle.wire.specs.Kinds.{next_bucket, buckets_from, run_end_in_range}
use Rattle.wire.specs.Positions.{bucket_in}
use Rattle.wire.specs.declared.kinds.Bucket.{Bucket}
use Rattle.calls.specs.Lists.{all_of, any_of, those, total, one}
use Rattle.calls.specs.Limits.{is_run}
use Rattle.calls.specs.Freespace.{is_in, runs_of, start_of, buckets_of, overlap, overlaps}
use Rattle.calls.proofs.lists.BoolLaws.{ind-le, ind-ltb, clash, parts, neither, or_some, or-then}
use Rattle.calls.proofs.history.View.{bucket, in_r, covers, cover_of}

-- a range that is not empty is its first number and the rest
pub in_r-step : (s e b : ℕ) → s < e → in_r s e b ≡ one (eqb s b) + in_r (s + 1) e b
in_r-step s e b l = go (eqb s b) refl (leb (s + 1) b) refl
  where
    go : (t : Bool) → eqb s b ≡ t → (u : Bool) → leb (s + 1) b ≡ u → in_r s e b ≡ one t + one (u && ltb b e)
    go true d true v = absurd (omega (arith, eqb-true s b d, leb-true (s + 1) b v))
    go true d false v = let q = eqb-true s b d in rw (le-leb s b (omega arith), lt-ltb b e (omega arith))
    go false d true v = rw (le-leb s b (omega (arith, leb-true (s + 1) b v))) (omega arith)
    go false d false v = rw (lt-leb s b (omega (arith, eqb-false s b d, leb-false (s + 1) b v)))

pub in_r-none : (s e b : ℕ) → e ≤ s → in_r s e b ≡ 0
in_r-none s e b l = go (leb s b) refl
  where
    go : (t : Bool) → leb s b ≡ t → one (t && ltb b e) ≡ 0
    go true d = rw (le-ltb b e (omega (arith, leb-true s b d)))
    go false d = refl

-- one bucket
pub in_r-one : (b c : ℕ) → in_r b (b + 1) c ≡ one (eqb b c)
in_r-one b c = omega (arith, in_r-step b (b + 1) c (omega arith), in_r-none (b + 1) (b + 1) c (omega arith))

-- a range up to b + 1 without b is empty
pub in_r-empty : (s e b c : ℕ) → suc b ≡ e → in_r s e b ≡ 0 → in_r s e c ≡ 0
in_r-empty s e b c q z = go (leb s b) refl
  where
    go : (t : Bool) → leb s b ≡ t → in_r s e c ≡ 0
    go true d = let y : in_r s e b ≡ 1 = rw (d, lt-ltb b e (omega arith)) in absurd (omega arith)
    go false d = in_r-none s e c (omega (arith, leb-false s b d))

pub length_from : (m : ℕ) (b : Bucket) → length (buckets_from m b) ≡ m
unfolding buckets_from
length_from zero b = refl
length_from (suc m) b = ap suc (length_from m (record { 0 = b.0 + 1 }))

-- ---- the buckets of a run
in-from : (n : ℕ) (s : Bucket) (b : ℕ) → is_in (buckets_from n s) (bucket b) ≡ ltb 0 (in_r s.0 (s.0 + n) b)
unfolding is_in any_of buckets_from
in-from zero s b = rw (in_r-none s.0 (s.0 + 0) b (omega arith))
in-from (suc n) s b =
    let e : s.0 + 1 + n ≡ s.0 + suc n = omega arith in
    or_some (eqb s.0 b) (is_in (buckets_from n (next_bucket s)) (bucket b)) (in_r (s.0 + 1) (s.0 + suc n) b) (in-from n (next_bucket s) b ∙ rw e)
    ∙ ap (ltb 0) (sym (in_r-step s.0 (s.0 + suc n) b (omega arith)))

in-run : (k : Key) (b : ℕ) → is_in (buckets_of k) (bucket b) ≡ ltb 0 (in_r (k.pos.offset - k.size) k.pos.offset b)
unfolding buckets_of
in-run k b =
    let e : k.pos.offset - k.size + (k.pos.offset - (k.pos.offset - k.size)) ≡ k.pos.offset = omega arith in
    in-from (k.pos.offset - (k.pos.offset - k.size)) (start_of k) b ∙ rw e

-- some run has a bucket where the cover is not 0
pub in-runs : (b : ℕ) (l : List Key) → any_of (λ k. is_in (buckets_of k) (bucket b)) (runs_of l) ≡ ltb 0 (cover_of l b)
unfolding any_of runs_of those total
in-runs b [] = refl
in-runs b (k ∷ ks) = go (is_run k) (in-runs b ks)
  where
    go : (t : Bool) → any_of (λ k. is_in (buckets_of k) (bucket b)) (runs_of ks) ≡ ltb 0 (cover_of ks b)
        → any_of (λ k. is_in (buckets_of k) (bucket b)) (cond t (k ∷ runs_of ks) (runs_of ks)) ≡ ltb 0 (cond t (in_r (k.pos.offset - k.size) k.pos.offset b) 0 + cover_of ks b)
    go true ih = rw (in-run k b, ind-ltb) (or_some (leb (k.pos.offset - k.size) b && ltb b k.pos.offset) (any_of (λ k. is_in (buckets_of k) (bucket b)) (runs_of ks)) (cover_of ks b) ih)
    go false ih = rw zero-add ih

-- ---- what covers a bucket
pub covers-le : (b : ℕ) (k : Key) → covers b k ≤ 1
covers-le b k = go (is_run k)
  where
    go : (r : Bool) → cond r (in_r (k.pos.offset - k.size) k.pos.offset b) 0 ≤ 1
    go true = ind-le (leb (k.pos.offset - k.size) b && ltb b k.pos.offset)
    go false = omega arith

-- a run that covers b
record CoveredBy (b : ℕ) (k : Key) : Type 0 where
  run : is_run k ≡ true
  from : k.pos.offset - k.size ≤ b
  below : b < k.pos.offset

covers-in : (b : ℕ) (k : Key) → 0 < covers b k → CoveredBy b k
covers-in b k h = go (is_run k) refl (leb (k.pos.offset - k.size) b) refl (ltb b k.pos.offset) refl h
  where
    go : (r : Bool) → is_run k ≡ r → (t : Bool) → leb (k.pos.offset - k.size) b ≡ t → (u : Bool) → ltb b k.pos.offset ≡ u → 0 < cond r (one (t && u)) 0 → CoveredBy b k
    go true q true d true e l = record { run = q; from = leb-true (k.pos.offset - k.size) b d; below = ltb-true b k.pos.offset e }
    go true q true d false e l = absurd (omega arith)
    go true q false d u e l = absurd (omega arith)
    go false q t d u e l = absurd (omega arith)

-- two runs that have a bucket overlap
overlap-at : (b : ℕ) (j k : Key) → 0 < covers b j → 0 < covers b k → overlap j k ≡ true
unfolding overlap
overlap-at b j k h l =
    let p = covers-in b j h in
    let q = covers-in b k l in
    rw (
      lt-ltb (j.pos.offset - j.size) j.pos.offset (omega arith),
      lt-ltb (k.pos.offset - k.size) k.pos.offset (omega arith),
      lt-ltb (j.pos.offset - j.size) k.pos.offset (omega arith),
      lt-ltb (k.pos.offset - k.size) j.pos.offset (omega arith),
    )

others-none : (b : ℕ) (k : Key) (l : List Key) → 0 < covers b k → any_of (overlap k) l ≡ false → cover_of l b ≡ 0
unfolding any_of total
others-none b k [] h e = refl
others-none b k (x ∷ xs) h e =
    let n = neither (overlap k x) (any_of (overlap k) xs) e in
    omega (arith, zero-at (ltb 0 (covers b x)) refl, others-none b k xs h n.1)
  where
    zero-at : (t : Bool) → ltb 0 (covers b x) ≡ t → covers b x ≡ 0
    zero-at true d = absurd (clash (overlap-at b k x h (ltb-true 0 (covers b x) d)) (neither (overlap k x) (any_of (overlap k) xs) e).0)
    zero-at false d = omega (arith, ltb-false 0 (covers b x) d)

-- runs that do not overlap cover a bucket at most once
pub cover-once : (b : ℕ) (l : List Key) → overlaps l ≡ false → cover_of l b ≤ 1
unfolding overlaps total
cover-once b [] e = omega arith
cover-once b (k ∷ ks) e =
    let n = neither (any_of (overlap k) ks) (overlaps ks) e in
    go (ltb 0 (covers b k)) refl n.0 (cover-once b ks n.1)
  where
    go : (t : Bool) → ltb 0 (covers b k) ≡ t → any_of (overlap k) ks ≡ false → cover_of ks b ≤ 1 → covers b k + cover_of ks b ≤ 1
    go true d q ih = omega (arith, others-none b k ks (ltb-true 0 (covers b k) d) q, covers-le b k)
    go false d q ih = omega (arith, ltb-false 0 (covers b k) d)

-- each run of a list ends within the limit, as `buckets_ok` has it
abbrev pub ends_within : List Key → Bool
ends_within l = all_of (λ (k : Key). not (is_run k) || run_end_in_range (bucket_in k.pos)) l

-- so what they cover is below it
pub cover-bound : (b : ℕ) (l : List Key) → ends_within l ≡ true → 0 < cover_of l b → b < 65536
unfolding all_of total
cover-bound b [] h n = absurd (omega arith)
cover-bound b (k ∷ ks) h n =
    let a = parts (not (is_run k) || run_end_in_range (bucket_in k.pos)) (ends_within ks) h in
    go (ltb 0 (covers b k)) refl a.0 (cover-bound b ks a.1)
  where
    go : (t : Bool) → ltb 0 (covers b k) ≡ t → (not (is_run k) || run_end_in_range (bucket_in k.pos)) ≡ true → (0 < cover_of ks b → b < 65536) → b < 65536
    go true e l ih =
        let i = covers-in b k (ltb-true 0 (covers b k) e) in
        omega (arith, i.below, leb-true k.pos.offset 65536 (or-then (is_run k) (run_end_in_range (bucket_in k.pos)) l i.run))
    go false e l ih = ih (omega (arith, ltb-false 0 (covers b k) e))
