-- The walk over one run, bucket by bucket.
use mathlib.Core.Path.{◌≡◌, refl, ap, sym, ◌∙◌}
use mathlib.Core.Bool.{Bool, true, false, ◌||◌, cond}
use mathlib.Core.List.{List, [], ◌∷◌, ◌++◌, append-nil}
use Prim.Native.Nat.{ℕ, zero, suc, ◌+◌, ◌-◌, ◌≤◌, ◌<◌}
use native.Mathlib.Numerals.{add-one}
use native.Mathlib.Omega.{arith}
use lib.ListN.{length, take, set, length-set}
use lib.Seq.{take-suc-set, append_snoc}
use Rattle.wire.specs.Kinds.{bucket_in_range, buckets_from, buckets_up_to, next_bucket}
use Rattle.wire.specs.declared.kinds.Bucket.{Bucket}
use lib.Dec.{leb}
use borrow.Author.Tests.{lt-ltb, leb-true, leb-false}
use Rattle.calls.specs.Freespace.{Passed, pass}
use Rattle.reader.specs.declared.refusal.Refusal.TheVariants.{BucketInUse}
use Rattle.freespace.specs.Walks.{thirteen, WalkEnded}
use Rattle.freespace.specs.declared.take.Walked.{Walked}
use Rattle.std.specs.Prelude.{Ok, Err}

-- the buckets of a run from one on
pub up-to-next : (b end : Bucket) → b.0 < end.0 → buckets_up_to b end ≡ b ∷ buckets_up_to (next_bucket b) end
unfolding buckets_from
up-to-next b end h =
    let e : end.0 - b.0 ≡ suc (end.0 - (b.0 + 1)) = omega arith in
    ap (λ (n : ℕ). buckets_from n b) e

pub up-to-none : (b end : Bucket) → end.0 ≤ b.0 → buckets_up_to b end ≡ []
unfolding buckets_from
up-to-none b end h =
    let e : end.0 - b.0 ≡ 0 = omega arith in
    ap (λ (n : ℕ). buckets_from n b) e

-- one bucket of a run
module _ (R U : Bucket → Bool) where
  pub pass-none : (need : ℕ) → pass R U need [] ≡ record { taken = []; left = 0; need = need; used = false }
  unfolding pass
  pass-none zero = refl
  pass-none (suc n) = refl

  pub pass-full : (bs : List Bucket) → pass R U 0 bs ≡ record { taken = []; left = length bs; need = 0; used = false }
  unfolding pass
  pass-full [] = refl
  pass-full (b ∷ bs) = refl

  pub pass-skip : (need : ℕ) (b : Bucket) (bs : List Bucket) → 0 < need → R b ≡ true → pass R U need (b ∷ bs) ≡ pass R U need bs
  unfolding pass
  pass-skip zero b bs h e = absurd (omega arith)
  pass-skip (suc n) b bs h e = rw e

  pub pass-take :
      (need : ℕ) (b : Bucket) (bs : List Bucket) → R b ≡ false
      → pass R U (suc need) (b ∷ bs)
      ≡ record {
        taken = b ∷ (pass R U need bs).taken;
        left = (pass R U need bs).left;
        need = (pass R U need bs).need;
        used = U b || (pass R U need bs).used;
      }
  unfolding pass
  pass-take need b bs e = rw e

  -- a run that leaves a need is walked to its end
  pub pass-left : (need : ℕ) (bs : List Bucket) → ((pass R U need bs).need ≡ 0 → ⊥) → (pass R U need bs).left ≡ 0
  unfolding pass
  pass-left zero [] h = refl
  pass-left (suc n) [] h = refl
  pass-left zero (b ∷ bs) h = absurd (h refl)
  pass-left (suc n) (b ∷ bs) h = pass-left (cond (R b) (suc n) n) bs h

  -- as many are taken as the need falls
  pub pass-sum : (need : ℕ) (bs : List Bucket) → length (pass R U need bs).taken + (pass R U need bs).need ≡ need
  unfolding pass
  pass-sum zero [] = refl
  pass-sum (suc n) [] = omega arith
  pass-sum zero (b ∷ bs) = refl
  pass-sum (suc n) (b ∷ bs) = go (R b) (pass-sum (suc n) bs) (pass-sum n bs)
    where
      go : (t : Bool) → length (pass R U (suc n) bs).taken + (pass R U (suc n) bs).need ≡ suc n
          → length (pass R U n bs).taken + (pass R U n bs).need ≡ n
          → length (cond t (pass R U (cond t (suc n) n) bs).taken (b ∷ (pass R U (cond t (suc n) n) bs).taken)) + (pass R U (cond t (suc n) n) bs).need ≡ suc n
      go true h i = h
      go false h i = omega arith

-- tests that agree below 65,536 make the same of a run that ends there
module _ (R U S W : Bucket → Bool) (r : (b : Bucket) → bucket_in_range b ≡ true → R b ≡ S b) (u : (b : Bucket) → bucket_in_range b ≡ true → U b ≡ W b) where
  agree-from : (n need : ℕ) (b : Bucket) → b.0 + n ≤ 65536 → pass R U need (buckets_from n b) ≡ pass S W need (buckets_from n b)
  unfolding pass buckets_from
  agree-from zero zero b h = refl
  agree-from zero (suc need) b h = refl
  agree-from (suc n) zero b h = refl
  agree-from (suc n) (suc need) b h =
      rw (r b (lt-ltb b.0 65536 (omega arith)), u b (lt-ltb b.0 65536 (omega arith)), agree-from n (cond (S b) (suc need) need) (next_bucket b) (omega arith))

  pub pass-agree : (need : ℕ) (start end : Bucket) → end.0 ≤ 65536 → pass R U need (buckets_up_to start end) ≡ pass S W need (buckets_up_to start end)
  pass-agree need start end h = go (leb start.0 end.0) refl
    where
      go : (t : Bool) → leb start.0 end.0 ≡ t → pass R U need (buckets_up_to start end) ≡ pass S W need (buckets_up_to start end)
      go true e = let l = leb-true start.0 end.0 e in agree-from (end.0 - start.0) need start (omega arith)
      go false e =
          let l = leb-false start.0 end.0 e in
          rw (up-to-none start end (omega arith)) (pass-none R U need ∙ sym (pass-none S W need))

-- the walk of one run, with the buckets from one on still to come: all that the run makes is what was made so far, with no used bucket, and what those make
pub record Ahead (R U : Bucket → Bool) (p : Passed) (n : ℕ) (from : Walked) (before : List Bucket) (end b : Bucket) (count : ℕ) (table : List Bucket) : Type 0 where
  pub most : count ≤ n
  pub size : length table ≡ length before
  pub taken : take count table ++ (pass R U (n - count) (buckets_up_to b end)).taken ≡ take from.count before ++ p.taken
  pub many : count + length (pass R U (n - count) (buckets_up_to b end)).taken ≡ from.count + length p.taken
  pub left : (pass R U (n - count) (buckets_up_to b end)).left ≡ p.left
  pub used : (pass R U (n - count) (buckets_up_to b end)).used ≡ p.used

module _ (R U : Bucket → Bool) {p : Passed} {n : ℕ} {from : Walked} {before : List Bucket} {end b : Bucket} {count : ℕ} {table : List Bucket} (a : Ahead R U p n from before end b count table) where
  abbrev rest : Passed
  rest = pass R U (n - count) (buckets_up_to b end)

  -- a reserved bucket is passed
  pub ahead-skip : count < n → b.0 < end.0 → R b ≡ true → Ahead R U p n from before end (next_bucket b) count table
  ahead-skip h l e =
      let q : pass R U (n - count) (buckets_up_to (next_bucket b) end) ≡ rest = sym (ap (pass R U (n - count)) (up-to-next b end l) ∙ pass-skip R U (n - count) b (buckets_up_to (next_bucket b) end) (omega arith) e) in
      record {
        most = a.most;
        size = a.size;
        taken = ap (λ (r : Passed). take count table ++ r.taken) q ∙ a.taken;
        many = ap (λ (r : Passed). count + length r.taken) q ∙ a.many;
        left = ap (λ (r : Passed). r.left) q ∙ a.left;
        used = ap (λ (r : Passed). r.used) q ∙ a.used;
      }

  -- another bucket
  module _ (h : count < n) (l : b.0 < end.0) (e : R b ≡ false) where
    after : Passed
    after = pass R U (n - (count + 1)) (buckets_up_to (next_bucket b) end)

    rest-is : rest ≡ record { taken = b ∷ after.taken; left = after.left; need = after.need; used = U b || after.used }
    unfolding after
    rest-is =
        let m : n - count ≡ suc (n - (count + 1)) = omega arith in
        ap (pass R U (n - count)) (up-to-next b end l) ∙ ap (λ (k : ℕ). pass R U k (b ∷ buckets_up_to (next_bucket b) end)) m
        ∙ pass-take R U (n - (count + 1)) b (buckets_up_to (next_bucket b) end) e

    -- is taken
    pub ahead-take : n ≤ length before → U b ≡ false → Ahead R U p n from before end (next_bucket b) (count + 1) (set table count b)
    unfolding after
    ahead-take z f =
        let q = rest-is in
        let w : take (count + 1) (set table count b) ≡ take count table ++ (b ∷ []) = rw add-one (take-suc-set table count b (omega (arith, a.size))) in
        record {
          most = omega arith;
          size = length-set table count b ∙ a.size;
          taken =
              ap (λ (x : List Bucket). x ++ after.taken) w
              ∙ append_snoc (take count table) b after.taken
              ∙ ap (λ (x : Passed). take count table ++ x.taken) (sym q)
              ∙ a.taken;
          many = omega (arith, a.many, ap (λ (x : Passed). length x.taken) q);
          left = ap (λ (x : Passed). x.left) (sym q) ∙ a.left;
          used = ap (λ (t : Bool). t || after.used) (sym f) ∙ ap (λ (x : Passed). x.used) (sym q) ∙ a.used;
        }

    -- is used
    pub ahead-used : U b ≡ true → WalkEnded p from before table (Err BucketInUse)
    ahead-used f =
        let u : true ≡ p.used = ap (λ (t : Bool). t || after.used) (sym f) ∙ ap (λ (x : Passed). x.used) (sym rest-is) ∙ a.used in
        record { used = ap (λ (t : Bool). thirteen t 0) u; took = tt }

-- where the rest makes nothing more, what the walk leaves
module _
    (R U : Bucket → Bool) {p : Passed} {n : ℕ} {from : Walked} {before : List Bucket} {end b : Bucket} {table : List Bucket} {w : Walked}
    (a : Ahead R U p n from before end b w.count table) (f : w.passed ≡ from.passed + 1) where
  ended : pass R U (n - w.count) (buckets_up_to b end) ≡ record { taken = []; left = w.left; need = n - w.count; used = false } → WalkEnded p from before table (Ok w)
  ended e =
      record {
        used = rw (sym a.used, e) refl;
        took =
            record {
              taken = sym (append-nil (take w.count table)) ∙ ap (λ (x : Passed). take w.count table ++ x.taken) (sym e) ∙ a.taken;
              many = omega (arith, a.many, ap (λ (x : Passed). length x.taken) e);
              passed = f;
              rest = ap (λ (x : Passed). x.left) (sym e) ∙ a.left;
            };
      }

  pub ahead-full : w.count ≡ n → w.left ≡ length (buckets_up_to b end) → WalkEnded p from before table (Ok w)
  ahead-full e l =
      let z : n - w.count ≡ 0 = omega arith in
      ended (ap (λ (k : ℕ). pass R U k (buckets_up_to b end)) z ∙ pass-full R U (buckets_up_to b end) ∙ (λ i. record { taken = []; left = (sym l) i; need = (sym z) i; used = false }))

  pub ahead-done : end.0 ≤ b.0 → w.left ≡ 0 → WalkEnded p from before table (Ok w)
  ahead-done h l =
      ended (ap (pass R U (n - w.count)) (up-to-none b end h) ∙ pass-none R U (n - w.count) ∙ (λ i. record { taken = []; left = (sym l) i; need = n - w.count; used = false }))
