-- How many buckets of runs are free, by the reserved buckets below their ends.
use mathlib.Core.Path.{◌≡◌, refl, ap, sym, ◌∙◌}
use mathlib.Core.Bool.{Bool, true, false, not, ◌||◌, cond}
use mathlib.Core.List.{List, [], ◌∷◌}
use Prim.Native.Nat.{ℕ, zero, suc, ◌+◌, ◌-◌, ◌≤◌, ◌<◌}
use native.Mathlib.Nat.{add-zero}
use native.Mathlib.Omega.{arith}
use lib.Dec.{eqb}
use lib.ListN.{length, drop}
use borrow.Author.Tests.{lt-ltb, le-ltb, ltb-true, ltb-false, eqb-true, eqb-false, ne_eqb}
use Rattle.std.specs.Prelude.{Option, None, Some}
use Rattle.std.specs.List.{prefix_len}
use Rattle.wire.specs.Keys.{Key}
use Rattle.wire.specs.Kinds.{bucket_below, same_bucket, next_bucket, buckets_from, buckets_up_to, no_bucket}
use Rattle.wire.specs.declared.kinds.Bucket.{Bucket}
use Rattle.calls.specs.Lists.{all_of, any_of, those, total, one as ind}
use Rattle.calls.specs.Limits.{is_run}
use Rattle.calls.specs.Freespace.{is_in, runs_of, buckets_of, free_count}
use Rattle.calls.proofs.lists.BoolLaws.{parts as and-true}
use Rattle.reader.specs.Checked.{end_in_range}
use Rattle.reader.proofs.SkipLaws.{walk-on}
use Rattle.freespace.specs.Runs.{covering_in, count_below}
use Rattle.freespace.specs.declared.runs.Run.{Run}
use Rattle.freespace.proofs.RunLaws.{Rising, meets, run-here, covering_end, run_buckets, covering-buckets, covering_none}

length-those : {A : Type 0} (t : A → Bool) (x : A) (xs : List A) → length (those t (x ∷ xs)) ≡ ind (t x) + length (those t xs)
unfolding those
length-those t x xs = go (t x)
  where
    go : (b : Bool) → length (cond b (x ∷ those t xs) (those t xs)) ≡ ind b + length (those t xs)
    go true = omega arith
    go false = omega arith

-- ---- the reserved buckets below one
count-cons : (b c : Bucket) (cs : List Bucket) → count_below b (c ∷ cs) ≡ ind (bucket_below c b) + count_below b cs
unfolding count_below
count-cons b c cs = length-those (λ x. bucket_below x b) c cs

count-nil : (b : Bucket) → count_below b [] ≡ 0
unfolding count_below those
count-nil b = refl

ind-most : (t : Bool) → ind t ≤ 1
ind-most true = omega arith
ind-most false = omega arith

pub count-length : (b : Bucket) (bs : List Bucket) → count_below b bs ≤ length bs
count-length b [] = omega (arith, count-nil b)
count-length b (c ∷ cs) = omega (arith, count-cons b c cs, ind-most (bucket_below c b), count-length b cs)

count_none : (m : ℕ) (b : Bucket) (bs : List Bucket) → Rising m bs → b.0 ≤ m → count_below b bs ≡ 0
count_none m b [] r h = count-nil b
count_none m b (c ∷ cs) r h =
    let e : ind (bucket_below c b) ≡ 0 = ap ind (le-ltb c.0 b.0 (omega (arith, r.0))) in
    omega (arith, count-cons b c cs, count_none (suc c.0) b cs r.1 (omega (arith, r.0)))

pub count-zero : (bs : List Bucket) → count_below no_bucket bs ≡ 0
count-zero [] = count-nil no_bucket
count-zero (c ∷ cs) =
    let e : ind (bucket_below c no_bucket) ≡ 0 = ap ind (le-ltb c.0 0 (omega arith)) in
    omega (arith, count-cons no_bucket c cs, count-zero cs)

pub count-mono : (a b : Bucket) (bs : List Bucket) → a.0 ≤ b.0 → count_below a bs ≤ count_below b bs
count-mono a b [] h = omega (arith, count-nil a, count-nil b)
count-mono a b (c ∷ cs) h =
    let i : ind (bucket_below c a) ≤ ind (bucket_below c b) = go (bucket_below c a) refl in
    omega (arith, count-cons a c cs, count-cons b c cs, count-mono a b cs h)
  where
    go : (t : Bool) → bucket_below c a ≡ t → ind t ≤ ind (bucket_below c b)
    go true e = rw (lt-ltb c.0 b.0 (omega (arith, ltb-true c.0 a.0 e))) (omega arith)
    go false e = omega arith

-- of buckets that ascend, those below one are the first
below-prefix : (m : ℕ) (b : Bucket) (bs : List Bucket) → Rising m bs → prefix_len (λ c. bucket_below c b) bs ≡ count_below b bs
below-prefix m b [] r = sym (count-nil b)
below-prefix m b (c ∷ cs) r = go (bucket_below c b) refl (below-prefix (suc c.0) b cs r.1)
  where
    go : (t : Bool) → bucket_below c b ≡ t → prefix_len (λ c. bucket_below c b) cs ≡ count_below b cs
        → cond t (1 + prefix_len (λ c. bucket_below c b) cs) 0 ≡ count_below b (c ∷ cs)
    go true e h = omega (arith, count-cons b c cs, ap ind e, h)
    go false e h = omega (arith, count_none c.0 b (c ∷ cs) (omega arith, r.1) (ltb-false c.0 b.0 e))

-- the walk along them
pub below-walked :
    (b : Bucket) (bs : List Bucket) {from r : ℕ} → Rising 0 bs → from ≤ count_below b bs → r ≡ from + prefix_len (λ c. bucket_below c b) (drop from bs)
    → r ≡ count_below b bs
below-walked b bs {from} w h e =
    let same = below-prefix 0 b bs w in
    e ∙ walk-on (λ c. bucket_below c b) bs from (omega (arith, same, h)) ∙ same

-- the next bucket has one more below it, if it is in the list
in-none : (m : ℕ) (b : Bucket) (bs : List Bucket) → Rising m bs → b.0 < m → is_in bs b ≡ false
unfolding is_in any_of
in-none m b [] r h = refl
in-none m b (c ∷ cs) r h = rw (ne_eqb c.0 b.0 (λ e. omega (arith, r.0))) (in-none (suc c.0) b cs r.1 (omega (arith, r.0)))

count_next : (m : ℕ) (b : Bucket) (bs : List Bucket) → Rising m bs → count_below (next_bucket b) bs ≡ count_below b bs + ind (is_in bs b)
unfolding is_in any_of
count_next m b [] r = omega (arith, count-nil b, count-nil (next_bucket b))
count_next m b (c ∷ cs) r =
    go (eqb c.0 b.0) refl (count_next (suc c.0) b cs r.1) (λ e. in-none (suc c.0) b cs r.1 e)
  where
    go : (t : Bool) → eqb c.0 b.0 ≡ t → count_below (next_bucket b) cs ≡ count_below b cs + ind (any_of (λ x. same_bucket x b) cs)
        → (b.0 < suc c.0 → any_of (λ x. same_bucket x b) cs ≡ false)
        → count_below (next_bucket b) (c ∷ cs) ≡ count_below b (c ∷ cs) + ind (t || any_of (λ x. same_bucket x b) cs)
    go true e ih f =
        let q = eqb-true c.0 b.0 e in
        omega (
          arith,
          count-cons b c cs,
          count-cons (next_bucket b) c cs,
          ap ind (lt-ltb c.0 (b.0 + 1) (omega arith)),
          ap ind (le-ltb c.0 b.0 (omega arith)),
          ap ind (f (omega arith)),
        )
    go false e ih f =
        let n = eqb-false c.0 b.0 e in
        let s : ind (bucket_below c (next_bucket b)) ≡ ind (bucket_below c b) = ap ind (same (bucket_below c b) refl n) in
        omega (arith, count-cons b c cs, count-cons (next_bucket b) c cs)
      where
        same : (u : Bool) → bucket_below c b ≡ u → (c.0 ≡ b.0 → ⊥) → bucket_below c (next_bucket b) ≡ u
        same true d n = lt-ltb c.0 (b.0 + 1) (omega (arith, ltb-true c.0 b.0 d))
        same false d n = le-ltb c.0 (b.0 + 1) (omega (arith, ltb-false c.0 b.0 d))

-- ---- one run
module _ (bs : List Bucket) (r : Rising 0 bs) where
  free-from :
      (n : ℕ) (b : Bucket)
      → length (those (λ x. not (is_in bs x)) (buckets_from n b)) + count_below (record { 0 = b.0 + n }) bs ≡ n + count_below b bs
  unfolding buckets_from those
  free-from zero b = rw (add-zero b.0) (omega (arith, length_none))
    where
      length_none : length (those (λ x. not (is_in bs x)) []) ≡ 0
      length_none = refl
  free-from (suc n) b =
      let e : b.0 + suc n ≡ b.0 + 1 + n = omega arith in
      let g : count_below (record { 0 = b.0 + suc n }) bs ≡ count_below (record { 0 = b.0 + 1 + n }) bs = ap (λ (m : ℕ). count_below (record { 0 = m }) bs) e in
      let h : ind (not (is_in bs b)) + ind (is_in bs b) ≡ 1 = ind-not (is_in bs b) in
      omega (arith, length-those (λ x. not (is_in bs x)) b (buckets_from n (next_bucket b)), free-from n (next_bucket b), count_next 0 b bs r)
    where
      ind-not : (t : Bool) → ind (not t) + ind t ≡ 1
      ind-not true = refl
      ind-not false = refl

  pub free-run :
      (start end : Bucket) → start.0 ≤ end.0
      → length (those (λ x. not (is_in bs x)) (buckets_up_to start end)) + count_below end bs ≡ (end.0 - start.0) + count_below start bs
  free-run start end h =
      let e : start.0 + (end.0 - start.0) ≡ end.0 = omega arith in
      let g : count_below (record { 0 = start.0 + (end.0 - start.0) }) bs ≡ count_below end bs = ap (λ (m : ℕ). count_below (record { 0 = m }) bs) e in
      omega (arith, free-from (end.0 - start.0) start)

-- ---- all runs
-- the free buckets of a run
abbrev free_in : List Bucket → Option Run → ℕ
free_in bs x = length (those (λ b. not (is_in bs b)) (run_buckets x))

free-cons : (bs : List Bucket) (k : Key) (ks : List Key) → free_count (is_in bs) (runs_of (k ∷ ks)) ≡ free_in bs (covering_in k) + free_count (is_in bs) (runs_of ks)
unfolding free_count runs_of those total
free-cons bs k ks = go (is_run k) refl
  where
    go : (t : Bool) → is_run k ≡ t
        → total (λ j. length (those (λ b. not (is_in bs b)) (buckets_of j))) (cond t (k ∷ those is_run ks) (those is_run ks))
        ≡ free_in bs (covering_in k) + total (λ j. length (those (λ b. not (is_in bs b)) (buckets_of j))) (those is_run ks)
    go true e = rw (covering-buckets k e)
    go false e = rw (covering_none k e) (omega arith)

-- the count so far: with the free buckets of the keys that are left, it is all; and those keys are within the limits and start no run below `last`
pub record FreeCounting (ks : List Key) (bs : List Bucket) (free j : ℕ) (rest : List Key) : Type 0 where
  pub last : Bucket
  pub small : last.0 ≤ 65536
  pub most : free ≤ last.0
  pub below : j ≡ count_below last bs
  pub range : all_of end_in_range rest ≡ true
  pub apart : meets last rest ≡ false
  pub sum : free + free_count (is_in bs) (runs_of rest) ≡ free_count (is_in bs) (runs_of ks)

-- what a run adds to the count
pub record RunCounted (ks : List Key) (bs : List Bucket) (free j : ℕ) (rest : List Key) (r : Run) : Type 0 where
  pub order : r.start.0 ≤ r.end.0
  pub small : r.end.0 ≤ 65536
  pub start : j ≤ count_below r.start bs
  pub end : count_below r.start bs ≤ count_below r.end bs
  -- no more are reserved than the run has
  pub fits : count_below r.end bs ≤ (r.end.0 - r.start.0) + count_below r.start bs
  pub room : free + (r.end.0 - r.start.0) ≤ 65536
  pub on :
      (free' j' : ℕ) → free' ≡ free + ((r.end.0 - r.start.0) - (count_below r.end bs - count_below r.start bs))
      → j' ≡ count_below r.end bs
      → FreeCounting ks bs free' j' rest

pub counting-start : (ks : List Key) (bs : List Bucket) → all_of end_in_range ks ≡ true → meets no_bucket ks ≡ false → FreeCounting ks bs 0 0 ks
counting-start ks bs l e =
    record { last = no_bucket; small = omega arith; most = omega arith; below = sym (count-zero bs); range = l; apart = e; sum = omega arith }

module _ {ks : List Key} {bs : List Bucket} {free j : ℕ} {rest : List Key} (c : FreeCounting ks bs free j rest) where
  pub counting-end : rest ≡ [] → free ≡ free_count (is_in bs) (runs_of ks)
  unfolding free_count runs_of those total
  counting-end h = omega (arith, ap (λ (l : List Key). free_count (is_in bs) (runs_of l)) h, c.sum)

  module _ {k : Key} {after : List Key} (f : rest ≡ k ∷ after) where
    here : free_count (is_in bs) (runs_of rest) ≡ free_in bs (covering_in k) + free_count (is_in bs) (runs_of after)
    here = ap (λ (l : List Key). free_count (is_in bs) (runs_of l)) f ∙ free-cons bs k after

    met : meets c.last (k ∷ after) ≡ false
    met = ap (meets c.last) (sym f) ∙ c.apart

    ranges : (end_in_range k ≡ true) × (all_of end_in_range after ≡ true)
    unfolding all_of
    ranges = and-true (end_in_range k) (all_of end_in_range after) (ap (all_of end_in_range) (sym f) ∙ c.range)

    -- a key that covers nothing
    pub counting-past : covering_in k ≡ None → FreeCounting ks bs free j after
    unfolding meets those
    counting-past e =
        record {
          last = c.last;
          small = c.small;
          most = c.most;
          below = c.below;
          range = ranges.1;
          apart = rw e at met;
          sum = omega (arith, c.sum, rw e at here);
        }

    -- a run, with the reserved buckets below its start and its end
    module _ (r : Rising 0 bs) {x : Run} (e : covering_in k ≡ Some x) where
      parted : (bucket_below x.start c.last ≡ false) × (meets x.end after ≡ false)
      unfolding meets
      parted = or-both (bucket_below x.start c.last) (rw e at met)
        where
          or-both : (t : Bool) {u : Bool} → t || u ≡ false → (t ≡ false) × (u ≡ false)
          or-both true h = let w : ◌≡◌ {A = ℕ} 0 1 = cc in absurd (omega arith)
          or-both false h = (refl, h)

      ordered : (c.last.0 ≤ x.start.0) × (x.start.0 < x.end.0)
      ordered = (ltb-false x.start.0 c.last.0 parted.0, (run-here k x e).some)

      pub counting-on : RunCounted ks bs free j after x
      counting-on =
          let h = ordered in
          let w = free-run bs r x.start x.end (omega arith) in
          let m = count-mono x.start x.end bs (omega arith) in
          let small = covering_end k x e ranges.0 in
          record {
            order = omega arith;
            small = small;
            start = omega (arith, c.below, count-mono c.last x.start bs h.0);
            end = m;
            fits = omega arith;
            room = omega (arith, c.most);
            on =
                λ free' j' p q.
                record {
                  last = x.end;
                  small = small;
                  most = omega (arith, c.most);
                  below = q;
                  range = ranges.1;
                  apart = parted.1;
                  sum = omega (arith, c.sum, rw e at here);
                };
          }
