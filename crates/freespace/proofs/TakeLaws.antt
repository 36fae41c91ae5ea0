-- The walk over the keys of the tree, one after the other.
use mathlib.Core.Path.{◌≡◌, refl, ap, sym, ◌∙◌}
use mathlib.Core.Bool.{Bool, true, false, ◌&&◌, cond}
use mathlib.Core.List.{List, [], ◌∷◌, ◌++◌, append-nil, append_assoc}
use Prim.Native.Nat.{ℕ, zero, suc, ◌+◌, ◌-◌, ◌≤◌, ◌<◌}
use native.Mathlib.Numerals.{add-one}
use native.Mathlib.Omega.{arith}
use lib.ListN.{length, take, drop, length-append, length-drop}
use lib.Seq.{length-take-le, drop-drop}
use borrow.Author.Tests.{leb-true}
use Rattle.std.specs.Prelude.{Option, None, Some, Result, Ok, Err}
use Rattle.std.proofs.lemmas.Result.{IfOk-weaker}
use Rattle.wire.specs.Keys.{Key}
use Rattle.wire.specs.Kinds.{buckets_up_to, began_before}
use Rattle.wire.specs.declared.kinds.Bucket.{Bucket}
use Rattle.calls.specs.Lists.{those}
use Rattle.calls.specs.Limits.{is_run}
use Rattle.calls.specs.Freespace as calls
use Rattle.calls.specs.Freespace.{end_of, buckets_of, runs_of, Passed, pass, shortened, walk}
use Rattle.bucket_bits.specs.Bits.{marked, Marks}
use Rattle.bucket_bits.specs.declared.marks.BucketBits.{BucketBits}
use Rattle.reader.specs.Checked.{end_in_range}
use Rattle.freespace.specs.Runs.{began_early, run_in, covering_in}
use Rattle.reader.specs.declared.refusal.Refusal.{Refusal}
use Rattle.reader.specs.declared.refusal.Refusal.TheVariants.{RunBeforeBuckets}
use Rattle.freespace.specs.Walks.{unwalked, thirteen, key_walk, left_of, key_queue, queue_of, RunTook, WalkEnded, WalkTook, WalkIs}
use Rattle.freespace.specs.declared.runs.Run.{Run}
use Rattle.freespace.specs.declared.take.Walked.{Walked}
use Rattle.reader.proofs.NumberLaws.{refused-some}
use Rattle.freespace.proofs.RunLaws.{run_end, run_buckets, run-buckets, run_none, covering-buckets, covering_none}
use Rattle.freespace.proofs.WalkLaws.{pass-none, pass-left, pass-sum, pass-agree}

-- ---- what the walk makes of one key
module _ (R U : Bucket → Bool) (k : Key) where
  abbrev began : Bool
  began = began_before (end_of k) k.size

  -- by whether it is a run
  abbrev key_if : ℕ → Bool → calls.Walked
  key_if n t =
      cond t
      (record {
        taken = (pass R U n (buckets_of k)).taken;
        queue = shortened k (pass R U n (buckets_of k)).left ∷ [];
        refusal = cond began 12 (thirteen (pass R U n (buckets_of k)).used 0);
      })
      (record { taken = []; queue = []; refusal = 0 })

  -- by the run that the code walks, or none
  abbrev pass_if : ℕ → Option Run → Passed
  pass_if n x = pass R U n (run_buckets x)

  key-is : (n : ℕ) → began_early k ≡ false
      → key_walk R U n k ≡ record { taken = (pass_if n (run_in k)).taken; queue = key_queue k (pass_if n (run_in k)).left; refusal = thirteen (pass_if n (run_in k)).used 0 }
  unfolding key_walk began_early
  key-is n = go (is_run k) refl
    where
      go : (t : Bool) → is_run k ≡ t → t && began ≡ false
          → key_if n t
          ≡ record {
            taken = (pass_if n (run_in k)).taken;
            queue = cond t (shortened k (pass_if n (run_in k)).left ∷ []) [];
            refusal = thirteen (pass_if n (run_in k)).used 0;
          }
      go true f e = rw (e, run-buckets k f)
      go false f e =
          rw (run_none k f) (ap (λ (x : Passed). record { taken = x.taken; queue = []; refusal = thirteen x.used 0 }) (sym (pass-none R U n)))

  -- refusal 12, 13, or another
  abbrev refusal_by : Bool → Bool → ℕ → ℕ
  refusal_by early used other = cond early 12 (thirteen used other)

  no-refusal : (early used : Bool) (other : ℕ) → refusal_by early used 0 ≡ 0 → refusal_by early used other ≡ other
  no-refusal true u r h = absurd (omega arith)
  no-refusal false true r h = absurd (omega arith)
  no-refusal false false r h = refl

  first-refusal : (early used : Bool) (other : ℕ) → (refusal_by early used 0 ≡ 0 → ⊥) → refusal_by early used other ≡ refusal_by early used 0
  first-refusal true u r h = refl
  first-refusal false true r h = refl
  first-refusal false false r h = absurd (h refl)

  module _ (need : ℕ) (ks : List Key) (some-need : 0 < need) where
    abbrev v : calls.Walked
    v = walk R U (need - length (key_walk R U need k).taken) (runs_of ks)

    pub key-on :
        (key_walk R U need k).refusal ≡ 0
        → walk R U need (runs_of (k ∷ ks))
        ≡ record { taken = (key_walk R U need k).taken ++ v.taken; queue = (key_walk R U need k).queue ++ v.queue; refusal = v.refusal }
    unfolding key_walk runs_of those walk
    key-on = go need some-need (is_run k)
      where
        go : (n : ℕ) → 0 < n → (t : Bool) → (key_if n t).refusal ≡ 0
            → walk R U n (cond t (k ∷ those is_run ks) (those is_run ks))
            ≡ record {
              taken = (key_if n t).taken ++ (walk R U (n - length (key_if n t).taken) (those is_run ks)).taken;
              queue = (key_if n t).queue ++ (walk R U (n - length (key_if n t).taken) (those is_run ks)).queue;
              refusal = (walk R U (n - length (key_if n t).taken) (those is_run ks)).refusal;
            }
        go zero h t z = absurd (omega arith)
        go (suc n) h false z = let e : suc n ≡ suc n - 0 = omega arith in ap (λ (m : ℕ). walk R U m (those is_run ks)) e
        go (suc n) h true z =
            let p : Passed = pass R U (suc n) (buckets_of k) in
            let f : p.need ≡ suc n - length p.taken = omega (arith, pass-sum R U (suc n) (buckets_of k)) in
            let e = no-refusal began p.used (walk R U p.need (those is_run ks)).refusal z in
            (λ i.
            record {
              taken = p.taken ++ (walk R U p.need (those is_run ks)).taken;
              queue = shortened k p.left ∷ (walk R U p.need (those is_run ks)).queue;
              refusal = e i;
            })
            ∙ ap
            (λ (m : ℕ).
            record {
              taken = p.taken ++ (walk R U m (those is_run ks)).taken;
              queue = shortened k p.left ∷ (walk R U m (those is_run ks)).queue;
              refusal = (walk R U m (those is_run ks)).refusal;
            })
            f

    pub key-stop : ((key_walk R U need k).refusal ≡ 0 → ⊥) → (walk R U need (runs_of (k ∷ ks))).refusal ≡ (key_walk R U need k).refusal
    unfolding key_walk runs_of those walk
    key-stop = go need some-need (is_run k)
      where
        go : (n : ℕ) → 0 < n → (t : Bool) → ((key_if n t).refusal ≡ 0 → ⊥) → (walk R U n (cond t (k ∷ those is_run ks) (those is_run ks))).refusal ≡ (key_if n t).refusal
        go zero h t z = absurd (omega arith)
        go (suc n) h false z = absurd (z refl)
        go (suc n) h true z =
            first-refusal began (pass R U (suc n) (buckets_of k)).used (walk R U (pass R U (suc n) (buckets_of k)).need (those is_run ks)).refusal z

-- ---- the walk of one key, as the code makes it
module _ (R U : Bucket → Bool) (k : Key) (n : ℕ) (from : Walked) (before after : List Bucket) where
  -- a run begun before bucket 0
  pub key-began : began_early k ≡ true → WalkIs n (λ x. k ∷ []) (key_walk R U (n - from.count) k) from before after (Err RunBeforeBuckets)
  unfolding key_walk began_early
  key-began f = record { refusal = go (is_run k) f; took = tt }
    where
      go : (t : Bool) → t && began R U k ≡ true → 12 ≡ (key_if R U k (n - from.count) t).refusal
      go true d = rw d
      go false d = let w : ◌≡◌ {A = ℕ} 0 1 = cc in absurd (omega arith)

  -- another key
  module _ (inside : began_early k ≡ false) (most : from.count ≤ n) where
    abbrev p : Passed
    p = pass_if R U k (n - from.count) (run_in k)

    pub key-walked : (r : Result Walked Refusal) → WalkEnded p from before after r → WalkIs n (λ x. k ∷ []) (key_walk R U (n - from.count) k) from before after r
    unfolding queue_of
    key-walked r e =
        let w = sym (key-is R U k (n - from.count) inside) in
        record {
          refusal = e.used ∙ ap (λ (y : calls.Walked). y.refusal) w;
          took =
              IfOk-weaker r (RunTook p from before after) (λ x. WalkTook n (k ∷ []) (key_walk R U (n - from.count) k) from before after x)
              (λ x t.
              record {
                taken = t.taken ∙ ap (λ (y : calls.Walked). take from.count before ++ y.taken) w;
                count = t.many ∙ ap (λ (y : calls.Walked). from.count + length y.taken) w;
                passed = t.passed;
                queue = ap (λ (y : calls.Walked). y.queue) (sym w) ∙ ap (key_queue k) (sym t.rest);
                short =
                    λ l.
                    t.rest
                    ∙ pass-left R U (n - from.count) (run_buckets (run_in k))
                    (λ y. omega (arith, most, l, y, t.many, pass-sum R U (n - from.count) (run_buckets (run_in k))));
              })
              e.took;
        }

    -- a run, by the tables
    pub key-run :
        {M N : BucketBits} {x : Run} → run_in k ≡ Some x → end_in_range k ≡ true → Marks M R → Marks N U → (r : Result Walked Refusal)
        → WalkEnded (pass (marked M) (marked N) (n - from.count) (buckets_up_to x.start x.end)) from before after r
        → WalkIs n (λ x. k ∷ []) (key_walk R U (n - from.count) k) from before after r
    key-run {M} {N} {x} f end m u r e =
        let s : pass (marked M) (marked N) (n - from.count) (buckets_up_to x.start x.end) ≡ p =
        pass-agree (marked M) (marked N) R U m.told u.told (n - from.count) x.start x.end (leb-true x.end.0 65536 (run_end k x f end))
        ∙ sym (ap (pass_if R U k (n - from.count)) f) in
        key-walked r (rw s at e)

-- a key whose run has no bucket
walk-alone :
    (R U : Bucket → Bool) (k : Key) (n : ℕ) (from : Walked) (table : List Bucket) → began_early k ≡ false → from.count ≤ n → run_buckets (run_in k) ≡ run_buckets None
    → WalkIs n (λ x. k ∷ []) (key_walk R U (n - from.count) k) from table table
    (Ok (record { count = from.count; passed = from.passed + 1; left = 0 }))
walk-alone R U k n from table inside most f =
    let s : pass_if R U k (n - from.count) (run_in k) ≡ record { taken = []; left = 0; need = n - from.count; used = false } =
    ap (pass R U (n - from.count)) f ∙ pass-none R U (n - from.count) in
    key-walked R U k n from table table inside most _
    (record {
      used = ap (λ (x : Passed). thirteen x.used 0) (sym s);
      took =
          record {
            taken = sym (append-nil (take from.count table)) ∙ ap (λ (x : Passed). take from.count table ++ x.taken) (sym s);
            many = omega (arith, ap (λ (x : Passed). length x.taken) s);
            passed = refl;
            rest = ap (λ (x : Passed). x.left) (sym s);
          };
    })

-- the buckets that it covers are those of the run that it is
same-buckets : (k : Key) → run_buckets (run_in k) ≡ run_buckets (covering_in k)
same-buckets k = go (is_run k) refl
  where
    go : (t : Bool) → is_run k ≡ t → run_buckets (run_in k) ≡ run_buckets (covering_in k)
    go true e = run-buckets k e ∙ sym (covering-buckets k e)
    go false e = ap run_buckets (run_none k e ∙ sym (covering_none k e))

-- one that covers none: no run, or an empty one
pub key-alone :
    (R U : Bucket → Bool) (k : Key) (n : ℕ) (from : Walked) (table : List Bucket) → began_early k ≡ false → from.count ≤ n → covering_in k ≡ None
    → WalkIs n (λ x. k ∷ []) (key_walk R U (n - from.count) k) from table table
    (Ok (record { count = from.count; passed = from.passed + 1; left = 0 }))
key-alone R U k n from table inside most f = walk-alone R U k n from table inside most (same-buckets k ∙ ap run_buckets f)

-- one that is no run
pub key-other :
    (R U : Bucket → Bool) (k : Key) (n : ℕ) (from : Walked) (table : List Bucket) → began_early k ≡ false → from.count ≤ n → run_in k ≡ None
    → WalkIs n (λ x. k ∷ []) (key_walk R U (n - from.count) k) from table table
    (Ok (record { count = from.count; passed = from.passed + 1; left = 0 }))
key-other R U k n from table inside most f = walk-alone R U k n from table inside most (ap run_buckets f)

-- ---- the keys queued, one key more
no-left : (j : ℕ) → left_of j 0 ≡ 0
no-left zero = refl
no-left (suc j) = refl

pub queue-snoc :
    (i left : ℕ) (ks rest : List Key) (k : Key) → drop i ks ≡ k ∷ rest → queue_of (i + 1) left ks ≡ queue_of i 0 ks ++ key_queue k left
unfolding queue_of
queue-snoc i left ks rest k e = rw add-one (go i ks e)
  where
    go : (j : ℕ) (l : List Key) → drop j l ≡ k ∷ rest → queue_of (suc j) left l ≡ queue_of j 0 l ++ key_queue k left
    go zero l f = ap (queue_of 1 left) f
    go (suc j) [] f = absurd (omega (arith, ap length f))
    go (suc j) (x ∷ xs) f = split (is_run x) (go j xs f)
      where
        split : (t : Bool) → queue_of (suc j) left xs ≡ queue_of j 0 xs ++ key_queue k left
            → cond t (shortened x 0 ∷ queue_of (suc j) left xs) (queue_of (suc j) left xs)
            ≡ cond t (shortened x (left_of j 0) ∷ queue_of j 0 xs) (queue_of j 0 xs) ++ key_queue k left
        split true g = rw (no-left j, g)
        split false g = g

-- the keys passed alone queue the same
pub queue-take : (i left : ℕ) (ks : List Key) → queue_of i left ks ≡ queue_of i left (take i ks)
unfolding queue_of
queue-take zero left ks = refl
queue-take (suc i) left [] = refl
queue-take (suc i) left (k ∷ ks) = rw (queue-take i left ks)

-- ---- the walk so far: with what the keys from an index on make, it is all that the walk makes
pub record RunWalking (R U : Bucket → Bool) (ks : List Key) (w : calls.Walked) (n : ℕ) (before table : List Bucket) (r : Walked) : Type 0 where
  pub most : r.count ≤ n
  pub few : r.passed ≤ length ks
  pub size : length table ≡ length before
  pub taken : take r.count table ++ (walk R U (n - r.count) (runs_of (drop r.passed ks))).taken ≡ w.taken
  pub many : r.count + length (walk R U (n - r.count) (runs_of (drop r.passed ks))).taken ≡ length w.taken
  pub queue : w.queue ≡ queue_of r.passed r.left ks ++ (walk R U (n - r.count) (runs_of (drop r.passed ks))).queue
  pub refusal : (walk R U (n - r.count) (runs_of (drop r.passed ks))).refusal ≡ w.refusal
  pub short : r.count < n → r.left ≡ 0

module _ (R U : Bucket → Bool) where
  walk-full : (ks : List Key) → walk R U 0 ks ≡ record { taken = []; queue = []; refusal = 0 }
  unfolding walk
  walk-full [] = refl
  walk-full (k ∷ ks) = refl

  walk_none : (need : ℕ) → walk R U need [] ≡ record { taken = []; queue = []; refusal = 0 }
  unfolding walk
  walk_none zero = refl
  walk_none (suc n) = refl

  pub walking_start : (ks : List Key) (n : ℕ) (table : List Bucket) → RunWalking R U ks (walk R U n (runs_of ks)) n table table unwalked
  unfolding queue_of
  walking_start ks n table =
      let e : n - 0 ≡ n = omega arith in
      let q : walk R U (n - 0) (runs_of ks) ≡ walk R U n (runs_of ks) = ap (λ (m : ℕ). walk R U m (runs_of ks)) e in
      record {
        most = omega arith;
        few = omega arith;
        size = refl;
        taken = ap (λ (w : calls.Walked). w.taken) q;
        many = omega (arith, ap (λ (w : calls.Walked). length w.taken) q);
        queue = ap (λ (w : calls.Walked). w.queue) (sym q);
        refusal = ap (λ (w : calls.Walked). w.refusal) q;
        short = λ h. refl;
      }

-- what is left of a list after the first of what was left
module _ {A : Type 0} (i : ℕ) (l : List A) {x : A} {rest after : List A} (e : drop i l ≡ rest) (f : rest ≡ x ∷ after) where
  pub drop-after : drop (i + 1) l ≡ after
  drop-after = sym (drop-drop 1 i l) ∙ ap (drop 1) (e ∙ f)

  pub drop-rest : drop i l ≡ x ∷ drop (i + 1) l
  drop-rest = e ∙ f ∙ ap (λ r. x ∷ r) (sym drop-after)

module _ {R U : Bucket → Bool} {ks : List Key} {w : calls.Walked} {n : ℕ} {before table : List Bucket} {r : Walked} (g : RunWalking R U ks w n before table r) where
  abbrev here : calls.Walked
  here = walk R U (n - r.count) (runs_of (drop r.passed ks))

  -- nothing more is to come
  walking-done : here ≡ record { taken = []; queue = []; refusal = 0 } → WalkIs n (λ x. take x.passed ks) w unwalked before table (Ok r)
  walking-done e =
      record {
        refusal = ap (λ (x : calls.Walked). x.refusal) (sym e) ∙ g.refusal;
        took =
            record {
              taken = sym (append-nil (take r.count table)) ∙ ap (λ (x : calls.Walked). take r.count table ++ x.taken) (sym e) ∙ g.taken;
              count = omega (arith, g.many, ap (λ (x : calls.Walked). length x.taken) e);
              passed = omega (arith, length-take-le r.passed ks g.few);
              queue =
                  g.queue ∙ ap (λ (x : calls.Walked). queue_of r.passed r.left ks ++ x.queue) e ∙ append-nil (queue_of r.passed r.left ks)
                  ∙ queue-take r.passed r.left ks
                  ∙ ap (λ (m : ℕ). queue_of m r.left (take r.passed ks)) (sym (length-take-le r.passed ks g.few));
              short = g.short;
            };
      }

  pub walking-full : r.count ≡ n → WalkIs n (λ x. take x.passed ks) w unwalked before table (Ok r)
  walking-full e =
      let z : n - r.count ≡ 0 = omega arith in
      walking-done (ap (λ (m : ℕ). walk R U m (runs_of (drop r.passed ks))) z ∙ walk-full R U (runs_of (drop r.passed ks)))

  pub walking-end : drop r.passed ks ≡ [] → WalkIs n (λ x. take x.passed ks) w unwalked before table (Ok r)
  unfolding runs_of those
  walking-end h = walking-done (ap (λ (l : List Key). walk R U (n - r.count) (runs_of l)) h ∙ walk_none R U (n - r.count))

  -- the next key
  module _ {k : Key} (f : drop r.passed ks ≡ k ∷ drop (r.passed + 1) ks) (h : r.count < n) where
    abbrev x : calls.Walked
    x = key_walk R U (n - r.count) k

    some-need : 0 < n - r.count
    some-need = omega arith

    -- is refused
    pub walking-refused : {next : List Bucket} {e : Refusal} → WalkIs n (λ x. k ∷ []) (key_walk R U (n - r.count) k) r table next (Err e)
        → WalkIs n (λ x. take x.passed ks) w unwalked before next (Err e)
    walking-refused {e = e} o =
        record {
          refusal =
              o.refusal ∙ sym (key-stop R U k (n - r.count) (drop (r.passed + 1) ks) some-need (λ z. refused-some e (o.refusal ∙ z)))
              ∙ ap (λ (l : List Key). (walk R U (n - r.count) (runs_of l)).refusal) (sym f)
              ∙ g.refusal;
          took = tt;
        }

    more : length x.taken ≤ n - r.count
    unfolding key_walk
    more = go (is_run k)
      where
        go : (b : Bool) → length (key_if R U k (n - r.count) b).taken ≤ n - r.count
        go true = omega (arith, pass-sum R U (n - r.count) (buckets_of k))
        go false = omega arith

    -- is passed
    module _ {next : List Bucket} {t : Walked} (o : WalkIs n (λ x. k ∷ []) (key_walk R U (n - r.count) k) r table next (Ok t)) where
      -- what it queues
      alone : x.queue ≡ key_queue k t.left
      unfolding queue_of
      alone = o.took.queue

      pub walking_on : length next ≡ length table → RunWalking R U ks w n before next t
      walking_on l =
          let p = o.took in
          let v : calls.Walked = walk R U (n - r.count - length x.taken) (runs_of (drop (r.passed + 1) ks)) in
          let s : here ≡ record { taken = x.taken ++ v.taken; queue = x.queue ++ v.queue; refusal = v.refusal } =
          ap (λ (m : List Key). walk R U (n - r.count) (runs_of m)) f
          ∙ key-on R U k (n - r.count) (drop (r.passed + 1) ks) some-need (sym o.refusal) in
          let d : n - t.count ≡ n - r.count - length x.taken = omega (arith, p.count) in
          let e : walk R U (n - t.count) (runs_of (drop t.passed ks)) ≡ v =
          ap (λ (m : ℕ). walk R U m (runs_of (drop t.passed ks))) d
          ∙ ap (λ (m : ℕ). walk R U (n - r.count - length x.taken) (runs_of (drop m ks))) p.passed in
          record {
            most = omega (arith, p.count, more);
            few = omega (arith, p.passed, ap length f, length-drop r.passed ks);
            size = l ∙ g.size;
            taken =
                ap (λ (y : calls.Walked). take t.count next ++ y.taken) e ∙ ap (λ (y : List Bucket). y ++ v.taken) p.taken
                ∙ append_assoc (take r.count table) x.taken v.taken
                ∙ ap (λ (y : calls.Walked). take r.count table ++ y.taken) (sym s)
                ∙ g.taken;
            many =
                omega (
                  arith,
                  g.many,
                  p.count,
                  ap (λ (y : calls.Walked). length y.taken) e,
                  ap (λ (y : calls.Walked). length y.taken) s,
                  length-append x.taken v.taken,
                );
            queue =
                g.queue ∙ ap (λ (y : calls.Walked). queue_of r.passed r.left ks ++ y.queue) s
                ∙ ap (λ (m : ℕ). queue_of r.passed m ks ++ (x.queue ++ v.queue)) (g.short h)
                ∙ sym (append_assoc (queue_of r.passed 0 ks) x.queue v.queue)
                ∙ ap (λ (m : List Key). (queue_of r.passed 0 ks ++ m) ++ v.queue) alone
                ∙ ap (λ (m : List Key). m ++ v.queue) (sym (queue-snoc r.passed t.left ks (drop (r.passed + 1) ks) k f))
                ∙ ap (λ (m : ℕ). queue_of m t.left ks ++ v.queue) (sym p.passed)
                ∙ ap (λ (y : calls.Walked). queue_of t.passed t.left ks ++ y.queue) (sym e);
            refusal = ap (λ (y : calls.Walked). y.refusal) e ∙ ap (λ (y : calls.Walked). y.refusal) (sym s) ∙ g.refusal;
            short = p.short;
          }
