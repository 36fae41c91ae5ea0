-- The runs that a discard joins: which buckets they cover, and what they add to the cover of a tree.
use mathlib.Core.Path.{◌≡◌, refl, ◌∙◌}
use mathlib.Core.Bool.{Bool, true, false, cond}
use mathlib.Core.List.{List, [], ◌∷◌, map}
use mathlib.Core.Option.{some}
use Prim.Native.Nat.{ℕ, suc, ◌+◌, ◌-◌, ◌≤◌, ◌<◌, Ordering}
use native.Mathlib.Omega.{arith}
use lib.Dec.{eqb}
use borrow.Author.Tests.{lt-ltb, eqb-true, le-leb}
use Rattle.wire.specs.Keys.{Key}
use Rattle.wire.specs.Kinds.{same_bucket, next_bucket}
use Rattle.wire.specs.Order.{cmp}
use Rattle.wire.specs.Positions.{run_at}
use Rattle.wire.specs.declared.bpos.Bpos.{Bpos}
use Rattle.wire.specs.declared.kinds.Bucket.{Bucket}
use Rattle.wire.specs.Bytes.{All, none, more}
use Rattle.calls.specs.Lists.{total, one}
use Rattle.calls.specs.Limits.{is_run}
use Rattle.calls.specs.Trees.{on_eq, lookup, step, apply_queue}
use Rattle.calls.specs.Freespace.{is_in}
use Rattle.calls.specs.Discard.{Run, join_run, joined_runs, run_key}
use Rattle.calls.proofs.lists.AllLaws.{first, all_tail, all-of, all-at}
use Rattle.calls.proofs.lists.BoolLaws.{some_in, ind-le}
use Rattle.calls.proofs.freespace.BucketLaws.{count}
use Rattle.calls.proofs.freespace.CoverLaws.{in_r-step, in_r-one, in_r-empty}
use Rattle.calls.proofs.trees.SortedLaws.{Sorted, sorted-step}
use Rattle.calls.proofs.lists.TotalLaws.{total-mem}
use Rattle.calls.proofs.trees.TreeLaws.{same-offset}
use Rattle.calls.proofs.trees.TreeTotals.{of_o, total-step}
use Rattle.calls.proofs.history.View.{bucket, in_r, covers, cover_of}

-- ---- the runs
-- not empty, and as many buckets as from its first up to its end
abbrev pub Whole : Run → Type 0
Whole r = (0 < r.size) × (r.first.0 + r.size ≡ r.end.0)

-- 1 where a run has b
abbrev pub in_run : ℕ → Run → ℕ
in_run b r = in_r r.first.0 r.end.0 b

-- whole runs that have each b so often
pub record Runs (rs : List Run) (n : ℕ → ℕ) : Type 0 where
  pub whole : All Whole rs
  pub sum : (b : ℕ) → total (in_run b) rs ≡ n b

alone : (b : Bucket) → Whole (record { first = b; end = next_bucket b; size = 1 })
alone b = (omega arith, refl)

join : (b : Bucket) (rs : List Run) (n : ℕ → ℕ) → Runs rs n → Runs (join_run b rs) (λ c. one (eqb b.0 c) + n c)
unfolding join_run total
join b [] n h = record { whole = more (alone b) none; sum = λ c. omega (arith, in_r-one b.0 c, h.sum c) }
join b (r ∷ rs) n h = go (same_bucket (next_bucket b) r.first) refl
  where
    go : (t : Bool) → same_bucket (next_bucket b) r.first ≡ t
        → Runs (cond t (record { first = b; end = r.end; size = suc r.size } ∷ rs) (record { first = b; end = next_bucket b; size = 1 } ∷ r ∷ rs))
        (λ c. one (eqb b.0 c) + n c)
    go true e =
        let q = eqb-true (b.0 + 1) r.first.0 e in
        record {
          whole = more {a = record { first = b; end = r.end; size = suc r.size }} (omega arith, omega (arith, (first h.whole).1)) (all_tail h.whole);
          sum = λ c.
              let s = in_r-step b.0 r.end.0 c (omega (arith, (first h.whole).1)) in
              let z : in_r (b.0 + 1) r.end.0 c ≡ in_run c r = rw q in
              omega (arith, h.sum c);
        }
    go false e = record { whole = more (alone b) h.whole; sum = λ c. omega (arith, in_r-one b.0 c, h.sum c) }

-- the joined runs have each bucket as often as the list has it
pub joined : (bs : List Bucket) → Runs (joined_runs bs) (λ c. count c bs)
unfolding joined_runs total
joined [] = record { whole = none; sum = λ c. refl }
joined (b ∷ bs) = join b (joined_runs bs) (λ c. count c bs) (joined bs)

-- ---- the tree that they are put into
-- a key that ends at b + 1, in a tree none of whose runs covers b, covers nothing
old-none : (p : Bpos) (b c : ℕ) (l : List Key) → suc b ≡ p.offset → cover_of l b ≡ 0 → of_o (covers c) (lookup p l) ≡ 0
unfolding lookup total
old-none p b c [] e h = refl
old-none p b c (x ∷ xs) e h = go (cmp p x.pos) refl (old-none p b c xs e (omega arith))
  where
    go : (o : Ordering) → cmp p x.pos ≡ o → of_o (covers c) (lookup p xs) ≡ 0 → of_o (covers c) (on_eq o (some x) (lookup p xs)) ≡ 0
    go Ordering.lt d ih = ih
    go Ordering.gt d ih = ih
    go Ordering.eq d ih = run (is_run x) refl
      where
        q : suc b ≡ x.pos.offset
        q = e ∙ same-offset p x.pos d

        run : (t : Bool) → is_run x ≡ t → cond t (in_r (x.pos.offset - x.size) x.pos.offset c) 0 ≡ 0
        run false u = refl
        run true u = in_r-empty (x.pos.offset - x.size) x.pos.offset b c q (let z : covers b x ≡ 0 = omega (arith, h) in rw u at z)

abbrev last_of : Run → ℕ
last_of r = r.end.0 - 1

run_step : (c : ℕ) (r : Run) (l : List Key) → Sorted l → Whole r → cover_of l (last_of r) ≡ 0 → cover_of (step (run_key r) l) c ≡ cover_of l c + in_run c r
run_step c r l s w h =
    let o = old-none (run_at r.end) (last_of r) c l (omega (arith, w.0, w.1)) h in
    let k : covers c (run_key r) ≡ in_run c r = let z : r.end.0 - r.size ≡ r.first.0 = omega (arith, w.1) in rw z in
    omega (arith, total-step (covers c) (run_key r) l s)

last-in : (r : Run) → Whole r → in_run (last_of r) r ≡ 1
last-in r w = rw (le-leb r.first.0 (last_of r) (omega arith), lt-ltb (last_of r) r.end.0 (omega arith))

abbrev Clear : List Key → Run → Type 0
Clear l r = Whole r × (cover_of l (last_of r) ≡ 0)

cover-runs : (c : ℕ) (rs : List Run) (l : List Key) → Sorted l → All (Clear l) rs → ((d : ℕ) → total (in_run d) rs ≤ 1)
    → cover_of (apply_queue (map run_key rs) l) c ≡ cover_of l c + total (in_run c) rs
unfolding apply_queue total
cover-runs c [] l s a u = omega arith
cover-runs c (r ∷ rs) l s (more w a) u =
    let n : All (Clear (step (run_key r) l)) rs =
    all-of rs
    (λ q m.
    let h = all-at a m in
    (h.0, omega (arith, h.1, run_step (last_of q) r l s w.0 w.1, u (last_of q), last-in q h.0, total-mem (in_run (last_of q)) q rs m))) in
    omega (arith, cover-runs c rs (step (run_key r) l) (sorted-step (run_key r) l s) n (λ d. omega (arith, u d)), run_step c r l s w.0 w.1)

-- buckets in a list, each once, that no run of a tree covers: their joined runs cover each of them once more, and no other
pub cover-joined : (bs : List Bucket) (l : List Key) → Sorted l → ((c : ℕ) → count c bs ≡ one (is_in bs (bucket c)))
    → ((c : ℕ) → is_in bs (bucket c) ≡ true → cover_of l c ≡ 0)
    → (c : ℕ) → cover_of (apply_queue (map run_key (joined_runs bs)) l) c ≡ cover_of l c + one (is_in bs (bucket c))
cover-joined bs l s once clear c =
    let rs = joined_runs bs in
    let j = joined bs in
    let all : All (Clear l) rs =
    all-of rs
    (λ r m.
    let w = all-at j.whole m in
    (w, clear (last_of r) (some_in _ (omega (arith, last-in r w, total-mem (in_run (last_of r)) r rs m, j.sum (last_of r), once (last_of r)))))) in
    omega (arith, cover-runs c rs l s all (λ d. omega (arith, j.sum d, once d, ind-le (is_in bs (bucket d)))), j.sum c, once c)
