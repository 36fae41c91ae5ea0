-- Runs whose ends ascend: whether they overlap, and how many buckets of them are free.
use mathlib.Core.Path.{◌≡◌, refl, ap, sym, ◌∙◌}
use mathlib.Core.Bool.{Bool, true, false, not, ◌&&◌, ◌||◌, and-false, cond}
use mathlib.Core.List.{List, [], ◌∷◌, map}
use Prim.Native.Nat.{Ordering}
use Prim.Native.Nat.{ℕ, suc, ◌≤◌, ◌<◌}
use native.Mathlib.Omega.{arith}
use lib.Dec.{ltb, eqb}
use borrow.Author.Tests.{leb-true, lt-ltb, le-ltb, ltb-true, ltb-false, eqb-true, eqb-false}
use Rattle.wire.specs.Keys.{Key}
use Rattle.wire.specs.Order.{cmp, pos_less}
use Rattle.wire.specs.Kinds.{bucket_below, run_end_in_range, buckets_up_to, no_bucket}
use Rattle.wire.specs.declared.bpos.Bpos.{Bpos}
use Rattle.wire.specs.declared.kinds.Bucket.{Bucket}
use Rattle.wire.proofs.OrderLaws.{cmp-less, offset-more, snapshot-less}
use Rattle.std.specs.Prelude.{Option, None, Some}
use Rattle.std.specs.List.{filter_map, cons_option}
use Rattle.std.specs.Ordering.{is_le, nat_cmp}
use Rattle.std.proofs.lemmas.Bool.Decides.{nat_tests}
use Rattle.calls.specs.Lists.{all_of, any_of, those, in_order}
use Rattle.calls.specs.Limits.{is_run, is_set, at_inode0}
use Rattle.calls.specs.Freespace.{runs_of, start_of, end_of, buckets_of, overlap, overlaps}
use Rattle.calls.proofs.lists.BoolLaws.{parts as and-true}
use Rattle.calls.proofs.trees.SortedLaws.{Chain, Sorted, chain-weak, chain-sorted}
use Rattle.calls.proofs.trees.SortedLaws.{NoSnapshots}
use Rattle.calls.proofs.lists.AllOfLaws.{any-of-fails}
use Rattle.reader.specs.Checked.{end_in_range}
use Rattle.freespace.specs.Runs.{run_in, covering_in}
use Rattle.freespace.specs.declared.runs.Run.{Run}
use Rattle.freespace.proofs.NeighbourLaws.{neighbours_from, neighbours}
use Rattle.freespace.proofs.WalkLaws.{up-to-none}
use Rattle.reader.proofs.CheckedLaws.{end-at}

-- buckets ascend strictly, from a number on
abbrev pub Rising : ℕ → List Bucket → Type 0
Rising m [] = Unit {0}
Rising m (c ∷ cs) = (m ≤ c.0) × Rising (suc c.0) cs

pub rising-weak : (m n : ℕ) (bs : List Bucket) → m ≤ n → Rising n bs → Rising m bs
rising-weak m n [] h r = tt
rising-weak m n (c ∷ cs) h r = (omega (arith, r.0), r.1)

rising-after : (c : Bucket) (bs : List Bucket) → in_order bucket_below (c ∷ bs) ≡ true → Rising (suc c.0) bs
unfolding in_order
rising-after c [] h = tt
rising-after c (d ∷ ds) h =
    let p = and-true (bucket_below c d) (in_order bucket_below (d ∷ ds)) h in
    (ltb-true c.0 d.0 p.0, rising-after d ds p.1)

pub rising : (bs : List Bucket) → in_order bucket_below bs ≡ true → Rising 0 bs
rising [] h = tt
rising (c ∷ cs) h = (omega arith, rising-after c cs h)

-- ---- the ends of runs ascend, since the keys do
after-offset : (p q : Bpos) → p.inode ≡ q.inode → p.snapshot ≡ 0 → q.snapshot ≡ 0 → cmp p q ≡ Ordering.lt → p.offset < q.offset
after-offset p q i z y c = go (ltb q.offset p.offset) refl (eqb p.offset q.offset) refl
  where
    less : pos_less p q ≡ true
    less = cmp-less p q c

    never : pos_less p q ≡ false → ⊥
    never e = let f = sym less ∙ e in let w : ◌≡◌ {A = ℕ} 0 1 = cc in omega arith

    go : (t : Bool) → ltb q.offset p.offset ≡ t → (u : Bool) → eqb p.offset q.offset ≡ u → p.offset < q.offset
    go true e u f = absurd (never (offset-more p q i (ltb-true q.offset p.offset e)))
    go false e true f =
        absurd (never (snapshot-less p q i (eqb-true p.offset q.offset f) ∙ le-ltb p.snapshot q.snapshot (omega (arith, z, y))))
    go false e false f = omega (arith, ltb-false q.offset p.offset e, eqb-false p.offset q.offset f)

ends-after :
    (p : Bpos) (l : List Key) → p.inode ≡ 0 → p.snapshot ≡ 0 → NoSnapshots l → Chain p l → Rising (suc p.offset) (map end_of (runs_of l))
unfolding runs_of those all_of
ends-after p [] i z n c = tt
ends-after p (x ∷ xs) i z n c =
    let s = and-true (eqb x.pos.snapshot 0) (all_of (λ k. eqb k.pos.snapshot 0) xs) n in
    go (is_run x) refl (eqb-true x.pos.snapshot 0 s.0) (λ j y. ends-after x.pos xs j y s.1 c.1)
    (ends-after p xs i z s.1 (chain-weak p x.pos xs c.0 c.1))
  where
    go : (t : Bool) → is_run x ≡ t → x.pos.snapshot ≡ 0
        → (x.pos.inode ≡ 0 → x.pos.snapshot ≡ 0 → Rising (suc x.pos.offset) (map end_of (those is_run xs)))
        → Rising (suc p.offset) (map end_of (those is_run xs))
        → Rising (suc p.offset) (map end_of (cond t (x ∷ those is_run xs) (those is_run xs)))
    go true e y f g =
        let o = eqb-true x.pos.inode 0 (and-true (is_set x) (at_inode0 x) e).1 in
        (after-offset p x.pos (i ∙ sym o) z y c.0, f o y)
    go false e y f g = g

pub ends-rise : (l : List Key) → Sorted l → NoSnapshots l → Rising 0 (map end_of (runs_of l))
unfolding runs_of those all_of
ends-rise [] c n = tt
ends-rise (x ∷ xs) c n =
    let s = and-true (eqb x.pos.snapshot 0) (all_of (λ k. eqb k.pos.snapshot 0) xs) n in
    go (is_run x) refl (eqb-true x.pos.snapshot 0 s.0) s.1 (ends-rise xs (chain-sorted x.pos xs c) s.1)
  where
    go : (t : Bool) → is_run x ≡ t → x.pos.snapshot ≡ 0 → NoSnapshots xs → Rising 0 (map end_of (those is_run xs))
        → Rising 0 (map end_of (cond t (x ∷ those is_run xs) (those is_run xs)))
    go true e y n g = (omega arith, ends-after x.pos xs (eqb-true x.pos.inode 0 (and-true (is_set x) (at_inode0 x) e).1) y n c)
    go false e y n g = g

-- ---- overlap, in one pass
abbrev run_if : Bool → Bool → Key → Option Run
run_if t u k = cond (t && u) (Some (record { start = start_of k; end = end_of k })) None

-- what is made of a run, and what where there is none
abbrev pub by_run : {A : Type 0} → A → (Run → A) → Option Run → A
by_run a f None = a
by_run a f (Some r) = f r

-- a run starts below the end of the last one before it
unfoldable pub meets : Bucket → List Key → Bool
meets last [] = false
meets last (k ∷ ks) = by_run (meets last ks) (λ r. bucket_below r.start last || meets r.end ks) (covering_in k)

-- a run that is not empty starts below a bucket
abbrev starts_below : Bucket → Key → Bool
starts_below last k = bucket_below (start_of k) (end_of k) && bucket_below (start_of k) last

-- a run that is not empty overlaps those after it that start below its end
overlap-after :
    (k : Key) (ks : List Key) → bucket_below (start_of k) (end_of k) ≡ true → Rising (suc (end_of k).0) (map end_of ks)
    → any_of (overlap k) ks ≡ any_of (starts_below (end_of k)) ks
unfolding any_of overlap
overlap-after k [] e r = refl
overlap-after k (j ∷ js) e r =
    let l = ltb-true (start_of k).0 (end_of k).0 e in
    rw (e, lt-ltb (start_of k).0 (end_of j).0 (omega (arith, r.0)), overlap-after k js e (rising-weak (suc (end_of k).0) (suc (end_of j).0) (map end_of js) (omega (arith, r.0)) r.1))

-- an empty one overlaps none
empty-alone : (k : Key) → bucket_below (start_of k) (end_of k) ≡ false → (j : Key) → overlap k j ≡ false
unfolding overlap
empty-alone k e j = rw e

-- below a lower end there are no more
starts_more : (a b : Bucket) (ks : List Key) → a.0 ≤ b.0 → any_of (starts_below a) ks ≡ true → any_of (starts_below b) ks ≡ true
unfolding any_of
starts_more a b [] h e = e
starts_more a b (k ∷ ks) h e = go (bucket_below (start_of k) (end_of k)) (bucket_below (start_of k) a) refl e (starts_more a b ks h)
  where
    go : (s t : Bool) → bucket_below (start_of k) a ≡ t → (s && t) || any_of (starts_below a) ks ≡ true
        → (any_of (starts_below a) ks ≡ true → any_of (starts_below b) ks ≡ true)
        → (s && bucket_below (start_of k) b) || any_of (starts_below b) ks ≡ true
    go true true d f g = rw (lt-ltb (start_of k).0 b.0 (omega (arith, ltb-true (start_of k).0 a.0 d)))
    go true false d f g = or_right (bucket_below (start_of k) b) (g f)
      where
        or_right : (t : Bool) {u : Bool} → u ≡ true → t || u ≡ true
        or_right true h = refl
        or_right false h = h
    go false t d f g = g f

or-absorb : (a x y o : Bool) → (x ≡ true → y ≡ true) → (a || (y || o)) ≡ ((a || x) || (y || o))
or-absorb true x y o h = refl
or-absorb false true y o h = rw (h refl)
or-absorb false false y o h = refl

pub meets-overlaps :
    (last : Bucket) (ks : List Key) → Rising last.0 (map end_of (runs_of ks))
    → meets last ks ≡ any_of (starts_below last) (runs_of ks) || overlaps (runs_of ks)
unfolding meets runs_of those any_of overlaps covering_in
meets-overlaps last [] r = refl
meets-overlaps last (k ∷ ks) r = go (is_run k) r (λ a s. meets-overlaps a ks s)
  where
    go : (t : Bool) → Rising last.0 (map end_of (cond t (k ∷ those is_run ks) (those is_run ks)))
        → ((a : Bucket) → Rising a.0 (map end_of (those is_run ks)) → meets a ks ≡ any_of (starts_below a) (those is_run ks) || overlaps (those is_run ks))
        → by_run (meets last ks) (λ r. bucket_below r.start last || meets r.end ks) (run_if t (bucket_below (start_of k) (end_of k)) k)
        ≡ any_of (starts_below last) (cond t (k ∷ those is_run ks) (those is_run ks)) || overlaps (cond t (k ∷ those is_run ks) (those is_run ks))
    go false q ih = ih last q
    go true q ih = split (bucket_below (start_of k) (end_of k)) refl
      where
        split : (u : Bool) → bucket_below (start_of k) (end_of k) ≡ u
            → by_run (meets last ks) (λ r. bucket_below r.start last || meets r.end ks) (run_if true u k)
            ≡ ((u && bucket_below (start_of k) last) || any_of (starts_below last) (those is_run ks)) || (any_of (overlap k) (those is_run ks) || overlaps (those is_run ks))
        split true e =
            let x = overlap-after k (those is_run ks) e q.1 in
            rw (x, ih (end_of k) (rising-weak (end_of k).0 (suc (end_of k).0) (map end_of (those is_run ks)) (omega arith) q.1))
            (or-absorb (bucket_below (start_of k) last) (any_of (starts_below last) (those is_run ks)) (any_of (starts_below (end_of k)) (those is_run ks)) (overlaps (those is_run ks))
            (starts_more last (end_of k) (those is_run ks) (omega (arith, q.0))))
        split false e =
            rw (any-of-fails (overlap k) (those is_run ks) (empty-alone k e), ih last (rising-weak last.0 (suc (end_of k).0) (map end_of (those is_run ks)) (omega (arith, q.0)) q.1))

pub starts_none : (ks : List Key) → any_of (starts_below no_bucket) ks ≡ false
starts_none ks = any-of-fails (starts_below no_bucket) ks (λ k. rw (le-ltb (start_of k).0 0 (omega arith)) (and-false (bucket_below (start_of k) (end_of k))))

-- what the pass over all keys finds
pub meets-all : (ks : List Key) → Sorted ks → NoSnapshots ks → meets no_bucket ks ≡ overlaps (runs_of ks)
meets-all ks c n = meets-overlaps no_bucket ks (ends-rise ks c n) ∙ ap (λ (t : Bool). t || overlaps (runs_of ks)) (starts_none (runs_of ks))

-- a run starts at the end of the one before, or above it
abbrev pub apart : Run → Run → Bool
apart a b = not (bucket_below b.start a.end)

-- the test of the code
pub starts-after : (m n : ℕ) → is_le (nat_cmp m n) ≡ not (ltb n m)
starts-after m n = grind (arith, nat_tests)

-- runs start at a bucket or above it, and each at the end of the one before or above that
abbrev clear_from : Bucket → List Run → Bool
clear_from last [] = true
clear_from last (r ∷ rs) = not (bucket_below r.start last) && clear_from r.end rs

clear-next : (r : Run) (rs : List Run) → neighbours_from apart r rs ≡ clear_from r.end rs
clear-next r [] = refl
clear-next r (x ∷ xs) = ap (λ (b : Bool). apart r x && b) (clear-next x xs)

clear-all : (rs : List Run) → neighbours apart rs ≡ clear_from no_bucket rs
clear-all [] = refl
clear-all (r ∷ rs) = clear-next r rs ∙ rw (le-ltb r.start.0 0 (omega arith)) refl

meets-clear : (last : Bucket) (ks : List Key) → meets last ks ≡ not (clear_from last (filter_map covering_in ks))
unfolding meets
meets-clear last [] = refl
meets-clear last (k ∷ ks) = go (covering_in k) (λ b. meets-clear b ks)
  where
    both : (a b : Bool) → a || not b ≡ not (not a && b)
    both true b = refl
    both false b = refl

    go : (x : Option Run) → ((b : Bucket) → meets b ks ≡ not (clear_from b (filter_map covering_in ks)))
        → by_run (meets last ks) (λ r. bucket_below r.start last || meets r.end ks) x ≡ not (clear_from last (cons_option x (filter_map covering_in ks)))
    go None f = f last
    go (Some r) f =
        ap (λ (b : Bool). bucket_below r.start last || b) (f r.end)
        ∙ both (bucket_below r.start last) (clear_from r.end (filter_map covering_in ks))

-- runs in their order overlap where one starts below the end of the one before it
pub apart-overlaps : (ks : List Key) → Sorted ks → NoSnapshots ks → not (neighbours apart (filter_map covering_in ks)) ≡ overlaps (runs_of ks)
apart-overlaps ks c n = ap not (clear-all (filter_map covering_in ks)) ∙ sym (meets-clear no_bucket ks) ∙ meets-all ks c n

-- the run that a key is, where it covers a bucket
pub record RunHere (k : Key) (x : Run) : Type 0 where
  pub is : is_run k ≡ true
  pub start : x.start ≡ start_of k
  pub end : x.end ≡ end_of k
  pub some : x.start.0 < x.end.0

pub run-here : (k : Key) (x : Run) → covering_in k ≡ Some x → RunHere k x
unfolding covering_in
run-here k x = go (is_run k) refl (bucket_below (start_of k) (end_of k)) refl
  where
    go : (t : Bool) → is_run k ≡ t → (u : Bool) → bucket_below (start_of k) (end_of k) ≡ u → run_if t u k ≡ Some x → RunHere k x
    go true e true f h =
        let r : ◌≡◌ {A = Run} (record { start = start_of k; end = end_of k }) x = cc in
        let s = ap (λ (y : Run). y.start) r in
        let n = ap (λ (y : Run). y.end) r in
        record { is = e; start = sym s; end = sym n; some = rw (← s, ← n) (ltb-true (start_of k).0 (end_of k).0 f) }
    go true e false f h = absurd (let w : ◌≡◌ {A = ℕ} 0 1 = cc in omega arith)
    go false e u f h = absurd (let w : ◌≡◌ {A = ℕ} 0 1 = cc in omega arith)

-- its end is within the limit of a run's
pub covering_end : (k : Key) (x : Run) → covering_in k ≡ Some x → end_in_range k ≡ true → x.end.0 ≤ 65536
covering_end k x e h = let r = run-here k x e in rw r.end (leb-true k.pos.offset 65536 (end-at k h r.is))

-- the buckets of a run
abbrev pub run_buckets : Option Run → List Bucket
run_buckets x = by_run [] (λ r. buckets_up_to r.start r.end) x

pub covering-buckets : (k : Key) → is_run k ≡ true → run_buckets (covering_in k) ≡ buckets_of k
unfolding covering_in buckets_of
covering-buckets k e = rw e (go (bucket_below (start_of k) (end_of k)) refl)
  where
    go : (u : Bool) → bucket_below (start_of k) (end_of k) ≡ u → run_buckets (run_if true u k) ≡ buckets_up_to (start_of k) (end_of k)
    go true f = refl
    go false f = sym (up-to-none (start_of k) (end_of k) (ltb-false (start_of k).0 (end_of k).0 f))

pub covering_none : (k : Key) → is_run k ≡ false → covering_in k ≡ None
unfolding covering_in
covering_none k e = rw e

-- a run, an empty one too: its end is within the limit of a run's
pub run_end : (k : Key) (x : Run) → run_in k ≡ Some x → end_in_range k ≡ true → run_end_in_range x.end ≡ true
unfolding run_in
run_end k x = go (is_run k) refl
  where
    go : (t : Bool) → is_run k ≡ t → cond t (Some (record { start = start_of k; end = end_of k })) None ≡ Some x → end_in_range k ≡ true → run_end_in_range x.end ≡ true
    go true e h l =
        let r : ◌≡◌ {A = Run} (record { start = start_of k; end = end_of k }) x = cc in
        rw (← ap (λ (y : Run). y.end) r) (end-at k l e)
    go false e h l = absurd (let w : ◌≡◌ {A = ℕ} 0 1 = cc in omega arith)

pub run-buckets : (k : Key) → is_run k ≡ true → run_buckets (run_in k) ≡ buckets_of k
unfolding run_in buckets_of
run-buckets k e = rw e

pub run_none : (k : Key) → is_run k ≡ false → run_in k ≡ None
unfolding run_in
run_none k e = rw e
