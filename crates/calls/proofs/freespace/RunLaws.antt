-- Runs of buckets and the walk over them: how many it takes, and what it does to the cover of a bucket.
use mathlib.Core.Path.{◌≡◌, refl, ap, sym, ◌∙◌, subst}
use mathlib.Core.Bool.{Bool, true, false, not, ◌||◌, cond}
use mathlib.Core.List.{List, [], ◌∷◌}
use mathlib.Core.Option.{some}
use Prim.Native.Nat.{ℕ, zero, suc, ◌+◌, ◌-◌, ◌≤◌}
use native.Mathlib.Omega.{arith}
use lib.Dec.{eqb}
use lib.ListN.{length, length-append}
use borrow.Author.Tests.{eqb-true, ne_eqb}
use Rattle.wire.specs.Keys.{Key}
use Rattle.wire.specs.Order.{cmp}
use Rattle.wire.specs.Kinds.{buckets_from}
use Rattle.wire.specs.declared.kinds.Bucket.{Bucket}
use Rattle.wire.specs.declared.bpos.Bpos.{Bpos}
use Rattle.wire.specs.Bytes.{All, more}
use Rattle.calls.specs.Lists.{those, total, one}
use Rattle.calls.specs.Limits.{is_set, is_run, at_inode0}
use Rattle.calls.specs.Trees.{lookup, apply_queue, deletion}
use Rattle.calls.specs.Freespace.{runs_of, start_of, end_of, buckets_of, free_count, Passed, pass, shortened, Walked, walk}
use Rattle.calls.proofs.lists.AllLaws.{all-chosen}
use Rattle.calls.proofs.lists.BoolLaws.{clash, parts}
use Rattle.calls.proofs.freespace.BucketLaws.{count}
use Rattle.calls.proofs.freespace.CoverLaws.{in_r-step, in_r-none, length_from}
use Rattle.calls.proofs.trees.SortedLaws.{Chain, Sorted, lookup-own, sorted-those}
use Rattle.calls.proofs.lists.TotalLaws.{total-append}
use Rattle.calls.proofs.trees.TreeLaws.{op_of}
use Rattle.calls.proofs.trees.TreeTotals.{of_o, total-queue}
use Rattle.calls.proofs.history.View.{bucket, in_r, covers, cover_of}

-- ---- one run
module _ (reserved used : Bucket → Bool) where
  -- what one run gives: all that is needed, or all that it has
  record Gives (need : ℕ) (bs : List Bucket) (p : Passed) : Type 0 where
    rest : p.need ≡ need - length (those (λ b. not (reserved b)) bs)
    sum : length p.taken + p.need ≡ need

  pass-gives : (need : ℕ) (bs : List Bucket) → Gives need bs (pass reserved used need bs)
  unfolding pass those
  pass-gives need [] = record { rest = omega arith; sum = omega arith }
  pass-gives zero (b ∷ bs) = record { rest = omega arith; sum = omega arith }
  pass-gives (suc n) (b ∷ bs) = go (reserved b) refl (pass-gives (cond (reserved b) (suc n) n) bs)
    where
      go : (t : Bool) → reserved b ≡ t → Gives (cond t (suc n) n) bs (pass reserved used (cond (reserved b) (suc n) n) bs)
          → Gives (suc n) (b ∷ bs) (let r = pass reserved used (cond (reserved b) (suc n) n) bs in
          record { taken = cond t r.taken (b ∷ r.taken); left = r.left; need = r.need; used = cond t r.used (used b || r.used) })
      go true d ih =
          let q : length (those (λ (b : Bucket). not (reserved b)) (b ∷ bs)) ≡ length (those (λ (b : Bucket). not (reserved b)) bs) = rw d in
          record { rest = omega (arith, ih.rest); sum = ih.sum }
      go false d ih =
          let q : length (those (λ (b : Bucket). not (reserved b)) (b ∷ bs)) ≡ suc (length (those (λ (b : Bucket). not (reserved b)) bs)) = rw d in
          record { rest = omega (arith, ih.rest); sum = omega (arith, ih.sum) }

  module _ (b : ℕ) where
    -- what one run, from s up to e, gives up of b
    record Yields (s e : ℕ) (p : Passed) : Type 0 where
      plain : reserved (bucket b) ≡ false → in_r s e b ≡ in_r (e - p.left) e b + count b p.taken
      less : in_r (e - p.left) e b ≤ in_r s e b
      shut : reserved (bucket b) ≡ true → count b p.taken ≡ 0

    pass-yields : (m at e need : ℕ) → e ≡ at + m → Yields at e (pass reserved used need (buckets_from m (bucket at)))
    unfolding pass buckets_from total
    pass-yields zero at e need h =
        let a : in_r at e b ≡ 0 = in_r-none at e b (omega arith) in
        let z : in_r (e - 0) e b ≡ 0 = in_r-none (e - 0) e b (omega arith) in
        record { plain = λ k. omega arith; less = omega arith; shut = λ k. refl }
    pass-yields (suc m) at e zero h =
        let n = length_from m (bucket (at + 1)) in
        let q : e - suc (length (buckets_from m (bucket (at + 1)))) ≡ at = omega arith in
        record { plain = λ k. rw q (omega arith); less = rw q (omega arith); shut = λ k. refl }
    pass-yields (suc m) at e (suc n) h =
        go (reserved (bucket at)) refl (pass-yields m (at + 1) e (cond (reserved (bucket at)) (suc n) n) (omega arith))
      where
        go : (t : Bool) → reserved (bucket at) ≡ t → Yields (at + 1) e (pass reserved used (cond (reserved (bucket at)) (suc n) n) (buckets_from m (bucket (at + 1))))
            → Yields at e (let r = pass reserved used (cond (reserved (bucket at)) (suc n) n) (buckets_from m (bucket (at + 1))) in
            record { taken = cond t r.taken (bucket at ∷ r.taken); left = r.left; need = r.need; used = cond t r.used (used (bucket at) || r.used) })
        go true d ih =
            let st = in_r-step at e b (omega (arith, h)) in
            record {
              plain = λ k.
                  let z : one (eqb at b) ≡ 0 = rw (ne_eqb at b (λ q. clash d (rw q k))) in
                  omega (arith, ih.plain k);
              less = omega (arith, ih.less);
              shut = ih.shut;
            }
        go false d ih =
            let st = in_r-step at e b (omega (arith, h)) in
            record {
              plain = λ k. omega (arith, ih.plain k);
              less = omega (arith, ih.less);
              shut = λ k.
                  let z : one (eqb at b) ≡ 0 = rw (ne_eqb at b (λ q. clash k (rw (← q) d))) in
                  omega (arith, ih.shut k);
            }

  -- ---- the walk over runs
  -- it takes all that is needed, or all that the runs have
  pub walk-gives : (need : ℕ) (ks : List Key) → length (walk reserved used need ks).taken + (need - free_count reserved ks) ≡ need
  unfolding walk free_count total
  walk-gives need [] = omega arith
  walk-gives zero (k ∷ ks) = omega arith
  walk-gives (suc n) (k ∷ ks) =
      let p = pass reserved used (suc n) (buckets_of k) in
      let g = pass-gives (suc n) (buckets_of k) in
      let a = length-append p.taken (walk reserved used p.need ks).taken in
      omega (arith, walk-gives p.need ks)

-- what is queued for a run stands at its position, and covers what is left of it
abbrev sized : Key → ℕ → Key
sized k left = record { type = k.type; size = left; version_hi = k.version_hi; version_lo = k.version_lo; pos = k.pos; value = k.value }

shortened-pos : (k : Key) (left : ℕ) → (shortened k left).pos ≡ k.pos
unfolding shortened
shortened-pos k left = go (eqb left 0)
  where
    go : (t : Bool) → (cond t (deletion k.pos) (sized k left)).pos ≡ k.pos
    go true = refl
    go false = refl

shortened-covers : (b : ℕ) (k : Key) (left : ℕ) → is_run k ≡ true → of_o (covers b) (op_of (shortened k left)) ≡ in_r (k.pos.offset - left) k.pos.offset b
unfolding shortened
shortened-covers b k left e = go (eqb left 0) refl
  where
    go : (t : Bool) → eqb left 0 ≡ t → of_o (covers b) (op_of (cond t (deletion k.pos) (sized k left))) ≡ in_r (k.pos.offset - left) k.pos.offset b
    go true d = sym (in_r-none (k.pos.offset - left) k.pos.offset b (omega (arith, eqb-true left 0 d)))
    go false d =
        let q = eqb-true k.type 25 (parts (is_set k) (at_inode0 k) e).0 in
        rw (ne_eqb k.type 0 (omega arith), e)

-- ---- the tree under the walk's queue
-- a run of the whole tree
abbrev RunIn : List Key → Key → Type 0
RunIn whole k = (is_run k ≡ true) × (lookup k.pos whole ≡ some k)

module _ (reserved used : Bucket → Bool) (b : ℕ) (whole : List Key) where
  abbrev old_of : Key → ℕ
  old_of j = of_o (covers b) (lookup j.pos whole)

  abbrev new_of : Key → ℕ
  new_of j = of_o (covers b) (op_of j)

  record Swept (w : Walked) : Type 0 where
    plain : reserved (bucket b) ≡ false → total old_of w.queue ≡ total new_of w.queue + count b w.taken
    less : total new_of w.queue ≤ total old_of w.queue
    shut : reserved (bucket b) ≡ true → count b w.taken ≡ 0

  sweep : (need : ℕ) (ks : List Key) → All (RunIn whole) ks → Swept (walk reserved used need ks)
  unfolding walk total buckets_of
  sweep need [] a = record { plain = λ k. refl; less = omega arith; shut = λ k. refl }
  sweep zero (k ∷ ks) a = record { plain = λ k. refl; less = omega arith; shut = λ k. refl }
  sweep (suc n) (k ∷ ks) (more h a) =
      let p = pass reserved used (suc n) (buckets_of k) in
      let r = walk reserved used p.need ks in
      let ih = sweep p.need ks a in
      let y = pass-yields reserved used b ((end_of k).0 - (start_of k).0) (start_of k).0 (end_of k).0 (suc n) (omega arith) in
      let o : old_of (shortened k p.left) ≡ in_r (start_of k).0 (end_of k).0 b =
      ap (λ (q : Bpos). of_o (covers b) (lookup q whole)) (shortened-pos k p.left) ∙ rw (h.1, h.0) in
      let v = shortened-covers b k p.left h.0 in
      let c = total-append (λ (t : Bucket). one (eqb t.0 b)) p.taken r.taken in
      record {
        plain = λ q. omega (arith, y.plain q, ih.plain q);
        less = omega (arith, y.less, ih.less);
        shut = λ q. omega (arith, y.shut q, ih.shut q);
      }

module _ (reserved used : Bucket → Bool) where
  queue-chain : (p : Bpos) (need : ℕ) (ks : List Key) → Chain p ks → Chain p (walk reserved used need ks).queue
  unfolding walk
  queue-chain p need [] c = tt
  queue-chain p zero (k ∷ ks) c = tt
  queue-chain p (suc n) (k ∷ ks) c =
      let w = pass reserved used (suc n) (buckets_of k) in
      let e = sym (shortened-pos k w.left) in
      (ap (cmp p) (sym e) ∙ c.0, subst (λ (q : Bpos). Chain q (walk reserved used w.need ks).queue) e (queue-chain k.pos w.need ks c.1))

  queue-sorted : (need : ℕ) (ks : List Key) → Sorted ks → Sorted (walk reserved used need ks).queue
  unfolding walk
  queue-sorted need [] c = tt
  queue-sorted zero (k ∷ ks) c = tt
  queue-sorted (suc n) (k ∷ ks) c =
      let w = pass reserved used (suc n) (buckets_of k) in
      subst (λ (q : Bpos). Chain q (walk reserved used w.need ks).queue) (sym (shortened-pos k w.left)) (queue-chain k.pos w.need ks c)

-- what the walk does to the cover of b
pub record Covered (reserved used : Bucket → Bool) (need : ℕ) (l : List Key) (b : ℕ) : Type 0 where
  pub plain : reserved (bucket b) ≡ false
      → cover_of l b ≡ cover_of (apply_queue (walk reserved used need (runs_of l)).queue l) b + count b (walk reserved used need (runs_of l)).taken
  pub less : cover_of (apply_queue (walk reserved used need (runs_of l)).queue l) b ≤ cover_of l b
  pub shut : reserved (bucket b) ≡ true → count b (walk reserved used need (runs_of l)).taken ≡ 0

pub covered : (reserved used : Bucket → Bool) (need : ℕ) (l : List Key) (b : ℕ) → Sorted l → Covered reserved used need l b
unfolding runs_of
covered reserved used need l b c =
    let s = sweep reserved used b l need (runs_of l) (all-chosen is_run (lookup-own l c)) in
    let t = total-queue (covers b) (walk reserved used need (runs_of l)).queue l (queue-sorted reserved used need (runs_of l) (sorted-those is_run l c)) c in
    record { plain = λ k. omega (arith, s.plain k); less = omega (arith, s.less); shut = s.shut }
