-- The buckets that a walk takes ascend strictly.
use mathlib.Core.Path.{◌≡◌, refl, sym, ◌∙◌}
use mathlib.Core.Bool.{Bool, true, false, cond}
use mathlib.Core.List.{List, [], ◌∷◌, ◌++◌}
use Prim.Native.Nat.{Ordering}
use Prim.Native.Nat.{ℕ, zero, suc, ◌+◌, ◌-◌, ◌≤◌, ◌<◌}
use native.Mathlib.Omega.{arith}
use native.Mathlib.Nat.{zero-add}
use lib.Dec.{ltb, eqb}
use lib.ListN.{length}
use borrow.Author.Tests.{lt-ltb, ltb-true, ltb-false, eqb-true, ne_eqb}
use Rattle.wire.specs.Keys.{Key}
use Rattle.wire.specs.Fields.{Field, fields, whole}
use Rattle.wire.specs.Order.{cmp}
use Rattle.wire.specs.Kinds.{bucket_below, buckets_from}
use Rattle.wire.specs.declared.kinds.Bucket.{Bucket}
use Rattle.wire.specs.declared.bpos.Bpos.{Bpos}
use Rattle.wire.specs.Bytes.{All, none, more}
use Rattle.wire.proofs.OrderLaws.{cmp-less, offset-more}
use Rattle.calls.specs.Lists.{all_of, any_of, in_order, total, one}
use Rattle.calls.specs.CallList.{Volume, CallList, Shape, shaped, volume_shapes, request_shapes, bodies, all_trees, snapshots_ok, keys_ascend, head_ok, trees_ok, laid_out, call_laid_out, none_twice}
use Rattle.calls.specs.Limits.{is_set, is_run, at_inode0}
use Rattle.calls.specs.Freespace.{is_in, runs_of, start_of, end_of, buckets_of, overlap, overlaps, is_used, pass, walk}
use Rattle.calls.specs.Pieces.{buckets_needed}
use Rattle.calls.specs.Place.{slots_of, walk_of}
use Rattle.calls.specs.Answers.{read_call, read_volume}
use Rattle.calls.proofs.lists.AllLaws.{all-imp, all-each, all-chosen}
use Rattle.calls.proofs.freespace.UpLaws.{Up, order-up, up-order, up-weak}
use Rattle.calls.proofs.lists.BoolLaws.{clash, parts, neither}
use Rattle.calls.proofs.freespace.BucketLaws.{count}
use Rattle.calls.proofs.trees.SixTrees.{trees-order, trees-ok}
use Rattle.calls.proofs.trees.SortedLaws.{Chain, Sorted, chain-weak, chain-sorted, lookup-own, sorted-those}
use Rattle.calls.proofs.history.View.{bucket}

-- ---- one run
-- buckets from a number on, ascending, that end below another
abbrev UpTo : ℕ → ℕ → List Bucket → Type 0
UpTo n e [] = n ≤ e
UpTo n e (b ∷ bs) = (n ≤ b.0) × UpTo (suc b.0) e bs

up-to-weak : (m n e : ℕ) (bs : List Bucket) → m ≤ n → UpTo n e bs → UpTo m e bs
up-to-weak m n e [] l h = omega arith
up-to-weak m n e (b ∷ bs) l h = (omega (arith, h.0), h.1)

-- and others after them
up-to-join : (n e : ℕ) (bs cs : List Bucket) → UpTo n e bs → Up e cs → Up n (bs ++ cs)
up-to-join n e [] cs h u = up-weak n e cs h u
up-to-join n e (b ∷ bs) cs h u = (h.0, up-to-join (suc b.0) e bs cs h.1 u)

module _ (reserved used : Bucket → Bool) where
  pass_up : (m at e need : ℕ) → e ≡ at + m → UpTo at e (pass reserved used need (buckets_from m (bucket at))).taken
  unfolding pass buckets_from
  pass_up zero at e need h = omega arith
  pass_up (suc m) at e zero h = omega arith
  pass_up (suc m) at e (suc n) h =
      let later = (pass reserved used (cond (reserved (bucket at)) (suc n) n) (buckets_from m (bucket (at + 1)))).taken in
      let u = pass_up m (at + 1) e (cond (reserved (bucket at)) (suc n) n) (omega arith) in
      go (reserved (bucket at)) later u
    where
      go : (t : Bool) (bs : List Bucket) → UpTo (at + 1) e bs → UpTo at e (cond t bs (bucket at ∷ bs))
      go true bs u = up-to-weak at (at + 1) e bs (omega arith) u
      go false bs u = (omega arith, up-to-weak (suc at) (at + 1) e bs (omega arith) u)

  -- of an empty run none is taken
  pass-empty : (k : Key) (need : ℕ) → (end_of k).0 ≤ (start_of k).0 → (pass reserved used need (buckets_of k)).taken ≡ []
  unfolding pass buckets_of buckets_from
  pass-empty k need h = let z : (end_of k).0 - (start_of k).0 ≡ 0 = omega arith in rw z

  -- of another, from its start on and below its end
  pass-within : (k : Key) (need : ℕ) → (start_of k).0 ≤ (end_of k).0 → UpTo (start_of k).0 (end_of k).0 (pass reserved used need (buckets_of k)).taken
  unfolding buckets_of
  pass-within k need h = pass_up ((end_of k).0 - (start_of k).0) (start_of k).0 (end_of k).0 need (omega arith)

-- ---- the runs after it
-- a run that is not empty
abbrev is_some : Key → Bool
is_some k = bucket_below (start_of k) (end_of k)

-- it starts from a number on
abbrev From : ℕ → Key → Type 0
From n k = is_some k ≡ true → n ≤ (start_of k).0

-- positions of one inode ascend by their offsets
offset-after : (p q : Bpos) → p.inode ≡ q.inode → cmp p q ≡ Ordering.lt → p.offset ≤ q.offset
offset-after p q i c = go (ltb q.offset p.offset) refl
  where
    go : (t : Bool) → ltb q.offset p.offset ≡ t → p.offset ≤ q.offset
    go true e = absurd (clash (cmp-less p q c) (offset-more p q i (ltb-true q.offset p.offset e)))
    go false e = omega (arith, ltb-false q.offset p.offset e)

-- one that does not overlap a run before it starts from its end on
from_end : (k j : Key) → is_some k ≡ true → (end_of k).0 ≤ (end_of j).0 → overlap k j ≡ false → From (end_of k).0 j
unfolding overlap
from_end k j s l o t = go (bucket_below (start_of j) (end_of k)) refl
  where
    go : (u : Bool) → bucket_below (start_of j) (end_of k) ≡ u → (end_of k).0 ≤ (start_of j).0
    go true e =
        let b = lt-ltb (start_of k).0 (end_of j).0 (omega (arith, ltb-true (start_of k).0 (end_of k).0 s)) in
        absurd (clash (rw (s, t, b, e)) o)
    go false e = omega (arith, ltb-false (start_of j).0 (end_of k).0 e)

abbrev Inode0 : Key → Type 0
Inode0 k = k.pos.inode ≡ 0

from-ends : (k : Key) (ks : List Key) → is_some k ≡ true → Inode0 k → All Inode0 ks → Chain k.pos ks → any_of (overlap k) ks ≡ false
    → All (From (end_of k).0) ks
unfolding any_of
from-ends k [] s i a c o = none
from-ends k (j ∷ js) s i (more h a) c o =
    let n = neither (overlap k j) (any_of (overlap k) js) o in
    more {a = j} (from_end k j s (offset-after k.pos j.pos (i ∙ sym h) c.0) n.0)
    (from-ends k js s i a (chain-weak k.pos j.pos js c.0 c.1) n.1)

-- ---- the walk
module _ (reserved used : Bucket → Bool) where
  walk_up : (n need : ℕ) (ks : List Key) → Sorted ks → All Inode0 ks → overlaps ks ≡ false → All (From n) ks
      → Up n (walk reserved used need ks).taken
  unfolding walk overlaps
  walk_up n need [] c a o f = tt
  walk_up n zero (k ∷ ks) c a o f = tt
  walk_up n (suc need) (k ∷ ks) c (more i a) o (more f r) =
      let p = pass reserved used (suc need) (buckets_of k) in
      let d = neither (any_of (overlap k) ks) (overlaps ks) o in
      let s = chain-sorted k.pos ks c in
      go (is_some k) refl d.0 (walk reserved used p.need ks).taken (λ m b. walk_up m p.need ks s a d.1 b)
    where
      go : (t : Bool) → is_some k ≡ t → any_of (overlap k) ks ≡ false → (bs : List Bucket) → ((m : ℕ) → All (From m) ks → Up m bs)
          → Up n ((pass reserved used (suc need) (buckets_of k)).taken ++ bs)
      go true e d bs ih =
          let l = ltb-true (start_of k).0 (end_of k).0 e in
          let front = (pass reserved used (suc need) (buckets_of k)).taken in
          up-to-join n (end_of k).0 front bs
          (up-to-weak n (start_of k).0 (end_of k).0 front (f e) (pass-within reserved used k (suc need) (omega arith)))
          (ih (end_of k).0 (from-ends k ks e i a c d))
      go false e d bs ih =
          rw (pass-empty reserved used k (suc need) (omega (arith, ltb-false (start_of k).0 (end_of k).0 e))) (ih n r)

  -- over the runs of a tree in order that do not overlap
  pub walk-taken-ascend : (need : ℕ) (l : List Key) → Sorted l → overlaps (runs_of l) ≡ false
      → in_order bucket_below (walk reserved used need (runs_of l)).taken ≡ true
  unfolding runs_of
  walk-taken-ascend need l c o =
      let inodes : All Inode0 (runs_of l) =
      all-imp (λ k h. eqb-true k.pos.inode 0 (parts (is_set k) (at_inode0 k) h.0).1) (all-chosen is_run (lookup-own l c)) in
      up-order 0 (walk reserved used need (runs_of l)).taken
      (walk_up 0 need (runs_of l) (sorted-those is_run l c) inodes o (all-each (λ k e. omega arith) (runs_of l)))

-- ---- none twice
-- a bucket below the number from which on a list ascends is not in it, and any other at most once
up_none : (b n : ℕ) (ts : List Bucket) → b < n → Up n ts → count b ts ≡ 0
unfolding total
up_none b n [] l u = refl
up_none b n (t ∷ ts) l u = rw (ne_eqb t.0 b (λ e. omega (arith, u.0)), zero-add) (up_none b (suc t.0) ts (omega (arith, u.0)) u.1)

up-once : (b n : ℕ) (ts : List Bucket) → Up n ts → count b ts ≤ 1
unfolding total
up-once b n [] u = omega arith
up-once b n (t ∷ ts) u = go (eqb t.0 b) refl (up-once b (suc t.0) ts u.1)
  where
    go : (x : Bool) → eqb t.0 b ≡ x → count b ts ≤ 1 → one x + count b ts ≤ 1
    go true e ih = omega (arith, up_none b (suc t.0) ts (omega (arith, eqb-true t.0 b e)) u.1)
    go false e ih = omega (arith, ih)

pub ascend-once : (b : ℕ) (ts : List Bucket) → in_order bucket_below ts ≡ true → count b ts ≤ 1
ascend-once b ts h = up-once b 0 ts (order-up ts h)

-- ---- a placement
-- the trees of a call list that is laid out right and has no position twice
pub call-trees : (call : ℕ) (s : List ℕ) → call_laid_out call s ≡ true → none_twice (read_volume s) ≡ true → trees_ok (read_volume s).trees ≡ true
unfolding call_laid_out laid_out none_twice
call-trees call s h o =
    let fs : List Field = fields s in
    let v : Volume = read_volume s in
    let ss : List Shape = volume_shapes ++ request_shapes call in
    let a = parts (whole s) _ (parts (laid_out ss s) (eqb v.head.call call) h).0 in
    let b = parts (all_of (shaped ss) fs) _ a.1 in
    let c = parts (eqb (length (bodies 1 fs)) 1) _ b.1 in
    let d = parts (head_ok v.head) (all_trees snapshots_ok v.trees) c.1 in
    trees-ok v.trees (parts (all_trees keys_ascend v.trees) (in_order bucket_below v.reserved) o).0 d.1

-- those that a placement takes, where the trees are in order and refusal 10 does not come
pub place-taken-ascend : (c : CallList) → trees_ok c.volume.trees ≡ true → overlaps (runs_of c.volume.trees.freespace) ≡ false
    → in_order bucket_below (walk_of c).taken ≡ true
unfolding walk_of
place-taken-ascend c h o =
    walk-taken-ascend (is_in c.volume.reserved) (is_used c.volume.trees.alloc) (buckets_needed (slots_of c)) c.volume.trees.freespace
    (trees-order h).freespace.0 o

-- and of a list that passes place's tests 2, 22 and 10
pub laid-taken-ascend : (s : List ℕ) → call_laid_out 1 s ≡ true → none_twice (read_volume s) ≡ true → overlaps (runs_of (read_volume s).trees.freespace) ≡ false
    → in_order bucket_below (walk_of (read_call s)).taken ≡ true
laid-taken-ascend s h n o = place-taken-ascend (read_call s) (call-trees 1 s h n) o
