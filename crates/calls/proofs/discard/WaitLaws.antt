-- The need-discard tree: which buckets its keys name after the queue of a release or of a discard.
use mathlib.Core.Path.{◌≡◌, refl, ap, sym, ◌∙◌}
use mathlib.Core.Bool.{Bool, true, false, ◌&&◌, ◌||◌, cond}
use mathlib.Core.List.{List, [], ◌∷◌, map, flat_map}
use mathlib.Core.Option.{Option, none, some}
use Prim.Native.Nat.{ℕ, ◌≤◌, Ordering}
use native.Mathlib.Omega.{arith}
use lib.Dec.{ltb, eqb}
use borrow.Author.Tests.{eqb-true, eqb-false, ne_eqb}
use Rattle.wire.specs.Keys.{Key}
use Rattle.wire.specs.Kinds.{same_bucket}
use Rattle.wire.specs.Order.{cmp}
use Rattle.wire.specs.Positions.{bucket_in, need_discard_at}
use Rattle.wire.specs.Bytes.{All, none as nothing, more}
use Rattle.wire.specs.declared.bpos.Bpos.{Bpos}
use Rattle.wire.specs.declared.kinds.Bucket.{Bucket}
use Rattle.wire.proofs.NumberLaws.{all_append}
use Rattle.wire.proofs.OrderLaws.{pos-cmp}
use Rattle.calls.specs.Lists.{any_of, total, is_none, from_option, one}
use Rattle.calls.specs.Limits.{is_set}
use Rattle.calls.specs.Trees.{on_eq, lookup, insert_at, upsert, step, apply_queue, new_key, deletion}
use Rattle.calls.specs.Freespace.{is_in}
use Rattle.calls.specs.Lru.{need_discard_key}
use Rattle.calls.specs.Discard.{waiting_key, waiting_deletions}
use Rattle.calls.proofs.lists.AllLaws.{all-imp}
use Rattle.calls.proofs.lists.BoolLaws.{parts, neither, or_same, or_swap, or-shift, or_some, and_le_right}
use Rattle.calls.proofs.trees.SortedLaws.{Sorted, sorted-step}
use Rattle.calls.proofs.trees.TreeLaws.{op_of, same-offset}
use Rattle.calls.proofs.trees.TreeTotals.{of_o, total-step}
use Rattle.calls.proofs.history.View.{bucket, named}

-- a key names b
abbrev waits_for : ℕ → Key → Bool
waits_for b k = is_set k && same_bucket (bucket_in k.pos) (bucket b)

-- ---- a key for each bucket of a list
or_set : (s t u : Bool) → (t || u) ≡ (t || ((s && t) || u))
or_set true t u = or_same t u
or_set false t u = refl

named-upsert : (b : ℕ) (k : Key) (l : List Key) → is_set k ≡ true → named (upsert k l) b ≡ (same_bucket (bucket_in k.pos) (bucket b) || named l b)
unfolding any_of upsert
named-upsert b k [] s = rw s
named-upsert b k (x ∷ xs) s = go (cmp k.pos x.pos) refl (named-upsert b k xs s)
  where
    go : (o : Ordering) → cmp k.pos x.pos ≡ o → named (upsert k xs) b ≡ (same_bucket (bucket_in k.pos) (bucket b) || named xs b)
        → named (insert_at o k x xs (upsert k xs)) b ≡ (same_bucket (bucket_in k.pos) (bucket b) || (waits_for b x || named xs b))
    go Ordering.lt e ih = rw s
    go Ordering.eq e ih =
        let d = ap (λ (p : Bpos). same_bucket (bucket_in p) (bucket b)) (pos-cmp.eq-path k.pos x.pos e) in
        rw (s, d) (or_set (is_set x) (same_bucket (bucket_in x.pos) (bucket b)) (named xs b))
    go Ordering.gt e ih = rw ih (or_swap (waits_for b x) (same_bucket (bucket_in k.pos) (bucket b)) (named xs b))

named_step : (journal b : ℕ) (c : Bucket) (l : List Key) → named (step (need_discard_key journal c) l) b ≡ (same_bucket c (bucket b) || named l b)
unfolding step need_discard_key
named_step journal b c l = named-upsert b (new_key 25 0 (need_discard_at journal c) []) l refl

-- a key for each bucket of a list: those wait, and all that did
pub named-queue : (journal b : ℕ) (bs : List Bucket) (l : List Key)
    → named (apply_queue (map (need_discard_key journal) bs) l) b ≡ (is_in bs (bucket b) || named l b)
unfolding apply_queue is_in any_of
named-queue journal b [] l = refl
named-queue journal b (c ∷ cs) l =
    named-queue journal b cs (step (need_discard_key journal c) l)
    ∙ rw (named_step journal b c l) (or-shift (is_in cs (bucket b)) (same_bucket c (bucket b)) (named l b))

-- ---- deletions at other buckets
abbrev names : ℕ → Key → ℕ
names b k = one (waits_for b k)

named-total : (b : ℕ) (l : List Key) → named l b ≡ ltb 0 (total (names b) l)
unfolding any_of total
named-total b [] = refl
named-total b (k ∷ ks) = or_some (waits_for b k) (named ks b) (total (names b) ks) (named-total b ks)

old-le : (b : ℕ) (p : Bpos) (l : List Key) → of_o (names b) (lookup p l) ≤ one (same_bucket (bucket_in p) (bucket b))
unfolding lookup
old-le b p [] = omega arith
old-le b p (x ∷ xs) = go (cmp p x.pos) refl (old-le b p xs)
  where
    go : (o : Ordering) → cmp p x.pos ≡ o → of_o (names b) (lookup p xs) ≤ one (same_bucket (bucket_in p) (bucket b))
        → of_o (names b) (on_eq o (some x) (lookup p xs)) ≤ one (same_bucket (bucket_in p) (bucket b))
    go Ordering.lt e ih = ih
    go Ordering.gt e ih = ih
    go Ordering.eq e ih = rw (same-offset p x.pos e) (and_le_right (is_set x) (same_bucket (bucket_in x.pos) (bucket b)))

abbrev Deletes : (ℕ → Type 0) → Key → Type 0
Deletes P k = (k.type ≡ 0) × P k.pos.offset

pub named-apart : (b : ℕ) (q l : List Key) → Sorted l → All (Deletes (λ c. c ≡ b → ⊥)) q → named (apply_queue q l) b ≡ named l b
unfolding apply_queue
named-apart b q l s a = named-total b (apply_queue q l) ∙ ap (ltb 0) (go q l s a) ∙ sym (named-total b l)
  where
    go : (q l : List Key) → Sorted l → All (Deletes (λ c. c ≡ b → ⊥)) q → total (names b) (apply_queue q l) ≡ total (names b) l
    go [] l s a = refl
    go (k ∷ ks) l s (more h a) =
        let z : one (eqb k.pos.offset b) ≡ 0 = rw (ne_eqb k.pos.offset b h.1) in
        let y : of_o (names b) (op_of k) ≡ 0 = rw h.0 in
        omega (arith, go ks (step k l) (sorted-step k l s) a, total-step (names b) k l s, old-le b k.pos l)

abbrev OfBucket : Bucket → Option Key → Type 0
OfBucket b none = Unit {0}
OfBucket b (some k) = k.pos.offset ≡ b.0

waiting-of : (l : List Key) (b : Bucket) → OfBucket b (waiting_key l b)
unfolding waiting_key
waiting-of [] b = tt
waiting-of (k ∷ ks) b = go (waiting_key ks b) (waiting-of ks b) (is_set k && same_bucket (bucket_in k.pos) b) refl
  where
    go : (o : Option Key) → OfBucket b o → (t : Bool) → (is_set k && same_bucket (bucket_in k.pos) b) ≡ t → OfBucket b (cond (is_none o) (cond t (some k) none) o)
    go none h true e = eqb-true k.pos.offset b.0 (parts (is_set k) (same_bucket (bucket_in k.pos) b) e).1
    go none h false e = tt
    go (some x) h t e = h

deletes-of : (b : Bucket) (o : Option Key) → OfBucket b o → All (Deletes (λ c. c ≡ b.0)) (from_option [] (λ k. deletion k.pos ∷ []) o)
deletes-of b none h = nothing
deletes-of b (some k) h = more (refl, h) nothing

pub deletions-apart : (b : ℕ) (l : List Key) (bs : List Bucket) → is_in bs (bucket b) ≡ false → All (Deletes (λ c. c ≡ b → ⊥)) (flat_map (waiting_deletions l) bs)
unfolding is_in any_of flat_map waiting_deletions
deletions-apart b l [] e = nothing
deletions-apart b l (c ∷ cs) e =
    let n = neither (same_bucket c (bucket b)) (is_in cs (bucket b)) e in
    all_append
    (all-imp (λ k h. (h.0, λ q. eqb-false c.0 b n.0 (sym h.1 ∙ q)))
    (deletes-of c (waiting_key l c) (waiting-of l c)))
    (deletions-apart b l cs n.1)
