-- The keys of a tree in order: what a queue, a choice and a part of them keep, and what each position holds.
use mathlib.Core.Path.{◌≡◌, refl}
use mathlib.Core.Bool.{Bool, true, false, cond}
use mathlib.Core.List.{List, [], ◌∷◌}
use mathlib.Core.Option.{none, some}
use Prim.Native.Nat.{ℕ, zero, suc, Ordering}
use lib.Dec.{eqb}
use lib.ListN.{take, drop}
use Rattle.wire.specs.Keys.{Key}
use Rattle.wire.specs.Order.{cmp, pos_less}
use Rattle.wire.specs.Bytes.{All, none as nothing, more}
use Rattle.wire.specs.declared.bpos.Bpos.{Bpos}
use Rattle.wire.proofs.OrderLaws.{pos-cmp, less-cmp, cmp-less}
use Rattle.calls.specs.Lists.{all_of, those, in_order}
use Rattle.calls.specs.CallList.{keys_ok}
use Rattle.calls.specs.Trees.{on_eq, lookup, insert_at, upsert, remove, step, apply_queue}
use Rattle.calls.proofs.lists.AllLaws.{all_join}
use Rattle.calls.proofs.lists.BoolLaws.{both, parts}

-- keys ascend from a position on
abbrev pub Chain : Bpos → List Key → Type 0
Chain p [] = Unit {0}
Chain p (x ∷ xs) = (cmp p x.pos ≡ Ordering.lt) × Chain x.pos xs

abbrev pub Sorted : List Key → Type 0
Sorted [] = Unit {0}
Sorted (x ∷ xs) = Chain x.pos xs

pub chain-weak : (p q : Bpos) (l : List Key) → cmp p q ≡ Ordering.lt → Chain q l → Chain p l
chain-weak p q [] h c = tt
chain-weak p q (x ∷ xs) h c = (pos-cmp.trans p q x.pos h c.0, c.1)

pub chain-sorted : (p : Bpos) (l : List Key) → Chain p l → Sorted l
chain-sorted p [] c = tt
chain-sorted p (x ∷ xs) c = c.1

-- ---- a queue
pub chain-upsert : (p : Bpos) (k : Key) (l : List Key) → cmp p k.pos ≡ Ordering.lt → Chain p l → Chain p (upsert k l)
unfolding upsert
chain-upsert p k [] h c = (h, tt)
chain-upsert p k (x ∷ xs) h c = go (cmp k.pos x.pos) refl (λ g. chain-upsert x.pos k xs g c.1)
  where
    go : (o : Ordering) → cmp k.pos x.pos ≡ o → (cmp x.pos k.pos ≡ Ordering.lt → Chain x.pos (upsert k xs)) → Chain p (insert_at o k x xs (upsert k xs))
    go Ordering.lt e ih = (h, (e, c.1))
    go Ordering.eq e ih = (h, rw (pos-cmp.eq-path k.pos x.pos e) c.1)
    go Ordering.gt e ih = (c.0, ih (pos-cmp.gt-lt k.pos x.pos e))

pub sorted-upsert : (k : Key) (l : List Key) → Sorted l → Sorted (upsert k l)
unfolding upsert
sorted-upsert k [] c = tt
sorted-upsert k (x ∷ xs) c = go (cmp k.pos x.pos) refl
  where
    go : (o : Ordering) → cmp k.pos x.pos ≡ o → Sorted (insert_at o k x xs (upsert k xs))
    go Ordering.lt e = (e, c)
    go Ordering.eq e = rw (pos-cmp.eq-path k.pos x.pos e) c
    go Ordering.gt e = chain-upsert x.pos k xs (pos-cmp.gt-lt k.pos x.pos e) c

pub chain-remove : (p q : Bpos) (l : List Key) → Chain p l → Chain p (remove q l)
unfolding remove
chain-remove p q [] c = tt
chain-remove p q (x ∷ xs) c = go (cmp q x.pos) (chain-remove x.pos q xs c.1)
  where
    go : (o : Ordering) → Chain x.pos (remove q xs) → Chain p (on_eq o (remove q xs) (x ∷ remove q xs))
    go Ordering.lt ih = (c.0, ih)
    go Ordering.eq ih = chain-weak p x.pos (remove q xs) c.0 ih
    go Ordering.gt ih = (c.0, ih)

pub sorted-remove : (q : Bpos) (l : List Key) → Sorted l → Sorted (remove q l)
unfolding remove
sorted-remove q [] c = tt
sorted-remove q (x ∷ xs) c = go (cmp q x.pos) (chain-remove x.pos q xs c)
  where
    go : (o : Ordering) → Chain x.pos (remove q xs) → Sorted (on_eq o (remove q xs) (x ∷ remove q xs))
    go Ordering.lt ih = ih
    go Ordering.eq ih = chain-sorted x.pos (remove q xs) ih
    go Ordering.gt ih = ih

pub sorted-step : (k : Key) (l : List Key) → Sorted l → Sorted (step k l)
unfolding step
sorted-step k l c = go (eqb k.type 0)
  where
    go : (b : Bool) → Sorted (cond b (remove k.pos l) (upsert k l))
    go true = sorted-remove k.pos l c
    go false = sorted-upsert k l c

pub sorted-apply_queue : (q l : List Key) → Sorted l → Sorted (apply_queue q l)
unfolding apply_queue
sorted-apply_queue [] l c = c
sorted-apply_queue (k ∷ ks) l c = sorted-apply_queue ks (step k l) (sorted-step k l c)

-- ---- a choice, and a part
chain-those : (f : Key → Bool) (p : Bpos) (l : List Key) → Chain p l → Chain p (those f l)
unfolding those
chain-those f p [] c = tt
chain-those f p (k ∷ ks) c = go (f k) (chain-those f k.pos ks c.1)
  where
    go : (t : Bool) → Chain k.pos (those f ks) → Chain p (cond t (k ∷ those f ks) (those f ks))
    go true h = (c.0, h)
    go false h = chain-weak p k.pos (those f ks) c.0 h

pub sorted-those : (f : Key → Bool) (l : List Key) → Sorted l → Sorted (those f l)
unfolding those
sorted-those f [] c = tt
sorted-those f (k ∷ ks) c = go (f k) (chain-those f k.pos ks c)
  where
    go : (t : Bool) → Chain k.pos (those f ks) → Sorted (cond t (k ∷ those f ks) (those f ks))
    go true h = h
    go false h = chain-sorted k.pos (those f ks) h

chain-take : (p : Bpos) (n : ℕ) (l : List Key) → Chain p l → Chain p (take n l)
chain-take p zero l c = tt
chain-take p (suc n) [] c = tt
chain-take p (suc n) (x ∷ xs) c = (c.0, chain-take x.pos n xs c.1)

pub sorted-take : (n : ℕ) (l : List Key) → Sorted l → Sorted (take n l)
sorted-take zero l s = tt
sorted-take (suc n) [] s = tt
sorted-take (suc n) (x ∷ xs) s = chain-take x.pos n xs s

pub sorted-drop : (n : ℕ) (l : List Key) → Sorted l → Sorted (drop n l)
sorted-drop zero l s = s
sorted-drop (suc n) [] s = tt
sorted-drop (suc n) (x ∷ xs) s = sorted-drop n xs (chain-sorted x.pos xs s)

-- ---- what each position holds
pub lookup-chain : (p : Bpos) (l : List Key) → Chain p l → lookup p l ≡ none
unfolding lookup
lookup-chain p [] c = refl
lookup-chain p (x ∷ xs) c = rw c.0 (lookup-chain p xs (chain-weak p x.pos xs c.0 c.1))

pub all-chain : (p : Bpos) (l : List Key) → Chain p l → All (λ (k : Key). cmp p k.pos ≡ Ordering.lt) l
all-chain p [] c = nothing
all-chain p (x ∷ xs) c = more c.0 (all-chain p xs (chain-weak p x.pos xs c.0 c.1))

-- in a sorted tree each key is found at its own position
pub lookup-own : (l : List Key) → Sorted l → All (λ (k : Key). lookup k.pos l ≡ some k) l
unfolding lookup
lookup-own [] c = nothing
lookup-own (x ∷ xs) c =
    more {a = x} (rw (pos-cmp.same x.pos))
    (all_join (λ k h d. rw (pos-cmp.lt-gt x.pos k.pos d) h) (lookup-own xs (chain-sorted x.pos xs c)) (all-chain x.pos xs c))

-- ---- the test of a layout
abbrev pub before : Key → Key → Bool
before a b = pos_less a.pos b.pos

pub order-sorted : (l : List Key) → in_order before l ≡ true → Sorted l
unfolding in_order
order-sorted [] h = tt
order-sorted (x ∷ xs) h = go x xs h
  where
    go : (x : Key) (xs : List Key) → in_order before (x ∷ xs) ≡ true → Chain x.pos xs
    go x [] h = tt
    go x (y ∷ ys) h = let p = parts (before x y) (in_order before (y ∷ ys)) h in (less-cmp x.pos y.pos p.0, go y ys p.1)

pub sorted-order : (l : List Key) → Sorted l → in_order before l ≡ true
unfolding in_order
sorted-order [] h = refl
sorted-order (x ∷ []) h = refl
sorted-order (x ∷ y ∷ ys) h = both (cmp-less x.pos y.pos h.0) (sorted-order (y ∷ ys) h.1)

-- the snapshots of a tree are 0
abbrev pub NoSnapshots : List Key → Type 0
NoSnapshots l = all_of (λ k. eqb k.pos.snapshot 0) l ≡ true

abbrev pub InOrder : List Key → Type 0
InOrder l = Sorted l × NoSnapshots l

pub keys-order : (l : List Key) → keys_ok l ≡ true → InOrder l
unfolding keys_ok
keys-order l h =
    let p = parts (in_order before l) (all_of (λ k. eqb k.pos.snapshot 0) l) h in
    (order-sorted l p.0, p.1)
