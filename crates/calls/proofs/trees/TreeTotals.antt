-- Totals over the keys of a sorted tree, before and after a queue.
use mathlib.Core.Path.{◌≡◌, refl, ap, ◌∙◌}
use mathlib.Core.Bool.{Bool, true, false, cond}
use mathlib.Core.List.{List, [], ◌∷◌}
use mathlib.Core.Option.{Option, none, some}
use Prim.Native.Nat.{ℕ, ◌+◌, Ordering}
use native.Mathlib.Omega.{arith}
use lib.Dec.{eqb}
use Rattle.wire.specs.Keys.{Key}
use Rattle.wire.specs.Order.{cmp}
use Rattle.wire.specs.declared.bpos.Bpos.{Bpos}
use Rattle.wire.proofs.OrderLaws.{pos-cmp}
use Rattle.calls.specs.Lists.{total}
use Rattle.calls.specs.Trees.{on_eq, lookup, insert_at, upsert, remove, step, apply_queue}
use Rattle.calls.proofs.trees.SortedLaws.{Chain, Sorted, chain-weak, chain-sorted, sorted-step, lookup-chain}
use Rattle.calls.proofs.trees.TreeLaws.{op_of, lookup-step}

abbrev pub of_o : (Key → ℕ) → Option Key → ℕ
of_o f none = 0
of_o f (some k) = f k

pub total-upsert : (f : Key → ℕ) (k : Key) (l : List Key) → Sorted l → total f (upsert k l) + of_o f (lookup k.pos l) ≡ total f l + f k
unfolding total upsert lookup
total-upsert f k [] c = omega arith
total-upsert f k (x ∷ xs) c = go (cmp k.pos x.pos) refl (total-upsert f k xs (chain-sorted x.pos xs c))
  where
    go : (o : Ordering) → cmp k.pos x.pos ≡ o → total f (upsert k xs) + of_o f (lookup k.pos xs) ≡ total f xs + f k
        → total f (insert_at o k x xs (upsert k xs)) + of_o f (on_eq o (some x) (lookup k.pos xs)) ≡ f x + total f xs + f k
    go Ordering.lt e ih = rw (lookup-chain k.pos xs (chain-weak k.pos x.pos xs e c)) (omega arith)
    go Ordering.eq e ih = omega arith
    go Ordering.gt e ih = omega arith

pub total-remove : (f : Key → ℕ) (q : Bpos) (l : List Key) → Sorted l → total f (remove q l) + of_o f (lookup q l) ≡ total f l
unfolding total remove lookup
total-remove f q [] c = omega arith
total-remove f q (x ∷ xs) c = go (cmp q x.pos) refl (total-remove f q xs (chain-sorted x.pos xs c))
  where
    go : (o : Ordering) → cmp q x.pos ≡ o → total f (remove q xs) + of_o f (lookup q xs) ≡ total f xs
        → total f (on_eq o (remove q xs) (x ∷ remove q xs)) + of_o f (on_eq o (some x) (lookup q xs)) ≡ f x + total f xs
    go Ordering.lt e ih = omega arith
    go Ordering.eq e ih =
        let z : of_o f (lookup q xs) ≡ 0 = rw (lookup-chain q xs (rw (pos-cmp.eq-path q x.pos e) c)) in omega arith
    go Ordering.gt e ih = omega arith

pub total-step : (f : Key → ℕ) (k : Key) (l : List Key) → Sorted l → total f (step k l) + of_o f (lookup k.pos l) ≡ total f l + of_o f (op_of k)
unfolding step
total-step f k l c = go (eqb k.type 0)
  where
    go : (b : Bool) → total f (cond b (remove k.pos l) (upsert k l)) + of_o f (lookup k.pos l) ≡ total f l + of_o f (cond b none (some k))
    go true = omega (arith, total-remove f k.pos l c)
    go false = total-upsert f k l c

-- the old keys that a queue meets, where its positions ascend
same_old : (f : Key → ℕ) (k : Key) (l : List Key) (q : List Key) → Chain k.pos q
    → total (λ (j : Key). of_o f (lookup j.pos (step k l))) q ≡ total (λ (j : Key). of_o f (lookup j.pos l)) q
unfolding total
same_old f k l [] c = refl
same_old f k l (j ∷ js) c =
    let e : lookup j.pos (step k l) ≡ lookup j.pos l = lookup-step j.pos k l ∙ rw (pos-cmp.lt-gt k.pos j.pos c.0) in
    let r = same_old f k l js (chain-weak k.pos j.pos js c.0 c.1) in
    omega (arith, ap (of_o f) e)

pub total-queue : (f : Key → ℕ) (q l : List Key) → Sorted q → Sorted l
    → total f (apply_queue q l) + total (λ (k : Key). of_o f (lookup k.pos l)) q ≡ total f l + total (λ (k : Key). of_o f (op_of k)) q
unfolding total apply_queue
total-queue f [] l s c = refl
total-queue f (k ∷ ks) l s c =
    let a = total-step f k l c in
    let b = total-queue f ks (step k l) (chain-sorted k.pos ks s) (sorted-step k l c) in
    let e = same_old f k l ks s in
    omega arith
