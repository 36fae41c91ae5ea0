-- What a tree holds at a position, also after a queue.
use mathlib.Core.Path.{◌≡◌, refl, ap, sym, ◌∙◌, subst}
use mathlib.Core.Bool.{Bool, true, false, cond}
use mathlib.Core.List.{List, [], ◌∷◌}
use mathlib.Core.Option.{Option, none, some, none-ne-some, some-injective}
use Prim.Native.Nat.{Ordering, ℕ}
use native.Mathlib.Omega.{arith}
use lib.Dec.{eqb}
use Rattle.wire.specs.Keys.{Key}
use Rattle.wire.specs.Order.{cmp}
use Rattle.wire.specs.declared.bpos.Bpos.{Bpos}
use Rattle.wire.specs.Bytes.{All, none as nothing, more}
use Rattle.wire.proofs.OrderLaws.{pos-cmp, lt≢eq, gt≢eq}
use Rattle.calls.specs.Trees.{on_eq, lookup, insert_at, upsert, remove, step, apply_queue}

-- what a queued key leaves at its position
abbrev pub op_of : Key → Option Key
op_of k = cond (eqb k.type 0) none (some k)

-- what a queue leaves at a position
abbrev pub last_op : Bpos → List Key → Option Key → Option Key
last_op p [] old = old
last_op p (k ∷ ks) old = last_op p ks (on_eq (cmp p k.pos) (op_of k) old)

on_eq-same : {A : Type 0} (o : Ordering) (a b c : A) → on_eq o a b ≡ on_eq o a (on_eq o c b)
on_eq-same Ordering.lt a b c = refl
on_eq-same Ordering.eq a b c = refl
on_eq-same Ordering.gt a b c = refl

on_eq-swap : {A : Type 0} (o p : Ordering) (a b c : A) → (o ≡ Ordering.eq → p ≡ Ordering.eq → ⊥) → on_eq o a (on_eq p b c) ≡ on_eq p b (on_eq o a c)
on_eq-swap Ordering.lt p a b c h = refl
on_eq-swap Ordering.gt p a b c h = refl
on_eq-swap Ordering.eq Ordering.lt a b c h = refl
on_eq-swap Ordering.eq Ordering.gt a b c h = refl
on_eq-swap Ordering.eq Ordering.eq a b c h = absurd (h refl refl)

-- equal positions compare alike
like : (p q r : Bpos) → cmp q r ≡ Ordering.eq → cmp p r ≡ cmp p q
like p q r e = rw (pos-cmp.eq-path q r e)

-- no position is equal to two that differ
apart : (p q r : Bpos) (o : Ordering) → cmp q r ≡ o → (o ≡ Ordering.eq → ⊥) → cmp p q ≡ Ordering.eq → cmp p r ≡ Ordering.eq → ⊥
apart p q r o e n a b = n (sym e ∙ rw (← pos-cmp.eq-path p q a, b))

pub lookup-upsert : (p : Bpos) (k : Key) (l : List Key) → lookup p (upsert k l) ≡ on_eq (cmp p k.pos) (some k) (lookup p l)
unfolding lookup upsert
lookup-upsert p k [] = refl
lookup-upsert p k (x ∷ xs) = go (cmp k.pos x.pos) refl (lookup-upsert p k xs)
  where
    go : (o : Ordering) → cmp k.pos x.pos ≡ o → lookup p (upsert k xs) ≡ on_eq (cmp p k.pos) (some k) (lookup p xs)
        → lookup p (insert_at o k x xs (upsert k xs)) ≡ on_eq (cmp p k.pos) (some k) (lookup p (x ∷ xs))
    go Ordering.lt e ih = refl
    go Ordering.eq e ih = rw (like p k.pos x.pos e) (on_eq-same (cmp p k.pos) (some k) (lookup p xs) (some x))
    go Ordering.gt e ih = rw ih (on_eq-swap (cmp p x.pos) (cmp p k.pos) (some x) (some k) (lookup p xs) (λ a b. apart p k.pos x.pos Ordering.gt e gt≢eq b a))

on_eq-none : {A : Type 0} (o : Ordering) (a : A) → a ≡ on_eq o a a
on_eq-none Ordering.lt a = refl
on_eq-none Ordering.eq a = refl
on_eq-none Ordering.gt a = refl

pub lookup-remove : (p q : Bpos) (l : List Key) → lookup p (remove q l) ≡ on_eq (cmp p q) none (lookup p l)
unfolding lookup remove
lookup-remove p q [] = on_eq-none (cmp p q) none
lookup-remove p q (x ∷ xs) = go (cmp q x.pos) refl (lookup-remove p q xs)
  where
    go : (o : Ordering) → cmp q x.pos ≡ o → lookup p (remove q xs) ≡ on_eq (cmp p q) none (lookup p xs)
        → lookup p (on_eq o (remove q xs) (x ∷ remove q xs)) ≡ on_eq (cmp p q) none (lookup p (x ∷ xs))
    go Ordering.lt e ih = rw ih (on_eq-swap (cmp p x.pos) (cmp p q) (some x) none (lookup p xs) (λ a b. apart p q x.pos Ordering.lt e lt≢eq b a))
    go Ordering.eq e ih = rw (ih, like p q x.pos e) (on_eq-same (cmp p q) none (lookup p xs) (some x))
    go Ordering.gt e ih = rw ih (on_eq-swap (cmp p x.pos) (cmp p q) (some x) none (lookup p xs) (λ a b. apart p q x.pos Ordering.gt e gt≢eq b a))

pub lookup-step : (p : Bpos) (k : Key) (l : List Key) → lookup p (step k l) ≡ on_eq (cmp p k.pos) (op_of k) (lookup p l)
unfolding step
lookup-step p k l = go (eqb k.type 0)
  where
    go : (b : Bool) → lookup p (cond b (remove k.pos l) (upsert k l)) ≡ on_eq (cmp p k.pos) (cond b none (some k)) (lookup p l)
    go true = lookup-remove p k.pos l
    go false = lookup-upsert p k l

pub lookup-apply_queue : (p : Bpos) (q l : List Key) → lookup p (apply_queue q l) ≡ last_op p q (lookup p l)
unfolding apply_queue
lookup-apply_queue p [] l = refl
lookup-apply_queue p (k ∷ ks) l = lookup-apply_queue p ks (step k l) ∙ ap (λ (o : Option Key). last_op p ks o) (lookup-step p k l)

-- equal positions have one offset
pub same-offset : (p q : Bpos) → cmp p q ≡ Ordering.eq → p.offset ≡ q.offset
same-offset p q e = ap (λ (r : Bpos). r.offset) (pos-cmp.eq-path p q e)

pub on_eq-ne : {A : Type 0} (o : Ordering) (a b : A) → (o ≡ Ordering.eq → ⊥) → on_eq o a b ≡ b
on_eq-ne Ordering.lt a b h = refl
on_eq-ne Ordering.eq a b h = absurd (h refl)
on_eq-ne Ordering.gt a b h = refl

-- what is found is one of the keys, at its position
pub lookup-pos : (p : Bpos) (l : List Key) (k : Key) → lookup p l ≡ some k → k.pos ≡ p
unfolding lookup
lookup-pos p [] k e = absurd (none-ne-some k e)
lookup-pos p (x ∷ xs) k e = go (cmp p x.pos) refl (λ q. lookup-pos p xs k q) e
  where
    go : (o : Ordering) → cmp p x.pos ≡ o → (lookup p xs ≡ some k → k.pos ≡ p) → on_eq o (some x) (lookup p xs) ≡ some k → k.pos ≡ p
    go Ordering.lt d ih q = ih q
    go Ordering.eq d ih q = rw (← some-injective x k q) (sym (pos-cmp.eq-path p x.pos d))
    go Ordering.gt d ih q = ih q

pub lookup-all : {P : Key → Type 0} (p : Bpos) {l : List Key} (k : Key) → All P l → lookup p l ≡ some k → P k
unfolding lookup
lookup-all p k nothing e = let z : ◌≡◌ {A = ℕ} 0 1 = cc in absurd (omega arith)
lookup-all {P} p k (more {a = x} {s = xs} h r) e = go (cmp p x.pos) (λ q. lookup-all p k r q) e
  where
    go : (o : Ordering) → (lookup p xs ≡ some k → P k) → on_eq o (some x) (lookup p xs) ≡ some k → P k
    go Ordering.lt f q = f q
    go Ordering.eq f q = subst P (some-injective x k q) h
    go Ordering.gt f q = f q

-- ---- no key of a tree is a deletion
pub op-some : (q k : Key) → op_of q ≡ some k → (eqb q.type 0 ≡ false) × (q ≡ k)
op-some q k e = go (eqb q.type 0) e
  where
    go : (t : Bool) → cond t none (some q) ≡ some k → (t ≡ false) × (q ≡ k)
    go true d = absurd (none-ne-some k d)
    go false d = (refl, some-injective q k d)

abbrev pub Typed : List Key → Type 0
Typed l = (p : Bpos) (k : Key) → lookup p l ≡ some k → eqb k.type 0 ≡ false

typed-step : (q : Key) (l : List Key) → Typed l → Typed (step q l)
typed-step q l t p k e = go (cmp p q.pos) (sym (lookup-step p q l) ∙ e)
  where
    go : (o : Ordering) → on_eq o (op_of q) (lookup p l) ≡ some k → eqb k.type 0 ≡ false
    go Ordering.lt d = t p k d
    go Ordering.eq d = let s = op-some q k d in rw (← s.1) s.0
    go Ordering.gt d = t p k d

pub typed-apply_queue : (q l : List Key) → Typed l → Typed (apply_queue q l)
unfolding apply_queue
typed-apply_queue [] l t = t
typed-apply_queue (k ∷ ks) l t = typed-apply_queue ks (step k l) (typed-step k l t)
