-- The joint lookup: each generation is the single lookup's, and the keys visited are a first part of the tree.
use mathlib.Core.Path.{◌≡◌, refl, ap}
use mathlib.Core.Bool.{Bool, true, false, cond}
use mathlib.Core.List.{List, [], ◌∷◌, map}
use mathlib.Core.Option.{some}
use Prim.Native.Nat.{ℕ, zero, suc, ◌+◌, ◌/◌, ◌≤◌, ◌<◌, Ordering}
use native.Mathlib.Omega.{arith}
use lib.Dec.{ltb}
use lib.ListN.{length, take, get_or}
use borrow.Author.Tests.{ltb-true, ltb-false}
use Rattle.wire.specs.Bytes.{All, none as nothing, more}
use Rattle.wire.specs.Keys.{Key}
use Rattle.wire.specs.Kinds.{bucket_below}
use Rattle.wire.specs.Order.{cmp, pos_less}
use Rattle.wire.specs.Positions.{gens_at}
use Rattle.wire.specs.declared.bpos.Bpos.{Bpos}
use Rattle.wire.specs.declared.kinds.Bucket.{Bucket}
use Rattle.wire.proofs.OrderLaws.{pos-cmp, less-cmp, cmp-less, offset-more, snapshot-less}
use Rattle.calls.specs.Lists.{in_order, last_or}
use Rattle.calls.specs.Trees.{on_eq, lookup}
use Rattle.calls.specs.Generations.{gen_record, gen_lookup, gen_of}
use Rattle.calls.specs.JointLookup.{up_to_past, keys_visited, joint_lookup}
use Rattle.calls.proofs.lists.BoolLaws.{clash}
use Rattle.calls.proofs.freespace.UpLaws.{order-up, up-last}
use Rattle.calls.proofs.trees.SortedLaws.{Sorted, chain-weak, chain-sorted, lookup-chain}

-- ---- positions
-- one that is not past another, and a third past that: the first stands before the third
pub before-past : (p q r : Bpos) → pos_less q p ≡ false → pos_less q r ≡ true → cmp p r ≡ Ordering.lt
before-past p q r h k = go (cmp q p) refl
  where
    go : (o : Ordering) → cmp q p ≡ o → cmp p r ≡ Ordering.lt
    go Ordering.lt e = absurd (clash (cmp-less q p e) h)
    go Ordering.eq e = rw (← pos-cmp.eq-path q p e) (less-cmp q r k)
    go Ordering.gt e = pos-cmp.trans p q r (pos-cmp.gt-lt q p e) (less-cmp q r k)

-- records stand in the order of their buckets
pub record-up : (a b : Bucket) → a.0 ≤ b.0 → pos_less (gens_at b) (gens_at a) ≡ false
record-up a b h = go (ltb (a.0 / 256) (b.0 / 256)) refl
  where
    go : (t : Bool) → ltb (a.0 / 256) (b.0 / 256) ≡ t → pos_less (gens_at b) (gens_at a) ≡ false
    go true e = offset-more (gens_at b) (gens_at a) refl (ltb-true (a.0 / 256) (b.0 / 256) e)
    go false e = snapshot-less (gens_at b) (gens_at a) refl (omega (arith, ltb-false (a.0 / 256) (b.0 / 256) e))

-- ---- the keys visited
-- up to a position, and past it, each position holds what it holds in the tree
pub lookup-up-to : (p q : Bpos) (l : List Key) → pos_less q p ≡ false → Sorted l → lookup p (up_to_past q l) ≡ lookup p l
unfolding lookup up_to_past
lookup-up-to p q [] h s = refl
lookup-up-to p q (x ∷ xs) h s = go (pos_less q x.pos) refl (lookup-up-to p q xs h (chain-sorted x.pos xs s))
  where
    go : (t : Bool) → pos_less q x.pos ≡ t → lookup p (up_to_past q xs) ≡ lookup p xs
        → on_eq (cmp p x.pos) (some x) (lookup p (cond t [] (up_to_past q xs))) ≡ on_eq (cmp p x.pos) (some x) (lookup p xs)
    go true e ih =
        let c = before-past p q x.pos h e in
        rw (lookup-chain p xs (chain-weak p x.pos xs c s))
    go false e ih = rw ih

pub up-to-most : (p : Bpos) (l : List Key) → length (up_to_past p l) ≤ length l
unfolding up_to_past
up-to-most p [] = omega arith
up-to-most p (x ∷ xs) = go (pos_less p x.pos) (up-to-most p xs)
  where
    go : (t : Bool) → length (up_to_past p xs) ≤ length xs → length (x ∷ cond t [] (up_to_past p xs)) ≤ length (x ∷ xs)
    go true h = omega arith
    go false h = omega (arith, h)

-- they are the tree's first
pub up-to-first : (p : Bpos) (l : List Key) → up_to_past p l ≡ take (length (up_to_past p l)) l
unfolding up_to_past
up-to-first p [] = refl
up-to-first p (x ∷ xs) = go (pos_less p x.pos) (up-to-first p xs)
  where
    go : (t : Bool) → up_to_past p xs ≡ take (length (up_to_past p xs)) xs
        → x ∷ cond t [] (up_to_past p xs) ≡ take (length (x ∷ cond t [] (up_to_past p xs))) (x ∷ xs)
    go true h = refl
    go false h = ap (λ (ks : List Key). x ∷ ks) h

-- none but the last of them is past the position
pub up-to-before : (p : Bpos) (l : List Key) (i : ℕ) (d : Key) → i + 1 < length (up_to_past p l) → pos_less p (get_or l i d).pos ≡ false
unfolding up_to_past
up-to-before p [] i d h = absurd (omega arith)
up-to-before p (x ∷ xs) i d h = go (pos_less p x.pos) refl i h (up-to-before p xs)
  where
    go : (t : Bool) → pos_less p x.pos ≡ t → (i : ℕ) → i + 1 < length (x ∷ cond t [] (up_to_past p xs))
        → ((i : ℕ) (d : Key) → i + 1 < length (up_to_past p xs) → pos_less p (get_or xs i d).pos ≡ false)
        → pos_less p (get_or (x ∷ xs) i d).pos ≡ false
    go true e i h ih = absurd (omega arith)
    go false e zero h ih = e
    go false e (suc i) h ih = ih i d (omega arith)

-- of a tree with a key the first is visited
some-visited : (p : Bpos) (l : List Key) → 0 < length l → length (up_to_past p l) ≡ 0 → ⊥
unfolding up_to_past
some-visited p [] h z = omega arith
some-visited p (x ∷ xs) h z = omega arith

-- and where they are not all, the last one is
pub up-to-last : (p : Bpos) (l : List Key) (i : ℕ) (d : Key) → length (up_to_past p l) < length l → i + 1 ≡ length (up_to_past p l)
    → pos_less p (get_or l i d).pos ≡ true
unfolding up_to_past
up-to-last p [] i d h e = absurd (omega arith)
up-to-last p (x ∷ xs) i d h e = go (pos_less p x.pos) refl i h e (up-to-last p xs)
  where
    go : (t : Bool) → pos_less p x.pos ≡ t → (i : ℕ) → length (x ∷ cond t [] (up_to_past p xs)) < length (x ∷ xs)
        → i + 1 ≡ length (x ∷ cond t [] (up_to_past p xs))
        → ((i : ℕ) (d : Key) → length (up_to_past p xs) < length xs → i + 1 ≡ length (up_to_past p xs) → pos_less p (get_or xs i d).pos ≡ true)
        → pos_less p (get_or (x ∷ xs) i d).pos ≡ true
    go true f zero h e ih = f
    go true f (suc i) h e ih = absurd (omega arith)
    go false f zero h e ih = absurd (some-visited p xs (omega arith) (omega arith))
    go false f (suc i) h e ih = ih i d (omega arith) (omega arith)

-- ---- the generations
gen-visited : (gens : List Key) (b last : Bucket) → Sorted gens → b.0 ≤ last.0 → gen_of (up_to_past (gens_at last) gens) b ≡ gen_of gens b
unfolding gen_of gen_lookup gen_record
gen-visited gens b last s h = rw (lookup-up-to (gens_at b) (gens_at last) gens (record-up b last h) s)

-- each is the single lookup's
pub joint-generations : (gens : List Key) (bs : List Bucket) → Sorted gens → in_order bucket_below bs ≡ true
    → (joint_lookup gens bs).generations ≡ map (gen_of gens) bs
unfolding joint_lookup keys_visited
joint-generations gens [] s o = refl
joint-generations gens (b ∷ bs) s o = each (last_or b bs) (up-last 0 b bs (order-up (b ∷ bs) o))
  where
    each : (last : Bucket) {cs : List Bucket} → All (λ c. c.0 ≤ last.0) cs → map (gen_of (up_to_past (gens_at last) gens)) cs ≡ map (gen_of gens) cs
    each last nothing = refl
    each last (more {a = c} h r) = let e = gen-visited gens c last s h in let q = each last r in λ i. e i ∷ q i

-- no more keys are visited than the tree has
pub joint-visited : (gens : List Key) (bs : List Bucket) → (joint_lookup gens bs).visited ≤ length gens
unfolding joint_lookup keys_visited
joint-visited gens [] = omega arith
joint-visited gens (b ∷ bs) = up-to-most (gens_at (last_or b bs)) gens

-- the walk ends with the first key past the last bucket's record
module _ (gens : List Key) (b : Bucket) (bs : List Bucket) (d : Key) where
  abbrev record-of-last : Bpos
  record-of-last = gens_at (last_or b bs)

  pub joint-before : (i : ℕ) → i + 1 < (joint_lookup gens (b ∷ bs)).visited → pos_less record-of-last (get_or gens i d).pos ≡ false
  unfolding joint_lookup keys_visited
  joint-before i h = up-to-before record-of-last gens i d h

  pub joint-last : (i : ℕ) → (joint_lookup gens (b ∷ bs)).visited < length gens → i + 1 ≡ (joint_lookup gens (b ∷ bs)).visited
      → pos_less record-of-last (get_or gens i d).pos ≡ true
  unfolding joint_lookup keys_visited
  joint-last i h e = up-to-last record-of-last gens i d h e
