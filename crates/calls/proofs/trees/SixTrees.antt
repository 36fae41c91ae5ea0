-- What holds of the keys of each of the six trees.
use mathlib.Core.Path.{◌≡◌}
use mathlib.Core.Bool.{Bool, true}
use mathlib.Core.List.{List}
use Rattle.wire.specs.Keys.{Key}
use Rattle.calls.specs.Sorting.{sorted_by}
use Rattle.calls.specs.CallList.{Trees, key_below, sorted_trees, all_trees, keys_ascend, snapshots_ok, keys_ok, trees_ok}
use Rattle.calls.specs.Trees.{apply_queue}
use Rattle.calls.specs.Apply.{apply_trees}
use Rattle.calls.proofs.lists.BoolLaws.{both, parts}
use Rattle.calls.proofs.lists.TwiceLaws.{asc-sorted}
use Rattle.calls.proofs.trees.KeyOrder.{key-weak}
use Rattle.calls.proofs.trees.SortedLaws.{InOrder, keys-order}

-- a property of the keys of each tree
pub record EachTree (P : List Key → Type 0) (t : Trees) : Type 0 where
  pub alloc : P t.alloc
  pub lru : P t.lru
  pub freespace : P t.freespace
  pub need_discard : P t.need_discard
  pub backpointers : P t.backpointers
  pub gens : P t.gens

-- what follows from it
pub each-imp : {P Q : List Key → Type 0} {t : Trees} → ((ks : List Key) → P ks → Q ks) → EachTree P t → EachTree Q t
each-imp {t} f g =
    record {
      alloc = f t.alloc g.alloc;
      lru = f t.lru g.lru;
      freespace = f t.freespace g.freespace;
      need_discard = f t.need_discard g.need_discard;
      backpointers = f t.backpointers g.backpointers;
      gens = f t.gens g.gens;
    }

pub each-join :
    {P Q R : List Key → Type 0} {t : Trees} → ((ks : List Key) → P ks → Q ks → R ks) → EachTree P t → EachTree Q t
    → EachTree R t
each-join {t} f g h =
    record {
      alloc = f t.alloc g.alloc h.alloc;
      lru = f t.lru g.lru h.lru;
      freespace = f t.freespace g.freespace h.freespace;
      need_discard = f t.need_discard g.need_discard h.need_discard;
      backpointers = f t.backpointers g.backpointers h.backpointers;
      gens = f t.gens g.gens h.gens;
    }

-- after a queue for each
pub each-applied :
    {P Q R : List Key → Type 0} {q t : Trees} → ((a b : List Key) → P a → Q b → R (apply_queue a b)) → EachTree P q → EachTree Q t
    → EachTree R (apply_trees q t)
unfolding apply_trees
each-applied {q} {t} f g h =
    record {
      alloc = f q.alloc t.alloc g.alloc h.alloc;
      lru = f q.lru t.lru g.lru h.lru;
      freespace = f q.freespace t.freespace g.freespace h.freespace;
      need_discard = f q.need_discard t.need_discard g.need_discard h.need_discard;
      backpointers = f q.backpointers t.backpointers g.backpointers h.backpointers;
      gens = f q.gens t.gens g.gens h.gens;
    }

-- after the sort of each
pub each-sorted :
    {P Q : List Key → Type 0} {t : Trees} → ((ks : List Key) → P ks → Q (sorted_by key_below ks)) → EachTree P t → EachTree Q (sorted_trees t)
unfolding sorted_trees
each-sorted {t} f g =
    record {
      alloc = f t.alloc g.alloc;
      lru = f t.lru g.lru;
      freespace = f t.freespace g.freespace;
      need_discard = f t.need_discard g.need_discard;
      backpointers = f t.backpointers g.backpointers;
      gens = f t.gens g.gens;
    }

-- trees that ascend are their own sort
pub own-trees : {t : Trees} → EachTree (λ ks. keys_ascend ks ≡ true) t → sorted_trees t ≡ t
unfolding sorted_trees
own-trees {t} h =
    λ i.
    record {
      alloc = asc-sorted key-weak t.alloc h.alloc i;
      lru = asc-sorted key-weak t.lru h.lru i;
      freespace = asc-sorted key-weak t.freespace h.freespace i;
      need_discard = asc-sorted key-weak t.need_discard h.need_discard i;
      backpointers = asc-sorted key-weak t.backpointers h.backpointers i;
      gens = asc-sorted key-weak t.gens h.gens i;
    }

-- a test of each tree
module _ (test : List Key → Bool) where
  pub tested-each : (t : Trees) → all_trees test t ≡ true → EachTree (λ ks. test ks ≡ true) t
  tested-each t h =
      let a = parts (test t.alloc) _ h in
      let b = parts (test t.lru) _ a.1 in
      let c = parts (test t.freespace) _ b.1 in
      let d = parts (test t.need_discard) _ c.1 in
      let e = parts (test t.backpointers) (test t.gens) d.1 in
      record { alloc = a.0; lru = b.0; freespace = c.0; need_discard = d.0; backpointers = e.0; gens = e.1 }

  pub each-tested : {t : Trees} → EachTree (λ ks. test ks ≡ true) t → all_trees test t ≡ true
  each-tested h = both h.alloc (both h.lru (both h.freespace (both h.need_discard (both h.backpointers h.gens))))

-- what refusals 2 and 22 leave
pub trees-each : (t : Trees) → trees_ok t ≡ true → EachTree (λ ks. keys_ok ks ≡ true) t
unfolding trees_ok
trees-each t h = tested-each keys_ok t h

pub each-trees : {t : Trees} → EachTree (λ ks. keys_ok ks ≡ true) t → trees_ok t ≡ true
unfolding trees_ok
each-trees h = each-tested keys_ok h

pub trees-order : {t : Trees} → trees_ok t ≡ true → EachTree InOrder t
trees-order {t} h = each-imp keys-order (trees-each t h)

-- the two tests of a layout, and both in one
pub trees-ok : (t : Trees) → all_trees keys_ascend t ≡ true → all_trees snapshots_ok t ≡ true → trees_ok t ≡ true
unfolding keys_ok
trees-ok t a z = each-trees (each-join (λ ks p q. both p q) (tested-each keys_ascend t a) (tested-each snapshots_ok t z))

pub trees-ascend : {t : Trees} → trees_ok t ≡ true → EachTree (λ ks. keys_ascend ks ≡ true) t
unfolding keys_ok
trees-ascend {t} h = each-imp (λ ks e. (parts (keys_ascend ks) (snapshots_ok ks) e).0) (trees-each t h)

pub trees-snapshots : (t : Trees) → trees_ok t ≡ true → all_trees snapshots_ok t ≡ true
unfolding keys_ok
trees-snapshots t h = each-tested snapshots_ok (each-imp (λ ks e. (parts (keys_ascend ks) (snapshots_ok ks) e).1) (trees-each t h))
