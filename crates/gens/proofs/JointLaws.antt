-- The joint lookup: the keys up to a bucket's record, the record among them, and the keys visited.
use mathlib.Core.Path.{◌≡◌, refl, ap, sym, ◌∙◌}
use mathlib.Core.Bool.{Bool, true, false, cond, not, ◌&&◌}
use mathlib.Core.List.{List, [], ◌∷◌}
use mathlib.Core.Option.{none, some}
use Prim.Native.Nat.{ℕ, zero, suc, ◌+◌, ◌-◌, ◌≤◌, ◌<◌, Ordering}
use native.Mathlib.Omega.{arith}
use lib.Dec.{compare_is_eq, eqb}
use lib.ListN.{length, get_or, take, drop}
use lib.Seq.{length-take-le, get_or-take}
use Rattle.std.specs.Prelude.{Option as Maybe, Some, None}
use Rattle.std.specs.Bool.{then_some}
use Rattle.std.specs.List.{prefix_len}
use Rattle.wire.specs.Keys.{Key}
use Rattle.wire.specs.Order.{cmp, pos_less, pos_same}
use Rattle.wire.specs.Positions.{gens_at}
use Rattle.wire.specs.declared.bpos.Bpos.{Bpos}
use Rattle.wire.specs.declared.kinds.Bucket.{Bucket}
use Rattle.wire.proofs.OrderLaws.{pos-cmp, cmp-less, less-cmp}
use Rattle.calls.specs.Trees.{on_eq, lookup}
use Rattle.calls.specs.CallList.{keys_ascend}
use Rattle.calls.specs.Generations.{of_type30, gen_record}
use Rattle.calls.specs.JointLookup.{up_to_past}
use Rattle.calls.proofs.lists.BoolLaws.{clash}
use Rattle.calls.proofs.trees.SortedLaws.{Sorted, chain-weak, chain-sorted, lookup-chain, order-sorted}
use Rattle.calls.proofs.trees.JointLookupLaws.{before-past}
use Rattle.reader.specs.ListedKeys.{key_listed, keys_listed, KeyOf, KeyLast}
use Rattle.reader.specs.declared.key.ListedKey.{ListedKey}
use Rattle.reader.specs.declared.listed_keys.Keys.{Keys}
use Rattle.reader.specs.Located.{no_key}
use Rattle.reader.proofs.ListedKeyLaws.{key-of}
use Rattle.reader.proofs.SkipLaws.{walk-on}
use Rattle.gens.specs.Joint.{keys_up_to}
use Rattle.gens.specs.Records.{record_listed}

-- ---- how many keys are not past a position
module _ (p : Bpos) (d : Key) where
  pub up-to-within : (ks : List Key) → keys_up_to p ks ≤ length ks
  unfolding keys_up_to
  up-to-within [] = omega arith
  up-to-within (x ∷ xs) = go (pos_less p x.pos) (up-to-within xs)
    where
      go : (t : Bool) → keys_up_to p xs ≤ length xs → cond t 0 (suc (keys_up_to p xs)) ≤ length (x ∷ xs)
      go true h = omega arith
      go false h = omega (arith, h)

  -- by a walk
  pub up-to-prefix : (ks : List Key) → prefix_len (λ k. not (pos_less p k.pos)) ks ≡ keys_up_to p ks
  unfolding keys_up_to
  up-to-prefix [] = refl
  up-to-prefix (x ∷ xs) = go (pos_less p x.pos) (up-to-prefix xs)
    where
      go : (t : Bool) → prefix_len (λ k. not (pos_less p k.pos)) xs ≡ keys_up_to p xs
          → cond (not t) (1 + prefix_len (λ k. not (pos_less p k.pos)) xs) 0 ≡ cond t 0 (suc (keys_up_to p xs))
      go true h = refl
      go false h = omega (arith, h)

-- the walk along them
pub up-to-walked :
    (p : Bpos) (ks : List Key) {known r : ℕ} → known ≤ keys_up_to p ks → r ≡ known + prefix_len (λ k. not (pos_less p k.pos)) (drop known ks) → r ≡ keys_up_to p ks
up-to-walked p ks {known} h e =
    let same = up-to-prefix p no_key ks in
    e ∙ walk-on (λ k. not (pos_less p k.pos)) ks known (omega (arith, same, h)) ∙ same

-- a later position has no fewer up to it
pub up-to-later : (p q : Bpos) → pos_less q p ≡ false → (ks : List Key) → keys_up_to p ks ≤ keys_up_to q ks
unfolding keys_up_to
up-to-later p q h [] = omega arith
up-to-later p q h (x ∷ xs) = go (pos_less p x.pos) refl (pos_less q x.pos) refl (up-to-later p q h xs)
  where
    go : (t : Bool) → pos_less p x.pos ≡ t → (u : Bool) → pos_less q x.pos ≡ u → keys_up_to p xs ≤ keys_up_to q xs
        → cond t 0 (suc (keys_up_to p xs)) ≤ cond u 0 (suc (keys_up_to q xs))
    go true e u f ih = omega arith
    go false e true f ih = absurd (clash (cmp-less p x.pos (before-past p q x.pos h f)) e)
    go false e false f ih = omega (arith, ih)

-- ---- the keys visited
module _ (p : Bpos) where
  pub visited-past : (ks : List Key) → keys_up_to p ks < length ks → keys_up_to p ks + 1 ≡ length (up_to_past p ks)
  unfolding keys_up_to up_to_past
  visited-past [] h = absurd (omega arith)
  visited-past (x ∷ xs) h = go (pos_less p x.pos) h (visited-past xs)
    where
      go : (t : Bool) → cond t 0 (suc (keys_up_to p xs)) < length (x ∷ xs) → (keys_up_to p xs < length xs → keys_up_to p xs + 1 ≡ length (up_to_past p xs))
          → cond t 0 (suc (keys_up_to p xs)) + 1 ≡ length (x ∷ cond t [] (up_to_past p xs))
      go true l ih = refl
      go false l ih = omega (arith, ih (omega arith))

  pub visited-all : (ks : List Key) → length ks ≤ keys_up_to p ks → keys_up_to p ks ≡ length (up_to_past p ks)
  unfolding keys_up_to up_to_past
  visited-all [] h = refl
  visited-all (x ∷ xs) h = go (pos_less p x.pos) h (visited-all xs)
    where
      go : (t : Bool) → length (x ∷ xs) ≤ cond t 0 (suc (keys_up_to p xs)) → (length xs ≤ keys_up_to p xs → keys_up_to p xs ≡ length (up_to_past p xs))
          → cond t 0 (suc (keys_up_to p xs)) ≡ length (x ∷ cond t [] (up_to_past p xs))
      go true l ih = absurd (omega arith)
      go false l ih = ap suc (ih (omega arith))

-- ---- what stands at a position: the last of the keys up to it, or nothing
-- a position before another, which is not past a third, stands before that
before-past-or-at : (p q r : Bpos) → cmp p q ≡ Ordering.lt → pos_less r q ≡ false → cmp p r ≡ Ordering.lt
before-past-or-at p q r h n = go (cmp r q) refl
  where
    go : (o : Ordering) → cmp r q ≡ o → cmp p r ≡ Ordering.lt
    go Ordering.lt e = absurd (clash (cmp-less r q e) n)
    go Ordering.eq e = rw (pos-cmp.eq-path r q e) h
    go Ordering.gt e = pos-cmp.trans p q r h (pos-cmp.gt-lt r q e)

module _ (p : Bpos) (d : Key) where
  pub lookup-none : (ks : List Key) → Sorted ks → keys_up_to p ks ≡ 0 → lookup p ks ≡ none
  unfolding keys_up_to lookup
  lookup-none [] s e = refl
  lookup-none (x ∷ xs) s e = go (pos_less p x.pos) refl e
    where
      go : (t : Bool) → pos_less p x.pos ≡ t → cond t 0 (suc (keys_up_to p xs)) ≡ 0 → lookup p (x ∷ xs) ≡ none
      go true f z = let c = less-cmp p x.pos f in rw c (lookup-chain p xs (chain-weak p x.pos xs c s))
      go false f z = absurd (omega arith)

  -- those before the last stand before the position
  first-before : (x : Key) (xs : List Key) (n : ℕ) → Sorted (x ∷ xs) → keys_up_to p xs ≡ suc n → cmp p x.pos ≡ Ordering.gt
  unfolding keys_up_to
  first-before x [] n s e = absurd (omega arith)
  first-before x (y ∷ ys) n s e = go (pos_less p y.pos) refl e
    where
      go : (t : Bool) → pos_less p y.pos ≡ t → cond t 0 (suc (keys_up_to p ys)) ≡ suc n → cmp p x.pos ≡ Ordering.gt
      go true f z = absurd (omega arith)
      go false f z = pos-cmp.lt-gt x.pos p (before-past-or-at x.pos y.pos p s.0 f)

  pub lookup-last : (ks : List Key) (n : ℕ) → Sorted ks → keys_up_to p ks ≡ suc n
      → lookup p ks ≡ on_eq (cmp p (get_or ks n d).pos) (some (get_or ks n d)) none
  unfolding keys_up_to lookup
  lookup-last [] n s e = absurd (omega arith)
  lookup-last (x ∷ xs) n s e = go (pos_less p x.pos) e (λ m z. lookup-last xs m (chain-sorted x.pos xs s) z)
    where
      rest : (m : ℕ) → keys_up_to p xs ≡ m
          → ((m : ℕ) → keys_up_to p xs ≡ suc m → lookup p xs ≡ on_eq (cmp p (get_or xs m d).pos) (some (get_or xs m d)) none)
          → on_eq (cmp p x.pos) (some x) (lookup p xs) ≡ on_eq (cmp p (get_or (x ∷ xs) m d).pos) (some (get_or (x ∷ xs) m d)) none
      rest zero z ih = rw (lookup-none xs (chain-sorted x.pos xs s) z)
      rest (suc m) z ih = rw (first-before x xs m s z) (ih m z)

      go : (t : Bool) → cond t 0 (suc (keys_up_to p xs)) ≡ suc n
          → ((m : ℕ) → keys_up_to p xs ≡ suc m → lookup p xs ≡ on_eq (cmp p (get_or xs m d).pos) (some (get_or xs m d)) none)
          → on_eq (cmp p x.pos) (some x) (lookup p xs) ≡ on_eq (cmp p (get_or (x ∷ xs) n d).pos) (some (get_or (x ∷ xs) n d)) none
      go true z ih = absurd (omega arith)
      go false z ih = rest n (omega arith) ih

-- ---- a bucket's record, by the last of the keys up to it
module _ (ks : List Key) (a : keys_ascend ks ≡ true) (b : Bucket) {k : ℕ} (e : k ≡ keys_up_to (gens_at b) ks) where
  -- no key stands up to it
  no_record_lem : k ≡ 0 → none ≡ gen_record ks b
  unfolding gen_record
  no_record_lem n =
      let z : keys_up_to (gens_at b) ks ≡ 0 = omega arith in
      rw (lookup-none (gens_at b) no_key ks (order-sorted ks a) z)

  -- the last of those up to it
  module _ (some-up-to : 0 < k) (x : Key) (x-is : x ≡ get_or ks (k - 1) no_key) where
    found-there : lookup (gens_at b) ks ≡ on_eq (cmp (gens_at b) x.pos) (some x) none
    found-there =
        let one-before : keys_up_to (gens_at b) ks ≡ suc (k - 1) = omega arith in
        lookup-last (gens_at b) no_key ks (k - 1) (order-sorted ks a) one-before
        ∙ ap (λ (x : Key). on_eq (cmp (gens_at b) x.pos) (some x) none) (sym x-is)

    -- whether it is the bucket's record
    abbrev its : Bool
    its = pos_same (gens_at b) x.pos && eqb x.type 30

    last-record : gen_record ks b ≡ cond its (some x) none
    unfolding gen_record pos_same
    last-record = rw found-there (go (cmp (gens_at b) x.pos))
      where
        go : (o : Ordering) → of_type30 (on_eq o (some x) none) ≡ cond (compare_is_eq o && eqb x.type 30) (some x) none
        go Ordering.lt = refl
        go Ordering.eq = refl
        go Ordering.gt = refl

    record-there : true ≡ its → some x ≡ gen_record ks b
    record-there h = sym (last-record ∙ ap (λ (t : Bool). cond t (some x) none) (sym h))

    record_missing : false ≡ its → none ≡ gen_record ks b
    record_missing h = sym (last-record ∙ ap (λ (t : Bool). cond t (some x) none) (sym h))

-- the last of the first k keys
last-key :
    (gens : Keys) {part : Keys} {k : ℕ} {x : ListedKey} → k ≤ length gens.places.now → (part.list.now ≡ gens.list.now) × (part.places.now ≡ take k gens.places.now)
    → (0 < length part.places.now) × KeyOf part (length part.places.now - 1) x
    → (0 < k) × (key_listed x ≡ get_or (keys_listed gens) (k - 1) no_key)
last-key gens {part} {k} {x} h p q =
    let ps = gens.places.now in
    let n : length part.places.now ≡ k = ap length p.1 ∙ length-take-le k ps h in
    let l : 0 < k = omega (arith, n, q.0) in
    let at : x.at ≡ get_or ps (k - 1) 0 =
    q.1.at ∙ ap (λ (m : ℕ). get_or part.places.now (m - 1) 0) n ∙ ap (λ (os : List ℕ). get_or os (k - 1) 0) p.1 ∙ get_or-take k ps (k - 1) 0 (omega arith) in
    (l, key-of {ks = gens} {i = k - 1} {k = x} (omega arith) (record { list = q.1.list ∙ p.0; at = at; fits = q.1.fits }))

-- the last of the first k keys, kept where it is the bucket's record
pub record-kept :
    (gens : Keys) (a : keys_ascend (keys_listed gens) ≡ true) (b : Bucket) {k : ℕ} (part : Keys) → k ≡ keys_up_to (gens_at b) (keys_listed gens)
    → k ≤ length gens.places.now
    → (part.list.now ≡ gens.list.now) × (part.places.now ≡ take k gens.places.now)
    → (l r : Maybe ListedKey) → KeyLast part l → (l ≡ None → r ≡ None)
    → ((x : ListedKey) → l ≡ Some x → r ≡ then_some (pos_same (gens_at b) (key_listed x).pos && eqb (key_listed x).type 30) x)
    → record_listed r ≡ gen_record (keys_listed gens) b
record-kept gens a b {k} part e w p None r q f g =
    ap record_listed (f refl) ∙ no_record_lem (keys_listed gens) a b e (sym (length-take-le k gens.places.now w) ∙ ap length (sym p.1) ∙ ap length q)
record-kept gens a b {k} part e w p (Some x) r q f g =
    let at = last-key gens w p q in
    ap record_listed (g x refl) ∙ go (pos_same (gens_at b) (key_listed x).pos && eqb (key_listed x).type 30) refl at
  where
    go : (t : Bool) → (pos_same (gens_at b) (key_listed x).pos && eqb (key_listed x).type 30) ≡ t
        → (0 < k) × (key_listed x ≡ get_or (keys_listed gens) (k - 1) no_key)
        → record_listed (then_some t x) ≡ gen_record (keys_listed gens) b
    go true h at = record-there (keys_listed gens) a b e at.0 (key_listed x) at.1 (sym h)
    go false h at = record_missing (keys_listed gens) a b e at.0 (key_listed x) at.1 (sym h)
