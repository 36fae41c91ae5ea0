-- The generations that a release's records leave: each bucket's new one, and every other as it was.
use mathlib.Core.Path.{◌≡◌, refl, ap, sym, ◌∙◌}
use mathlib.Core.Bool.{Bool, true, false, ◌||◌, cond, or-true}
use mathlib.Core.List.{List, [], ◌∷◌}
use mathlib.Core.Option.{Option, none, some, none-ne-some, some-injective}
use Prim.Native.Nat.{ℕ, ◌/◌, ◌<◌, Ordering}
use native.Mathlib.Omega.{arith}
use lib.Dec.{leb, ltb, eqb}
use lib.ListN.{length, get_or, replicate, length-replicate}
use borrow.Author.Tests.{eqb-true, eqb-false, eq-eqb, leb-true, leb-false, lt-leb, lt-ltb, le-ltb}
use Rattle.wire.specs.Keys.{Key}
use Rattle.wire.specs.Order.{cmp}
use Rattle.wire.specs.Kinds.{same_bucket}
use Rattle.wire.specs.Positions.{gens_at, gens_byte}
use Rattle.wire.specs.declared.kinds.Bucket.{Bucket}
use Rattle.wire.specs.declared.bpos.Bpos.{Bpos}
use Rattle.wire.proofs.OrderLaws.{pos-cmp, lt≢eq, gt≢eq}
use Rattle.format.specs.Gens.{gen_in, with_gen, no_gens}
use Rattle.format.proofs.GenLaws.{gens-length, gen-there, gen-elsewhere, gen-started}
use Rattle.calls.specs.Lists.{any_of, from_option}
use Rattle.calls.specs.Trees.{on_eq, lookup, new_key, step, apply_queue}
use Rattle.calls.specs.Freespace.{is_in}
use Rattle.calls.specs.Generations.{found, too_short, of_type30, gen_record, found_in, gen_lookup, or_zero, is_short, gen_of, gen_short, gen_key, gen_queued}
use Rattle.calls.specs.Release.{gens_queued}
use Rattle.calls.proofs.lists.BoolLaws.{cond_same}
use Rattle.calls.proofs.freespace.BucketLaws.{same-path}
use Rattle.calls.proofs.trees.TreeLaws.{op_of, lookup-step, lookup-pos}

-- ---- a record's bytes
-- a bucket's byte, and 0 where there is none
abbrev byte_in : List ℕ → Bucket → ℕ
byte_in v b = from_option 0 (λ g. g) (gen_in v b)

zeros-room : (n i : ℕ) → i < n → leb (length (replicate {A = ℕ} n 0)) i ≡ false
zeros-room n i h = rw (length-replicate {A = ℕ} n 0) (lt-leb n i h)

no-gens-room : (b : Bucket) → leb (length no_gens) (gens_byte b) ≡ false
unfolding no_gens
no-gens-room b = zeros-room 256 (gens_byte b) (omega arith)

value-short : (v : List ℕ) (b : Bucket) → is_short (from_option too_short found (gen_in v b)) ≡ leb (length v) (gens_byte b)
unfolding gen_in
value-short v b = go (leb (length v) (gens_byte b)) refl
  where
    go : (t : Bool) → leb (length v) (gens_byte b) ≡ t → is_short (from_option too_short found (cond (ltb (gens_byte b) (length v)) (some (get_or v (gens_byte b) 0)) none)) ≡ t
    go true e = rw (le-ltb (gens_byte b) (length v) (leb-true (length v) (gens_byte b) e))
    go false e = rw (lt-ltb (gens_byte b) (length v) (leb-false (length v) (gens_byte b) e))

-- ---- the record of a bucket, begun where there is none
pub type-30 : (o : Option Key) (k : Key) → of_type30 o ≡ some k → (o ≡ some k) × (k.type ≡ 30)
type-30 none k e = absurd (none-ne-some k e)
type-30 (some x) k e = go (eqb x.type 30) refl e
  where
    go : (t : Bool) → eqb x.type 30 ≡ t → cond t (some x) none ≡ some k → (some x ≡ some k) × (k.type ≡ 30)
    go true d q = (q, rw (← some-injective x k q) (eqb-true x.type 30 d))
    go false d q = absurd (none-ne-some k q)

module _ (gens : List Key) where
  pub key-is : (b : Bucket) → ((gen_key gens b).type ≡ 30) × ((gen_key gens b).pos ≡ gens_at b)
  unfolding gen_key gen_record
  key-is b = go (gen_record gens b) refl
    where
      go : (o : Option Key) → gen_record gens b ≡ o
          → ((from_option (new_key 30 0 (gens_at b) no_gens) (λ k. k) o).type ≡ 30) × ((from_option (new_key 30 0 (gens_at b) no_gens) (λ k. k) o).pos ≡ gens_at b)
      go none e = (refl, refl)
      go (some k) e = let t = type-30 (lookup (gens_at b) gens) k e in (t.1, lookup-pos (gens_at b) gens k t.0)

  -- its byte is the generation, and its length tells refusal 19
  of_is : (b : Bucket) → gen_of gens b ≡ byte_in (gen_key gens b).value b
  unfolding gen_of gen_lookup gen_key
  of_is b = go (gen_record gens b)
    where
      byte : (o : Option ℕ) → or_zero (from_option too_short found o) ≡ from_option 0 (λ g. g) o
      byte none = refl
      byte (some g) = refl

      go : (o : Option Key) → or_zero (found_in b o) ≡ byte_in (from_option (new_key 30 0 (gens_at b) no_gens) (λ k. k) o).value b
      go none = ap (from_option 0 (λ g. g)) (sym (gen-started b))
      go (some k) = byte (gen_in k.value b)

  short-is : (b : Bucket) → gen_short gens b ≡ leb (length (gen_key gens b).value) (gens_byte b)
  unfolding gen_short gen_lookup gen_key
  short-is b = go (gen_record gens b)
    where
      go : (o : Option Key) → is_short (found_in b o) ≡ leb (length (from_option (new_key 30 0 (gens_at b) no_gens) (λ k. k) o).value) (gens_byte b)
      go none = sym (no-gens-room b)
      go (some k) = value-short k.value b

  -- buckets of one record
  key-same : (b c : Bucket) → gens_at c ≡ gens_at b → gen_key gens c ≡ gen_key gens b
  unfolding gen_key gen_record
  key-same b c e = ap (λ (p : Bpos). from_option (new_key 30 0 p no_gens) (λ k. k) (of_type30 (lookup p gens))) e

-- ---- one record queued
module _ (gens : List Key) (b : Bucket) (generation : ℕ) where
  abbrev queued : Key
  queued = gen_queued gens b generation

  queued-op : op_of queued ≡ some queued
  unfolding gen_queued
  queued-op = rw (key-is gens b).0

  queued-pos : queued.pos ≡ gens_at b
  unfolding gen_queued
  queued-pos = (key-is gens b).1

  queued-type : of_type30 (some queued) ≡ some queued
  unfolding gen_queued
  queued-type = rw (key-is gens b).0

  record-after : (c : Bucket) → gen_record (step queued gens) c ≡ on_eq (cmp (gens_at c) (gens_at b)) (some queued) (gen_record gens c)
  unfolding gen_record
  record-after c =
      rw (lookup-step (gens_at c) queued gens, queued-op, ap (cmp (gens_at c)) queued-pos)
      (go (cmp (gens_at c) (gens_at b)))
    where
      go : (o : Ordering) → of_type30 (on_eq o (some queued) (lookup (gens_at c) gens)) ≡ on_eq o (some queued) (of_type30 (lookup (gens_at c) gens))
      go Ordering.lt = refl
      go Ordering.eq = queued-type
      go Ordering.gt = refl

  value_after : (c : Bucket) → (gen_key (step queued gens) c).value ≡ on_eq (cmp (gens_at c) (gens_at b)) (with_gen b generation (gen_key gens b).value) (gen_key gens c).value
  unfolding gen_key gen_queued
  value_after c = go (cmp (gens_at c) (gens_at b)) (record-after c)
    where
      go : (o : Ordering) → gen_record (step queued gens) c ≡ on_eq o (some queued) (gen_record gens c)
          → (gen_key (step queued gens) c).value ≡ on_eq o (with_gen b generation (gen_key gens b).value) (gen_key gens c).value
      go Ordering.lt e = rw e
      go Ordering.eq e = rw e
      go Ordering.gt e = rw e

  short-after : (c : Bucket) → gen_short (step queued gens) c ≡ gen_short gens c
  short-after c = short-is (step queued gens) c ∙ rw (value_after c) (go (cmp (gens_at c) (gens_at b)) refl ∙ sym (short-is gens c))
    where
      go : (o : Ordering) → cmp (gens_at c) (gens_at b) ≡ o
          → leb (length (on_eq o (with_gen b generation (gen_key gens b).value) (gen_key gens c).value)) (gens_byte c) ≡ leb (length (gen_key gens c).value) (gens_byte c)
      go Ordering.lt e = refl
      go Ordering.eq e = rw (gens-length b generation (gen_key gens b).value, key-same gens b c (pos-cmp.eq-path (gens_at c) (gens_at b) e))
      go Ordering.gt e = refl

  of-after : gen_short gens b ≡ false → (c : Bucket) → gen_of (step queued gens) c ≡ cond (same_bucket b c) generation (gen_of gens c)
  of-after room c = of_is (step queued gens) c ∙ rw (value_after c, of_is gens c) (go (cmp (gens_at c) (gens_at b)) refl (same_bucket b c) refl)
    where
      other : (o : Ordering) → cmp (gens_at c) (gens_at b) ≡ o → (o ≡ Ordering.eq → ⊥) → (s : Bool) → same_bucket b c ≡ s → byte_in (gen_key gens c).value c ≡ cond s generation (byte_in (gen_key gens c).value c)
      other o e n true d = absurd (n (sym e ∙ rw (same-path b c d) (pos-cmp.same (gens_at c))))
      other o e n false d = refl

      go : (o : Ordering) → cmp (gens_at c) (gens_at b) ≡ o → (s : Bool) → same_bucket b c ≡ s
          → byte_in (on_eq o (with_gen b generation (gen_key gens b).value) (gen_key gens c).value) c ≡ cond s generation (byte_in (gen_key gens c).value c)
      go Ordering.lt e s d = other Ordering.lt e lt≢eq s d
      go Ordering.gt e s d = other Ordering.gt e gt≢eq s d
      go Ordering.eq e true d =
          rw (← same-path b c d)
          (ap (from_option 0 (λ g. g)) (gen-there b generation (gen_key gens b).value (leb-false (length (gen_key gens b).value) (gens_byte b) (sym (short-is gens b) ∙ room))))
      go Ordering.eq e false d =
          let p = pos-cmp.eq-path (gens_at c) (gens_at b) e in
          let n = eqb-false b.0 c.0 d in
          let o : c.0 / 256 ≡ b.0 / 256 = ap (λ (q : Bpos). q.offset) p in
          rw (key-same gens b c p) (ap (from_option 0 (λ g. g)) (gen-elsewhere b generation (gen_key gens b).value c (λ z. n (omega arith))))

-- ---- all of them
-- the records that the next bucket is looked up in, and the tree that the queue has reached, hold the same
abbrev Agree : List Key → List Key → Type 0
Agree l m = (p : Bpos) → lookup p l ≡ lookup p m

same-queued : (records gens : List Key) → Agree records gens → (b : Bucket) (generation : ℕ) → gen_queued records b generation ≡ gen_queued gens b generation
unfolding gen_queued gen_key gen_record
same-queued records gens a b generation = rw (a (gens_at b))

agree-queued : (records gens : List Key) → Agree records gens → (b : Bucket) (generation : ℕ)
    → Agree (gen_queued gens b generation ∷ records) (step (gen_queued gens b generation) gens)
unfolding lookup
agree-queued records gens a b generation p =
    rw (lookup-step p (gen_queued gens b generation) gens, queued-op gens b generation, a p)

pub gens-after : (g : Bucket → ℕ) (bs : List Bucket) (records gens : List Key) → Agree records gens
    → ((c : Bucket) → is_in bs c ≡ true → gen_short gens c ≡ false)
    → (b : Bucket) → gen_of (apply_queue (gens_queued g records bs) gens) b ≡ cond (is_in bs b) (g b) (gen_of gens b)
unfolding apply_queue gens_queued is_in any_of
gens-after g [] records gens a room b = refl
gens-after g (c ∷ cs) records gens a room b =
    let k = gen_queued gens c (g c) in
    rw (same-queued records gens a c (g c))
    (gens-after g cs (k ∷ records) (step k gens) (agree-queued records gens a c (g c))
    (λ d h. short-after gens c (g c) d ∙ room d (rw h (or-true (same_bucket c d)))) b
    ∙ rw (of-after gens c (g c) (room c (rw (eq-eqb c.0 c.0 refl))) b) (go (same_bucket c b) refl))
  where
    go : (t : Bool) → same_bucket c b ≡ t → cond (is_in cs b) (g b) (cond t (g c) (gen_of gens b)) ≡ cond (t || is_in cs b) (g b) (gen_of gens b)
    go true d = rw (same-path c b d) (cond_same (is_in cs b) (g b))
    go false d = refl
