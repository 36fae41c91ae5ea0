-- The marks of a list's buckets, one after the other.
use mathlib.Core.Path.{◌≡◌, refl, ap, sym, ◌∙◌}
use mathlib.Core.Bool.{Bool, true, false, not, ◌&&◌, ◌||◌, cond}
use mathlib.Core.List.{List, [], ◌∷◌}
use mathlib.Core.Option.{some}
use Prim.Native.Nat.{ℕ, Ordering}
use native.Mathlib.Omega.{arith}
use lib.Dec.{leb, eqb}
use lib.ListN.{length, get_or, replicate, length-replicate}
use borrow.Author.Tests.{ltb-true, eqb-true, eq-eqb}
use Rattle.wire.specs.Keys.{Key}
use Rattle.wire.specs.Kinds.{bucket_in_range, same_bucket}
use Rattle.wire.specs.Order.{cmp}
use Rattle.wire.specs.Positions.{bucket_in, alloc_at}
use Rattle.wire.specs.declared.bpos.Bpos.{Bpos}
use Rattle.wire.specs.declared.kinds.Bucket.{Bucket}
use Rattle.wire.proofs.NumberLaws.{le-byte}
use Rattle.wire.proofs.OrderLaws.{pos-cmp, mk-eq, lt≢eq, gt≢eq}
use Rattle.format.specs.AllocV4.{data_type}
use Rattle.format.specs.Packing.{get}
use Rattle.format.proofs.ValueLaws.{get_at}
use Rattle.calls.specs.Lists.{all_of, any_of, from_option}
use Rattle.calls.specs.Limits.{at_inode0}
use Rattle.calls.specs.Freespace.{is_used}
use Rattle.calls.specs.Trees.{on_eq, lookup}
use Rattle.calls.proofs.lists.BoolLaws.{parts as and-true}
use Rattle.calls.proofs.trees.SortedLaws.{Chain, Sorted, chain-weak, chain-sorted}
use Rattle.calls.proofs.trees.SortedLaws.{NoSnapshots}
use Rattle.reader.specs.Checked.{in_range}
use Rattle.reader.proofs.CheckedLaws.{range_at}
use Rattle.bucket_bits.specs.declared.marks.BucketBits.{BucketBits}
use Rattle.bucket_bits.specs.Bits.{marked, with_mark, in_use, used_mark, Marks}
use Rattle.bucket_bits.proofs.BitLaws.{mark-told, mark-length, mark-none}

-- the marks so far, with those that the rest of a list is to make, are those that all of it makes; of each that is left a test holds
pub record Marking {A : Type 0} (is : A → Bucket → Bool) (ok : A → Bool) (all rest : List A) (bits : BucketBits) : Type 0 where
  pub size : length bits.bytes ≡ 8192
  pub range : all_of ok rest ≡ true
  pub told : (b : Bucket) → bucket_in_range b ≡ true → (marked bits b || any_of (λ a. is a b) rest) ≡ any_of (λ a. is a b) all

or-none : (t : Bool) → t ≡ t || false
or-none true = refl
or-none false = refl

or_swap : (a b c : Bool) → ((a || b) || c) ≡ (b || (a || c))
or_swap true true c = refl
or_swap true false c = refl
or_swap false true c = refl
or_swap false false c = refl

module _ {A : Type 0} (is : A → Bucket → Bool) (ok : A → Bool) (all : List A) where
  pub marking-start : (bits : BucketBits) → bits.bytes ≡ replicate 8192 0 → all_of ok all ≡ true → Marking is ok all all bits
  marking-start bits e r =
      record {
        size = ap length e ∙ length-replicate {A = ℕ} 8192 0;
        range = r;
        told = λ b h. ap (λ (t : Bool). t || any_of (λ a. is a b) all) (mark-none bits 8192 b e (omega (arith, ltb-true b.0 65536 h)));
      }

  -- one element more: its buckets are marked
  module _ {rest xs : List A} {x : A} {bits : BucketBits} (m : Marking is ok all rest bits) (e : rest ≡ x ∷ xs) where
    ranges : (ok x ≡ true) × (all_of ok xs ≡ true)
    unfolding all_of
    ranges = and-true (ok x) (all_of ok xs) (ap (all_of ok) (sym e) ∙ m.range)

    pub first-ranged : ok x ≡ true
    first-ranged = ranges.0

    pub marking-on :
        {next : BucketBits} → length next.bytes ≡ length bits.bytes → ((b : Bucket) → bucket_in_range b ≡ true → marked next b ≡ is x b || marked bits b)
        → Marking is ok all xs next
    unfolding any_of
    marking-on {next} l n =
        record {
          size = l ∙ m.size;
          range = ranges.1;
          told =
              λ b h.
              ap (λ (t : Bool). t || any_of (λ a. is a b) xs) (n b h) ∙ or_swap (is x b) (marked bits b) (any_of (λ a. is a b) xs)
              ∙ ap (λ (r : List A). marked bits b || any_of (λ a. is a b) r) (sym e)
              ∙ m.told b h;
        }

  pub marking-end : {rest : List A} {bits : BucketBits} → Marking is ok all rest bits → rest ≡ [] → Marks bits (λ b. any_of (λ a. is a b) all)
  unfolding any_of
  marking-end {bits = bits} m e =
      record { told = λ b l. or-none (marked bits b) ∙ ap (λ (r : List A). marked bits b || any_of (λ a. is a b) r) (sym e) ∙ m.told b l }

-- the data type in a value
pub type-in : (v : List ℕ) → get data_type v ≡ get_or v 14 0
type-in v = get_at data_type v 0 ∙ le-byte v 14

-- the buckets in use, by the keys of which one is
abbrev pub uses_bucket : Key → Bucket → Bool
uses_bucket k b = in_use k && same_bucket (bucket_in k.pos) b

pub used-told : (k : Key) (bits : BucketBits) (b : Bucket) → length bits.bytes ≡ 8192 → (in_use k ≡ true → bucket_in_range (bucket_in k.pos) ≡ true) → marked (used_mark k bits) b ≡ uses_bucket k b || marked bits b
unfolding used_mark
used-told k bits b l r = go (in_use k) refl
  where
    go : (t : Bool) → in_use k ≡ t → marked (cond t (with_mark bits (bucket_in k.pos)) bits) b ≡ (t && same_bucket (bucket_in k.pos) b) || marked bits b
    go true e = mark-told bits (bucket_in k.pos) b (omega (arith, ltb-true k.pos.offset 65536 (r e)))
    go false e = refl

pub used-length : (k : Key) (bits : BucketBits) → length (used_mark k bits).bytes ≡ length bits.bytes
unfolding used_mark
used-length k bits = go (in_use k)
  where
    go : (t : Bool) → length (cond t (with_mark bits (bucket_in k.pos)) bits).bytes ≡ length bits.bytes
    go true = mark-length bits (bucket_in k.pos)
    go false = refl

-- a key in use at a bucket stands at the bucket's position
stands : (k : Key) (b : Bucket) → eqb k.pos.snapshot 0 ≡ true → uses_bucket k b ≡ true → cmp (alloc_at b) k.pos ≡ Ordering.eq
unfolding in_use cmp
stands k b z h =
    let p = and-true (in_use k) (same_bucket (bucket_in k.pos) b) h in
    let q = and-true (at_inode0 k) _ p.0 in
    rw (
      mk-eq 0 k.pos.inode (sym (eqb-true k.pos.inode 0 q.0)),
      mk-eq b.0 k.pos.offset (sym (eqb-true k.pos.offset b.0 p.1)),
      mk-eq 0 k.pos.snapshot (sym (eqb-true k.pos.snapshot 0 z)),
    )

not-here : (k : Key) (b : Bucket) → eqb k.pos.snapshot 0 ≡ true → (cmp (alloc_at b) k.pos ≡ Ordering.eq → ⊥) → uses_bucket k b ≡ false
not-here k b z n = go (uses_bucket k b) refl
  where
    go : (t : Bool) → uses_bucket k b ≡ t → t ≡ false
    go true e = absurd (n (stands k b z e))
    go false e = refl

none_after : (b : Bucket) (l : List Key) → NoSnapshots l → Chain (alloc_at b) l → any_of (λ k. uses_bucket k b) l ≡ false
unfolding any_of all_of
none_after b [] z c = refl
none_after b (k ∷ ks) z c =
    let p = and-true (eqb k.pos.snapshot 0) (all_of (λ j. eqb j.pos.snapshot 0) ks) z in
    rw (not-here k b p.0 (λ e. lt≢eq (sym c.0 ∙ e)))
    (none_after b ks p.1 (chain-weak (alloc_at b) k.pos ks c.0 c.1))

-- the key at a bucket's position decides
decides : (k : Key) (b : Bucket) → cmp (alloc_at b) k.pos ≡ Ordering.eq → (leb 16 (length k.value) && not (eqb (get_or k.value 14 0) 0)) ≡ uses_bucket k b
unfolding in_use
decides k b e =
    let q = pos-cmp.eq-path (alloc_at b) k.pos e in
    let i : k.pos.inode ≡ 0 = sym (ap (λ (p : Bpos). p.inode) q) in
    let o : k.pos.offset ≡ b.0 = sym (ap (λ (p : Bpos). p.offset) q) in
    rw (eq-eqb k.pos.inode 0 i, eq-eqb k.pos.offset b.0 o) (and_one (leb 16 (length k.value) && not (eqb (get_or k.value 14 0) 0)))
  where
    and_one : (t : Bool) → t ≡ t && true
    and_one true = refl
    and_one false = refl

pub used-any : (b : Bucket) (l : List Key) → Sorted l → NoSnapshots l → is_used l b ≡ any_of (λ k. uses_bucket k b) l
unfolding is_used lookup any_of all_of
used-any b [] s z = refl
used-any b (k ∷ ks) s z =
    let p = and-true (eqb k.pos.snapshot 0) (all_of (λ j. eqb j.pos.snapshot 0) ks) z in
    go (cmp (alloc_at b) k.pos) refl p.0 p.1 (used-any b ks (chain-sorted k.pos ks s) p.1)
  where
    go : (o : Ordering) → cmp (alloc_at b) k.pos ≡ o → eqb k.pos.snapshot 0 ≡ true → NoSnapshots ks
        → is_used ks b ≡ any_of (λ j. uses_bucket j b) ks
        → from_option false (λ j. leb 16 (length j.value) && not (eqb (get_or j.value 14 0) 0)) (on_eq o (some k) (lookup (alloc_at b) ks))
        ≡ (uses_bucket k b || any_of (λ j. uses_bucket j b) ks)
    go Ordering.lt e zk zs ih = rw (not-here k b zk (λ f. lt≢eq (sym e ∙ f))) ih
    go Ordering.gt e zk zs ih = rw (not-here k b zk (λ f. gt≢eq (sym e ∙ f))) ih
    go Ordering.eq e zk zs ih =
        let q = pos-cmp.eq-path (alloc_at b) k.pos e in
        let n : any_of (λ j. uses_bucket j b) ks ≡ false = none_after b ks zs (rw q s) in
        decides k b e ∙ or-none (uses_bucket k b) ∙ ap (λ (t : Bool). uses_bucket k b || t) (sym n)

pub used-inode-0 : (k : Key) → in_use k ≡ true → k.pos.inode ≡ 0
unfolding in_use
used-inode-0 k h = eqb-true k.pos.inode 0 (and-true (at_inode0 k) _ h).0

-- one reserved bucket more
module _ {all rest xs : List Bucket} {x : Bucket} {bits : BucketBits} (m : Marking (λ a b. same_bucket a b) bucket_in_range all rest bits) (e : rest ≡ x ∷ xs) where
  pub reserved-more : Marking (λ a b. same_bucket a b) bucket_in_range all xs (with_mark bits x)
  reserved-more =
      marking-on (λ a b. same_bucket a b) bucket_in_range all m e (mark-length bits x)
      (λ b _. mark-told bits x b (omega (arith, m.size, ltb-true x.0 65536 (first-ranged (λ a b. same_bucket a b) bucket_in_range all m e))))

-- one key more
module _ {all rest xs : List Key} {x : Key} {bits : BucketBits} (m : Marking uses_bucket in_range all rest bits) (e : rest ≡ x ∷ xs) where
  pub used-more : Marking uses_bucket in_range all xs (used_mark x bits)
  used-more =
      marking-on uses_bucket in_range all m e (used-length x bits)
      (λ b _. used-told x bits b m.size (λ u. range_at x (first-ranged uses_bucket in_range all m e) (used-inode-0 x u)))
