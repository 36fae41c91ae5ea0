-- Apply keeps a volume fitting and laid out right: keys and reserved buckets stay in order, and roots below 8.
use mathlib.Core.Path.{◌≡◌, refl}
use mathlib.Core.Bool.{Bool, true, false, not, ◌&&◌, ◌||◌, cond, false≢true}
use mathlib.Core.List.{List, [], ◌∷◌}
use Prim.Native.Nat.{ℕ, ◌+◌, ◌/◌, ◌%◌, ◌^◌, ◌<◌, Ordering}
use native.Mathlib.Omega.{arith}
use lib.Dec.{leb, ltb, eqb}
use borrow.Author.Tests.{ltb-true, lt-ltb, eqb-true, eq-eqb}
use Rattle.wire.specs.Keys.{Key}
use Rattle.wire.specs.Order.{cmp}
use Rattle.wire.specs.Kinds.{same_bucket, bucket_below}
use Rattle.wire.specs.declared.kinds.Bucket.{Bucket}
use Rattle.wire.specs.declared.bpos.Bpos.{Bpos}
use Rattle.wire.specs.Bytes.{All, none, more}
use Rattle.calls.specs.CallList.{Head, head_ok, keys_ok, Volume}
use Rattle.calls.specs.Trees.{on_eq, insert_at, upsert, remove, step, apply_queue}
use Rattle.calls.specs.ChangeList.{Batch}
use Rattle.calls.specs.Buckets.{insert_bucket, insert_buckets, remove_bucket, remove_buckets}
use Rattle.calls.specs.Place.{root_missing}
use Rattle.calls.specs.Apply.{root_bit, set_roots, with_roots, apply_batch, apply_batches}
use Rattle.calls.proofs.lists.AllLaws.{all-imp, all-those, all-test, test-all}
use Rattle.calls.proofs.lists.BoolLaws.{both, parts}
use Rattle.calls.proofs.freespace.UpLaws.{Up, order-up, up-order, up-insert, up-those}
use Rattle.calls.proofs.encoding.ChangeTrip.{BatchFits, is_root, BatchOk}
use Rattle.calls.proofs.trees.SixTrees.{trees-each, each-trees, each-applied}
use Rattle.calls.proofs.trees.SortedLaws.{sorted-apply_queue, sorted-order, keys-order}
use Rattle.calls.proofs.encoding.VolumeTrip.{BucketFits, VolumeFits, VolumeOk}

-- the keys of a tree

-- what holds of the keys and of the queued keys holds after the queue
module _ {P : Key → Type 0} where
  all-upsert : (k : Key) {l : List Key} → P k → All P l → All P (upsert k l)
  unfolding upsert
  all-upsert k h none = more h none
  all-upsert k h (more {a = x} {s = xs} g r) = go (cmp k.pos x.pos) (all-upsert k h r)
    where
      go : (o : Ordering) → All P (upsert k xs) → All P (insert_at o k x xs (upsert k xs))
      go Ordering.lt q = more h (more g r)
      go Ordering.eq q = more h r
      go Ordering.gt q = more g q

  all_remove : (p : Bpos) {l : List Key} → All P l → All P (remove p l)
  unfolding remove
  all_remove p none = none
  all_remove p (more {a = x} {s = xs} g r) = go (cmp p x.pos) (all_remove p r)
    where
      go : (o : Ordering) → All P (remove p xs) → All P (on_eq o (remove p xs) (x ∷ remove p xs))
      go Ordering.lt q = more g q
      go Ordering.eq q = q
      go Ordering.gt q = more g q

  all-step : (k : Key) {l : List Key} → P k → All P l → All P (step k l)
  unfolding step
  all-step k {l} h r = go (eqb k.type 0)
    where
      go : (b : Bool) → All P (cond b (remove k.pos l) (upsert k l))
      go true = all_remove k.pos r
      go false = all-upsert k h r

  pub all-apply_queue : {q l : List Key} → All P q → All P l → All P (apply_queue q l)
  unfolding apply_queue
  all-apply_queue none r = r
  all-apply_queue (more {a = k} h q) r = all-apply_queue q (all-step k h r)

-- the reserved buckets

-- ascending buckets that fit
record Buckets (l : List Bucket) : Type 0 where
  fit : All BucketFits l
  up : Up 0 l

bucket-in : (b : Bucket) (l : List Bucket) → BucketFits b → All BucketFits l → All BucketFits (insert_bucket b l)
unfolding insert_bucket
bucket-in b [] h none = more h none
bucket-in b (c ∷ cs) h (more g r) = go (bucket_below b c) (same_bucket b c) (bucket-in b cs h r)
  where
    go : (x y : Bool) → All BucketFits (insert_bucket b cs)
        → All BucketFits (cond x (b ∷ c ∷ cs) (cond y (c ∷ cs) (c ∷ insert_bucket b cs)))
    go true y q = more h (more g r)
    go false true q = more g r
    go false false q = more g q

buckets-in : {bs : List Bucket} (l : List Bucket) → All BucketFits bs → Buckets l → Buckets (insert_buckets bs l)
unfolding insert_buckets
buckets-in l none h = h
buckets-in l (more {a = b} g r) h =
    buckets-in (insert_bucket b l) r (record { fit = bucket-in b l g h.fit; up = up-insert 0 b l (omega arith) h.up })

buckets-out : (bs l : List Bucket) → Buckets l → Buckets (remove_buckets bs l)
unfolding remove_buckets remove_bucket
buckets-out [] l h = h
buckets-out (b ∷ bs) l h =
    let t : Bucket → Bool = λ c. not (same_bucket c b) in
    buckets-out bs (remove_bucket b l) (record { fit = all-those t h.fit; up = up-those t 0 l h.up })

-- roots

cond_below : (b : Bool) (x y n : ℕ) → (b ≡ true → x < n) → y < n → cond b x y < n
cond_below true x y n f h = f refl
cond_below false x y n f h = h

-- one root, at the bit that its id tells
root-set : (r id : ℕ) → is_root id ≡ true → r < 8 → cond (root_missing r (root_bit id)) (r + 2 ^ root_bit id) r < 8
unfolding root_missing
root-set r id h l = go (eqb id 10) (eqb id 12) (eqb id 14) refl refl refl h
  where
    at : (k : ℕ) → id ≡ k → (eqb (r / 2 ^ root_bit k % 2) 0 ≡ true → r + 2 ^ root_bit k < 8)
        → cond (root_missing r (root_bit id)) (r + 2 ^ root_bit id) r < 8
    at k e f = rw e (cond_below (eqb (r / 2 ^ root_bit k % 2) 0) (r + 2 ^ root_bit k) r 8 f l)

    go : (x y z : Bool) → eqb id 10 ≡ x → eqb id 12 ≡ y → eqb id 14 ≡ z → (x || (y || z)) ≡ true
        → cond (root_missing r (root_bit id)) (r + 2 ^ root_bit id) r < 8
    go true y z a b c h = at 10 (eqb-true id 10 a) (λ e. omega (arith, eqb-true (r / 2 ^ root_bit 10 % 2) 0 e))
    go false true z a b c h = at 12 (eqb-true id 12 b) (λ e. omega (arith, eqb-true (r / 2 ^ root_bit 12 % 2) 0 e))
    go false false true a b c h = at 14 (eqb-true id 14 c) (λ e. omega (arith, eqb-true (r / 2 ^ root_bit 14 % 2) 0 e))
    go false false false a b c h = absurd (false≢true h)

pub roots-below : {ids : List ℕ} (r : ℕ) → All (λ id. is_root id ≡ true) ids → r < 8 → set_roots ids r < 8
unfolding set_roots
roots-below r none l = l
roots-below r (more {a = id} h q) l = roots-below (cond (root_missing r (root_bit id)) (r + 2 ^ root_bit id) r) q (root-set r id h l)

pub keys-applied : {q : List Key} (l : List Key) → All (λ k. k.pos.snapshot ≡ 0) q → keys_ok l ≡ true → keys_ok (apply_queue q l) ≡ true
unfolding keys_ok
keys-applied {q} l z h =
    let p = keys-order l h in
    both (sorted-order (apply_queue q l) (sorted-apply_queue q l p.0))
    (all-test (λ k. eqb k.pos.snapshot 0)
    (all-apply_queue (all-imp (λ k e. eq-eqb k.pos.snapshot 0 e) z) (test-all (λ k. eqb k.pos.snapshot 0) l p.1)))

-- a batch, and all of them

head-parts : (h : Head) → head_ok h ≡ true → (leb 1 h.call ≡ true) × (leb h.call 3 ≡ true) × (ltb h.roots 8 ≡ true)
unfolding head_ok
head-parts h e =
    let p = parts (leb 1 h.call) (leb h.call 3 && ltb h.roots 8) e in
    let q = parts (leb h.call 3) (ltb h.roots 8) p.1 in
    (p.0, q.0, q.1)

module _ {b : Batch} {v : Volume} (h : BatchFits b) (ok : BatchOk b) (f : VolumeFits v) (g : VolumeOk v) where
  roots-applied : set_roots b.roots v.head.roots < 8
  roots-applied =
      roots-below v.head.roots ok.roots (ltb-true v.head.roots 8 (head-parts v.head g.head).2)

  reserved-applied : Buckets (remove_buckets b.discarded (insert_buckets b.taken v.reserved))
  reserved-applied =
      buckets-out b.discarded (insert_buckets b.taken v.reserved)
      (buckets-in v.reserved h.taken (record { fit = f.reserved; up = order-up v.reserved g.reserved }))

  batch-fits : VolumeFits (apply_batch b v)
  unfolding apply_batch with_roots
  batch-fits =
      record {
        head =
            record {
              call = f.head.call;
              bucket_sectors = f.head.bucket_sectors;
              block_sectors = f.head.block_sectors;
              option = f.head.option;
              roots = omega (arith, roots-applied);
              reserve = f.head.reserve;
              batch = f.head.batch;
              journal = f.head.journal;
              inode = f.head.inode;
              base = f.head.base;
            };
        trees = each-applied (λ q l x y. all-apply_queue x y) h.trees f.trees;
        reserved = reserved-applied.fit;
      }

  batch-laid : VolumeOk (apply_batch b v)
  unfolding apply_batch with_roots head_ok
  batch-laid =
      let p = head-parts v.head g.head in
      record {
        head = both p.0 (both p.1 (lt-ltb (set_roots b.roots v.head.roots) 8 roots-applied));
        trees = each-trees (each-applied (λ q l x y. keys-applied l x y) ok.trees (trees-each v.trees g.trees));
        reserved = up-order 0 (remove_buckets b.discarded (insert_buckets b.taken v.reserved)) reserved-applied.up;
      }

pub apply-fits :
    {bs : List Batch} {v : Volume} → All BatchFits bs → All BatchOk bs → VolumeFits v → VolumeOk v
    → VolumeFits (apply_batches bs v) × VolumeOk (apply_batches bs v)
unfolding apply_batches
apply-fits none none f g = (f, g)
apply-fits (more h r) (more ok q) f g = apply-fits r q (batch-fits h ok f g) (batch-laid h ok f g)
