-- A change list is written and read back, batch by batch.
use mathlib.Core.Path.{◌≡◌, refl, ap, ◌∙◌}
use mathlib.Core.Bool.{Bool, true, false, not, ◌||◌, cond}
use mathlib.Core.List.{List, [], ◌∷◌, ◌++◌, map, append-nil, append_assoc}
use Prim.Native.Nat.{ℕ, ◌^◌, ◌<◌}
use native.Mathlib.Omega.{arith}
use lib.Dec.{eqb}
use lib.ListN.{length, drop}
use borrow.Author.Tests.{eqb-true, eq-eqb, not-true}
use Rattle.wire.specs.Numbers.{le, le_bytes}
use Rattle.wire.specs.Fields.{Field, fields, whole}
use Rattle.wire.specs.Keys.{Key, key_of}
use Rattle.wire.specs.Encode.{key_body}
use Rattle.wire.specs.Kinds.{bucket_read, bucket_bytes}
use Rattle.wire.specs.Rows.{Counters, row_body, row_of}
use Rattle.wire.specs.Bytes.{All, none, more, Bytes}
use Rattle.wire.proofs.NumberLaws.{all_append, all_drop, bytes_le, le-bound, le-le_bytes, le-length}
use Rattle.wire.proofs.RoundTrip.{FieldFits, fields_back, whole_back, key_back}
use Rattle.wire.proofs.RowLaws.{RowFits, RowLength, short, long, row_back, row-length, row-bytes, row_fits}
use Rattle.calls.specs.Lists.{all_of}
use Rattle.calls.specs.CallList.{keys_of, tree_fields, bodies, shaped}
use Rattle.calls.specs.ChangeList.{Spot, Batch, spot_body, spot_of, end_field, batch_fields, change_fields, change_bytes, into_first, split_batches, change_shapes, root_listed, field_ok, closed, tags_ascend, change_laid_out, batch_of, changes_of}
use Rattle.calls.proofs.lists.AllLaws.{all-imp, all_join, all-each, all_map, all-test, test-all, map_back}
use Rattle.calls.proofs.encoding.Blocks.{Block, field, flat, InBlock, flat-all, flat-tags, has_of, bodies-all, flat-order, FieldSound, takes, shaped_in, shaped-fits}
use Rattle.calls.proofs.lists.BoolLaws.{both, parts}
use Rattle.calls.proofs.encoding.FieldBytes.{number-back, Storable, encode-bytes, fields-bytes}
use Rattle.calls.proofs.trees.SixTrees.{EachTree}
use Rattle.calls.proofs.encoding.TreeFields.{TreesFit, tree_tags, keys_block, tree_blocks, map-block, keys-sound, trees-sound, part-back, keys-back, trees-back, keys-read, trees-read}
use Rattle.calls.proofs.encoding.VolumeTrip.{BucketFits, buckets_block, buckets-sound, buckets-back}

pub record SpotFits (s : Spot) : Type 0 where
  pub first : s.first.0 < 2 ^ 64
  pub stored : s.stored < 2 ^ 16
  pub bucket : BucketFits s.bucket
  pub generation : s.generation < 2 ^ 8

-- each number fits its bytes
pub record BatchFits (b : Batch) : Type 0 where
  pub extents : All Storable b.extents
  pub trees : TreesFit b.trees
  pub roots : All (λ id. id < 2 ^ 8) b.roots
  pub taken : All BucketFits b.taken
  pub spots : All SpotFits b.spots
  pub rows : All RowFits b.rows
  pub sectors : All (λ n. n < 2 ^ 64) b.sectors
  pub discarded : All BucketFits b.discarded

abbrev pub is_root : ℕ → Bool
is_root id = eqb id 10 || (eqb id 12 || eqb id 14)

-- what a layout asks of a batch besides
pub record BatchOk (b : Batch) : Type 0 where
  pub trees : EachTree (All (λ k. k.pos.snapshot ≡ 0)) b.trees
  pub roots : All (λ id. is_root id ≡ true) b.roots

-- blocks

abbrev numbers_block : ℕ → ℕ → List ℕ → Block
numbers_block t n xs = record { tag = t; has = map (le_bytes n) xs }

abbrev batch_blocks : Batch → List Block
batch_blocks b =
    keys_block 0 b.extents ∷ tree_blocks b.trees
    ++ (numbers_block 70 1 b.roots ∷ buckets_block 71 b.taken ∷ record { tag = 72; has = map spot_body b.spots }
    ∷ record { tag = 73; has = map row_body b.rows }
    ∷ numbers_block 74 8 b.sectors
    ∷ buckets_block 75 b.discarded
    ∷ [])

batch-flat : (b : Batch) (fs : List Field) → batch_fields b ++ fs ≡ flat (batch_blocks b) ++ (end_field ∷ fs)
unfolding batch_fields tree_fields flat
batch-flat b fs = simp (append_assoc, append-nil, map-block)

-- written

numbers-sound : (t n : ℕ) (xs : List ℕ) → takes t n n change_shapes ≡ true → InBlock (FieldSound change_shapes) (numbers_block t n xs)
numbers-sound t n xs e =
    all_map (le_bytes n)
    (all-each
    (λ x.
    record {
      shape = shaped_in t n n change_shapes (le_bytes n x) e (omega (arith, le-length n x)) (omega (arith, le-length n x));
      bytes = bytes_le n x;
    }) xs)

spot-bytes : (s : Spot) → Bytes (spot_body s)
unfolding spot_body
spot-bytes s = search (all_append, bytes_le)

spot-sound : (s : Spot) → FieldSound change_shapes (field 72 (spot_body s))
unfolding change_shapes spot_body le_bytes
spot-sound s =
    record {
      shape = shaped_in 72 15 15 change_shapes (spot_body s) refl (omega arith) (omega arith);
      bytes = spot-bytes s;
    }

row-sound : (r : Counters) → RowFits r → FieldSound change_shapes (field 73 (row_body r))
unfolding change_shapes
row-sound r h = record { shape = go (row-length r.inode r.offset h.numbers) refl; bytes = row-bytes r }
  where
    go : {n : ℕ} → RowLength n → length (row_body r) ≡ n → shaped change_shapes (field 73 (row_body r)) ≡ true
    go short e = shaped_in 73 24 24 change_shapes (row_body r) refl (omega arith) (omega arith)
    go long e = shaped_in 73 40 40 change_shapes (row_body r) refl (omega arith) (omega arith)

batch-sound : {b : Batch} → BatchFits b → All (InBlock (FieldSound change_shapes)) (batch_blocks b)
unfolding change_shapes all_of
batch-sound {b} h =
    more (keys-sound 0 refl h.extents)
    (all_append (trees-sound (test-all _ tree_tags refl) h.trees)
    (more (numbers-sound 70 1 b.roots refl)
    (more (buckets-sound 71 b.taken refl)
    (more (all_map spot_body (all-each spot-sound b.spots))
    (more (all_map row_body (all-imp row-sound h.rows))
    (more (numbers-sound 74 8 b.sectors refl) (more (buckets-sound 75 b.discarded refl) none)))))))

changes-sound : {bs : List Batch} → All BatchFits bs → All (FieldSound change_shapes) (change_fields bs)
unfolding change_fields change_shapes
changes-sound none = none
changes-sound (more {a = b} {s = bs} h r) =
    rw (batch-flat b (change_fields bs))
    (all_append (flat-all (batch-sound h))
    (more (record { shape = shaped_in 76 0 0 change_shapes [] refl (omega arith) (omega arith); bytes = none }) (changes-sound r)))

changes-fit : {bs : List Batch} → All BatchFits bs → All FieldFits (change_fields bs)
unfolding change_shapes all_of
changes-fit h = all-imp (λ f s. shaped-fits change_shapes f refl s.shape) (changes-sound h)

change-fields : {bs : List Batch} → All BatchFits bs → fields (change_bytes bs) ≡ change_fields bs
unfolding change_bytes
change-fields h = fields_back (changes-fit h)

pub bytes-change : {bs : List Batch} → All BatchFits bs → Bytes (change_bytes bs)
unfolding change_bytes
bytes-change h = encode-bytes (all-imp (λ f s. s.bytes) (changes-sound h))

-- split

split-end : {xs : List Field} (fs : List Field) → All (λ f. not (eqb f.tag 76) ≡ true) xs → split_batches (xs ++ (end_field ∷ fs)) ≡ xs ∷ split_batches fs
unfolding split_batches
split-end fs none = refl
split-end fs (more {a = f} h r) = rw (not-true (eqb f.tag 76) h, split-end fs r)

split-batch : (b : Batch) (fs : List Field) → split_batches (flat (batch_blocks b) ++ (end_field ∷ fs)) ≡ flat (batch_blocks b) ∷ split_batches fs
unfolding all_of
split-batch b fs = split-end fs (flat-tags (λ n. not (eqb n 76)) (batch_blocks b) refl)

split-changes : (bs : List Batch) → split_batches (change_fields bs) ≡ map (λ b. flat (batch_blocks b)) bs
unfolding change_fields split_batches
split-changes [] = refl
split-changes (b ∷ bs) =
    ap split_batches (batch-flat b (change_fields bs)) ∙ split-batch b (change_fields bs)
    ∙ ap (λ (l : List (List Field)). flat (batch_blocks b) ∷ l) (split-changes bs)

-- read back

spot_back : (s : Spot) → SpotFits s → spot_of (spot_body s) ≡ s
unfolding spot_of spot_body le_bytes
spot_back s h =
    let b : List ℕ = spot_body s in
    let f : le 8 b ≡ s.first.0 = le-le_bytes 8 s.first.0 _ h.first in
    let n : le 2 (drop 8 b) ≡ s.stored = le-le_bytes 2 s.stored _ h.stored in
    let k : le 4 (drop 10 b) ≡ s.bucket.0 = le-le_bytes 4 s.bucket.0 _ h.bucket in
    let g : le 1 (drop 14 b) ≡ s.generation = le-le_bytes 1 s.generation [] h.generation in
    λ i. record { first = record { 0 = f i }; stored = n i; bucket = record { 0 = k i }; generation = g i }

numbers-back : (t n : ℕ) (ks : List Block) {xs : List ℕ} → has_of t ks ≡ map (le_bytes n) xs ++ [] → All (λ x. x < 256 ^ n) xs → map (le n) (bodies t (flat ks)) ≡ xs
numbers-back t n ks e h = part-back (le_bytes n) (le n) t ks e (all-imp (number-back n) h)

batch-back : (b : Batch) → BatchFits b → batch_of (flat (batch_blocks b)) ≡ b
unfolding batch_of
batch-back b h =
    let ks : List Block = batch_blocks b in
    let e : map key_of (bodies 0 (flat ks)) ≡ b.extents = keys-back 0 ks refl h.extents in
    let t : keys_of (flat ks) ≡ b.trees = trees-back ks h.trees refl refl refl refl refl refl in
    let r : map (le 1) (bodies 70 (flat ks)) ≡ b.roots = numbers-back 70 1 ks refl h.roots in
    let k : map bucket_read (bodies 71 (flat ks)) ≡ b.taken = buckets-back 71 ks refl h.taken in
    let s : map spot_of (bodies 72 (flat ks)) ≡ b.spots = part-back spot_body spot_of 72 ks refl (all-imp spot_back h.spots) in
    let c : map row_of (bodies 73 (flat ks)) ≡ b.rows = part-back row_body row_of 73 ks refl (all-imp row_back h.rows) in
    let n : map (le 8) (bodies 74 (flat ks)) ≡ b.sectors = numbers-back 74 8 ks refl h.sectors in
    let d : map bucket_read (bodies 75 (flat ks)) ≡ b.discarded = buckets-back 75 ks refl h.discarded in
    λ i. record { extents = e i; trees = t i; roots = r i; taken = k i; spots = s i; rows = c i; sectors = n i; discarded = d i }

pub changes-back : {bs : List Batch} → All BatchFits bs → changes_of (change_bytes bs) ≡ bs
unfolding changes_of
changes-back {bs} h =
    ap (λ (fs : List Field). map batch_of (split_batches fs)) (change-fields h) ∙ ap (map batch_of) (split-changes bs)
    ∙ map_back (λ b. flat (batch_blocks b)) batch_of (all-imp batch-back h)

-- laid out

closed_after : (xs : List Field) (f : Field) (fs : List Field) → closed (xs ++ (f ∷ fs)) ≡ closed (f ∷ fs)
unfolding closed
closed_after [] f fs = refl
closed_after (x ∷ []) f fs = refl
closed_after (x ∷ y ∷ xs) f fs = closed_after (y ∷ xs) f fs

closed-end : (fs : List Field) → closed fs ≡ true → closed (end_field ∷ fs) ≡ true
unfolding closed
closed-end [] h = refl
closed-end (f ∷ fs) h = h

closed-changes : (bs : List Batch) → closed (change_fields bs) ≡ true
unfolding change_fields closed
closed-changes [] = refl
closed-changes (b ∷ bs) =
    ap closed (batch-flat b (change_fields bs)) ∙ closed_after (flat (batch_blocks b)) end_field (change_fields bs)
    ∙ closed-end (change_fields bs) (closed-changes bs)

snapshots-ok : {ks : List Key} → All Storable ks → All (λ k. k.pos.snapshot ≡ 0) ks → All (λ b. eqb (key_of b).pos.snapshot 0 ≡ true) (map key_body ks)
snapshots-ok h e =
    all_map key_body
    (all_join (λ k s z. eq-eqb _ _ (ap (λ (j : Key). j.pos.snapshot) (key_back k s.fits) ∙ z)) h e)

batch-ok : {b : Batch} → BatchFits b → BatchOk b → All (InBlock (λ f. field_ok f ≡ true)) (batch_blocks b)
unfolding field_ok root_listed
batch-ok {b} h ok =
    more (all-each (λ x. refl) (map key_body b.extents))
    (more (snapshots-ok h.trees.alloc ok.trees.alloc)
    (more (snapshots-ok h.trees.lru ok.trees.lru)
    (more (snapshots-ok h.trees.freespace ok.trees.freespace)
    (more (snapshots-ok h.trees.need_discard ok.trees.need_discard)
    (more (snapshots-ok h.trees.backpointers ok.trees.backpointers)
    (more (snapshots-ok h.trees.gens ok.trees.gens)
    (more (all_map (le_bytes 1) (all_join (λ id l e. ap is_root (number-back 1 id l) ∙ e) h.roots ok.roots))
    (more (all-each (λ x. refl) (map bucket_bytes b.taken))
    (more (all-each (λ x. refl) (map spot_body b.spots))
    (more (all-each (λ x. refl) (map row_body b.rows))
    (more (all-each (λ x. refl) (map (le_bytes 8) b.sectors)) (more (all-each (λ x. refl) (map bucket_bytes b.discarded)) none))))))))))))

changes-ok : {bs : List Batch} → All BatchFits bs → All BatchOk bs → All (λ f. field_ok f ≡ true) (change_fields bs)
unfolding change_fields field_ok
changes-ok none none = none
changes-ok (more {a = b} {s = bs} h r) (more ok q) =
    rw (batch-flat b (change_fields bs)) (all_append (flat-all (batch-ok h ok)) (more refl (changes-ok r q)))

pub change-laid-out : {bs : List Batch} → All BatchFits bs → All BatchOk bs → change_laid_out (change_bytes bs) ≡ true
unfolding change_laid_out change_bytes
change-laid-out {bs} h ok =
    both (whole_back (changes-fit h))
    (rw (change-fields h)
    (both (all-test (shaped change_shapes) (all-imp (λ f s. s.shape) (changes-sound h)))
    (both (all-test field_ok (changes-ok h ok))
    (both (closed-changes bs)
    (rw (split-changes bs)
    (all-test tags_ascend
    (all_map (λ b. flat (batch_blocks b)) (all-each (λ b. flat-order (batch_blocks b) refl) bs))))))))

-- read: a list of bytes that is laid out right is batches that fit

pub split-all : {P : Field → Type 0} {fs : List Field} → All P fs → All (All P) (split_batches fs)
unfolding split_batches
split-all none = none
split-all {P} (more {a = f} {s = fs} h r) = go (eqb f.tag 76) (split_batches fs) (split-all r)
  where
    go : (t : Bool) (bs : List (List Field)) → All (All P) bs → All (All P) (cond t ([] ∷ bs) (into_first f bs))
    go true bs q = more none q
    go false [] none = more (more h none) none
    go false (b ∷ bs) (more g q) = more (more h g) q

spot-fits : {b : List ℕ} → Bytes b → SpotFits (spot_of b)
unfolding spot_of
spot-fits r =
    record {
      first = le-bound 8 r;
      stored = le-bound 2 (all_drop 8 r);
      bucket = le-bound 4 (all_drop 10 r);
      generation = le-bound 1 (all_drop 14 r);
    }

module _ {fs : List Field} (h : All (FieldSound change_shapes) fs) where
  -- the bodies with a tag, read
  parts-read : {A : Type 0} {P : A → Type 0} (t : ℕ) (r : List ℕ → A) → ((b : List ℕ) → Bytes b → P (r b)) → All P (map r (bodies t fs))
  parts-read t r f = all_map r (all-imp (λ b s. f b s.bytes) (bodies-all t h))

  batch-read : BatchFits (batch_of fs)
  unfolding batch_of change_shapes all_of
  batch-read =
      record {
        extents = keys-read h 0 refl;
        trees = trees-read h (test-all _ tree_tags refl);
        roots = parts-read 70 (le 1) (λ b r. le-bound 1 r);
        taken = parts-read 71 bucket_read (λ b r. le-bound 4 r);
        spots = parts-read 72 spot_of (λ b r. spot-fits r);
        rows = parts-read 73 row_of (λ b r. row_fits r);
        sectors = parts-read 74 (le 8) (λ b r. le-bound 8 r);
        discarded = parts-read 75 bucket_read (λ b r. le-bound 4 r);
      }

zeros-read : {bs : List (List ℕ)} → All (λ b. eqb (key_of b).pos.snapshot 0 ≡ true) bs → All (λ k. k.pos.snapshot ≡ 0) (map key_of bs)
zeros-read h = all_map key_of (all-imp (λ b e. eqb-true (key_of b).pos.snapshot 0 e) h)

ok_read : {fs : List Field} → All (λ f. field_ok f ≡ true) fs → BatchOk (batch_of fs)
unfolding batch_of keys_of field_ok root_listed
ok_read h =
    record {
      trees =
          record {
            alloc = zeros-read (bodies-all 4 h);
            lru = zeros-read (bodies-all 10 h);
            freespace = zeros-read (bodies-all 11 h);
            need_discard = zeros-read (bodies-all 12 h);
            backpointers = zeros-read (bodies-all 13 h);
            gens = zeros-read (bodies-all 14 h);
          };
      roots = all_map (le 1) (bodies-all 70 h);
    }

pub change-fits : {s : List ℕ} → Bytes s → change_laid_out s ≡ true → All BatchFits (changes_of s) × All BatchOk (changes_of s)
unfolding change_laid_out changes_of
change-fits {s} r h =
    let fs : List Field = fields s in
    let a = parts (whole s) _ h in
    let b = parts (all_of (shaped change_shapes) fs) _ a.1 in
    let c = parts (all_of field_ok fs) _ b.1 in
    let sound : All (FieldSound change_shapes) fs =
    all_join (λ f k u. record { shape = k; bytes = u }) (test-all (shaped change_shapes) fs b.0) (fields-bytes 0 r)
    in (
      all_map batch_of (all-imp (λ gs q. batch-read q) (split-all sound)),
      all_map batch_of (all-imp (λ gs q. ok_read q) (split-all (test-all field_ok fs c.0))),
    )
