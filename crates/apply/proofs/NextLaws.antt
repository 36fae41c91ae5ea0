-- The next volume, section by section: its bytes and its limits.
use mathlib.Core.Path.{◌≡◌, refl, ap, sym, ◌∙◌}
use mathlib.Core.Bool.{Bool, true, false, not, ◌&&◌, ◌||◌, and-true}
use mathlib.Core.List.{List, [], ◌∷◌, ◌++◌, map, append_assoc, append-nil}
use Prim.Native.Nat.{ℕ, ◌≤◌, ◌<◌}
use native.Mathlib.Omega.{arith}
use lib.Dec.{leb, eqb}
use lib.ListN.{length, get_or, length-map}
use borrow.Author.Tests.{eqb-true, ne_eqb, le-leb}
use Rattle.wire.specs.Numbers.{each}
use Rattle.wire.specs.Fields.{Field, fields_after, fields, size, whole}
use Rattle.wire.specs.Keys.{Key, key_of}
use Rattle.wire.specs.Encode.{encode_field, encode, key_field}
use Rattle.wire.specs.Kinds.{bucket_in_range, run_end_in_range, base_in_range}
use Rattle.wire.specs.Positions.{bucket_in}
use Rattle.wire.specs.declared.kinds.Bucket.{Bucket}
use Rattle.wire.proofs.EncodeLaws.{encode-next, encode-append}
use Rattle.calls.specs.Lists.{all_of}
use Rattle.calls.specs.CallList.{Head, head_body, Trees, Volume, bodies, keys_of, key_below, sorted_trees, call_list_of, shaped, tree_fields, reserved_field, volume_fields, volume_bytes}
use Rattle.calls.specs.Sorting.{sorted_by}
use Rattle.calls.specs.Limits.{is_set, at_inode0, is_run, few_keys, counts_ok, buckets_ok, volume_within}
use Rattle.calls.specs.ChangeList.{change_shapes, closed, change_laid_out, split_batches, changes_of}
use Rattle.calls.specs.Trees.{apply_queue}
use Rattle.calls.specs.Apply.{apply_trees, with_roots, apply_batches}
use Rattle.calls.specs.Answers.{read_volume, next_volume}
use Rattle.calls.proofs.lists.AllLaws.{all-nth, all-imp, all-each, all-test, test-all}
use Rattle.calls.proofs.lists.BoolLaws.{both, parts}
use Rattle.calls.proofs.encoding.Blocks.{field, keeps, shaped_out}
use Rattle.reader.proofs.BoolLaws.{same}
use Rattle.reader.proofs.DoubledLaws.{entries-bodies}
use Rattle.sorting.specs.Entries.{sections, bucket_key, is_entry, entries, field_for, section_bytes}
use Rattle.reader.specs.CallFields.{key_fits}
use Rattle.merge.specs.Counts.{section_within}
use Rattle.apply.specs.Roots.{roots_after, front_bytes}
use Rattle.apply.proofs.BatchLaws.{tree-changes, bucket-changes, head-changes}
use Rattle.apply.specs.NextVolume.{section_keys, next_of}
use Rattle.apply.proofs.VolumeLaws.{tree-keys, tree-read, buckets-read}

-- its sections

-- a field of a change list, with the tag of a tree
tree-entry : (t : ℕ) → t ≤ 14 → keeps t 37 293 change_shapes ≡ true → (f : Field) → shaped change_shapes f ≡ true → is_entry t f.tag (length f.body) ≡ eqb f.tag t
unfolding is_entry
tree-entry t m k f s = rw (ne_eqb t 64 (λ e. omega arith)) (go (eqb f.tag t) refl)
  where
    go : (b : Bool) → eqb f.tag t ≡ b → (b && (leb 37 (length f.body) && leb (length f.body) 293)) ≡ b
    go true e =
        let z : shaped change_shapes (field t f.body) ≡ true =
        ap (λ (n : ℕ). shaped change_shapes (field n f.body)) (sym (eqb-true f.tag t e)) ∙ s in
        let l = shaped_out t 37 293 change_shapes f.body k z in
        both (le-leb 37 (length f.body) l.0) (le-leb (length f.body) 293 l.1)
    go false e = refl

module _ (vol list : List ℕ) (l : change_laid_out list ≡ true) where
  -- the queued keys of a tree
  queued : (t : ℕ) → t ≤ 14 → keeps t 37 293 change_shapes ≡ true → entries t (fields list) ≡ map key_of (bodies t (fields list))
  unfolding change_laid_out
  queued t m k =
      let fs : List Field = fields list in
      let a = parts (whole list) _ l in
      let b = parts (all_of (shaped change_shapes) fs) _ a.1 in
      entries-bodies t (all-imp (tree-entry t m k) (test-all (shaped change_shapes) fs b.0)) ∙ tree-keys t m (bodies t fs)

  -- a tree, and the reserved buckets
  next-tree :
      (t : ℕ) (of : Trees → List Key) → t ≤ 14 → eqb 76 t ≡ false → keeps t 37 293 change_shapes ≡ true
      → ((gs : List Field) → of (keys_of gs) ≡ map key_of (bodies t gs))
      → ((q v : Trees) → of (apply_trees q v) ≡ apply_queue (of q) (of v))
      → of (read_volume vol).trees ≡ sorted_by key_below (map key_of (bodies t (fields vol)))
      → of (next_volume vol list).trees ≡ next_of vol list t
  unfolding next_of
  next-tree t of m n k h a s =
      tree-changes t of n h a list (read_volume vol)
      ∙ (λ i. apply_queue (sym (queued t m k) i) ((s ∙ sym (tree-read vol t m)) i))

  next-buckets : map (bucket_key 1) (next_volume vol list).reserved ≡ next_of vol list 64
  unfolding next_of
  next-buckets = bucket-changes list (read_volume vol) l ∙ ap (apply_queue (entries 64 (fields list))) (sym (buckets-read vol))

-- all of them
pub record NextSections (vol list : List ℕ) : Type 0 where
  pub alloc : (next_volume vol list).trees.alloc ≡ next_of vol list 4
  pub lru : (next_volume vol list).trees.lru ≡ next_of vol list 10
  pub freespace : (next_volume vol list).trees.freespace ≡ next_of vol list 11
  pub need_discard : (next_volume vol list).trees.need_discard ≡ next_of vol list 12
  pub backpointers : (next_volume vol list).trees.backpointers ≡ next_of vol list 13
  pub gens : (next_volume vol list).trees.gens ≡ next_of vol list 14
  pub reserved : map (bucket_key 1) (next_volume vol list).reserved ≡ next_of vol list 64

next-is : (vol list : List ℕ) → change_laid_out list ≡ true → NextSections vol list
unfolding call_list_of sorted_trees keys_of apply_trees change_shapes
next-is vol list l =
    record {
      alloc = next-tree vol list l 4 (λ t. t.alloc) (omega arith) refl refl (λ gs. refl) (λ q v. refl) refl;
      lru = next-tree vol list l 10 (λ t. t.lru) (omega arith) refl refl (λ gs. refl) (λ q v. refl) refl;
      freespace = next-tree vol list l 11 (λ t. t.freespace) (omega arith) refl refl (λ gs. refl) (λ q v. refl) refl;
      need_discard = next-tree vol list l 12 (λ t. t.need_discard) (omega arith) refl refl (λ gs. refl) (λ q v. refl) refl;
      backpointers = next-tree vol list l 13 (λ t. t.backpointers) (omega arith) refl refl (λ gs. refl) (λ q v. refl) refl;
      gens = next-tree vol list l 14 (λ t. t.gens) (omega arith) refl refl (λ gs. refl) (λ q v. refl) refl;
      reserved = next-buckets vol list l;
    }

-- the bytes of a volume, section by section

for-tree : (t : ℕ) → eqb t 64 ≡ false → (k : Key) → key_field t k ≡ field_for t k
unfolding field_for
for-tree t n k = rw n

tree-bytes : (t : ℕ) → eqb t 64 ≡ false → (ks : List Key) → encode (map (key_field t) ks) ≡ section_bytes t ks
unfolding encode each section_bytes
tree-bytes t n [] = refl
tree-bytes t n (k ∷ ks) = λ i. encode_field (for-tree t n k i) ++ tree-bytes t n ks i

bucket-bytes : (bs : List Bucket) → encode (map reserved_field bs) ≡ section_bytes 64 (map (bucket_key 1) bs)
unfolding encode each section_bytes field_for
bucket-bytes [] = refl
bucket-bytes (b ∷ bs) = ap (λ (l : List ℕ). encode_field (reserved_field b) ++ l) (unfold encode section_bytes in (bucket-bytes bs))

volume-parts :
    (v : Volume)
    → volume_bytes v
    ≡ encode_field (field 1 (head_body v.head))
    ++ (section_bytes 4 v.trees.alloc
    ++ (section_bytes 10 v.trees.lru
    ++ (section_bytes 11 v.trees.freespace
    ++ (section_bytes 12 v.trees.need_discard
    ++ (section_bytes 13 v.trees.backpointers
    ++ (section_bytes 14 v.trees.gens ++ section_bytes 64 (map (bucket_key 1) v.reserved)))))))
unfolding volume_bytes volume_fields tree_fields
volume-parts v =
    simp (
      encode-next,
      encode-append,
      append_assoc,
      tree-bytes 4 refl,
      tree-bytes 10 refl,
      tree-bytes 11 refl,
      tree-bytes 12 refl,
      tree-bytes 13 refl,
      tree-bytes 14 refl,
      bucket-bytes,
    )

-- the bytes of the next volume

unfoldable pub next_bytes : List ℕ → List ℕ → ℕ → List ℕ
next_bytes vol list t = section_bytes t (next_of vol list t)

module _ (vol list : List ℕ) (l : change_laid_out list ≡ true) where
  next-front : encode_field (field 1 (head_body (next_volume vol list).head)) ≡ front_bytes (read_volume vol).head (roots_after list (read_volume vol).head.roots)
  unfolding front_bytes
  next-front = ap (λ (h : Head). encode_field (field 1 (head_body h))) (head-changes list (read_volume vol))

  pub next-bytes : volume_bytes (next_volume vol list) ≡ front_bytes (read_volume vol).head (roots_after list (read_volume vol).head.roots) ++ each (next_bytes vol list) sections
  unfolding each next_bytes
  next-bytes =
      let n = next-is vol list l in
      let last : section_bytes 64 (map (bucket_key 1) (next_volume vol list).reserved) ≡ section_bytes 64 (next_of vol list 64) ++ [] =
      ap (section_bytes 64) n.reserved ∙ sym (append-nil (section_bytes 64 (next_of vol list 64))) in
      volume-parts (next_volume vol list)
      ∙ (λ i.
      next-front i
      ++ (section_bytes 4 (n.alloc i)
      ++ (section_bytes 10 (n.lru i)
      ++ (section_bytes 11 (n.freespace i)
      ++ (section_bytes 12 (n.need_discard i) ++ (section_bytes 13 (n.backpointers i) ++ (section_bytes 14 (n.gens i) ++ last i)))))))

-- the limits of the next volume

unfoldable pub next_within : List ℕ → List ℕ → ℕ → Bool
next_within vol list t = section_within t (next_of vol list t)

-- sections without a limit on buckets
free-within : (t : ℕ) (ks : List Key) → ((k : Key) → key_fits t k.type k.pos ≡ true) → section_within t ks ≡ few_keys ks
unfolding section_within few_keys
free-within t ks f = ap (λ (b : Bool). leb (length ks) 4096 && b) (go ks) ∙ and-true (leb (length ks) 4096)
  where
    go : (l : List Key) → all_of (λ k. key_fits t k.type k.pos) l ≡ true
    go l = all-test (λ k. key_fits t k.type k.pos) (all-each f l)

all-reserved : (l : List Bucket) → all_of (λ k. bucket_in_range (bucket_in k.pos)) (map (bucket_key 1) l) ≡ all_of bucket_in_range l
unfolding all_of
all-reserved [] = refl
all-reserved (b ∷ l) = ap (λ (t : Bool). bucket_in_range b && t) (all-reserved l)

reserved-within : (bs : List Bucket) → section_within 64 (map (bucket_key 1) bs) ≡ (leb (length bs) 4096 && all_of bucket_in_range bs)
unfolding section_within key_fits
reserved-within bs = λ i. leb (length-map bs (bucket_key 1) i) 4096 && all-reserved bs i

-- the tests of a volume, in another order: counts, then buckets; or section by section
module _ (a4 a10 a11 a12 a13 a14 b4 b11 b12 r n x y : Bool) (hx : x ≡ true) (hy : y ≡ true) where
  abbrev by_kind : Bool
  by_kind = (a4 && (a10 && (a11 && (a12 && (a13 && a14))))) && ((b4 && (b12 && b11)) && (r && (n && (x && y))))

  abbrev by-section : Bool
  by-section = (a4 && b4) && (a10 && ((a11 && b11) && ((a12 && b12) && (a13 && (a14 && ((r && n) && true))))))

  to-sections : by_kind ≡ true → by-section ≡ true
  to-sections h =
      let p = parts (a4 && (a10 && (a11 && (a12 && (a13 && a14))))) _ h in
      let c4 = parts a4 _ p.0 in
      let c10 = parts a10 _ c4.1 in
      let c11 = parts a11 _ c10.1 in
      let c12 = parts a12 _ c11.1 in
      let c13 = parts a13 a14 c12.1 in
      let q = parts (b4 && (b12 && b11)) _ p.1 in
      let d4 = parts b4 _ q.0 in
      let d12 = parts b12 b11 d4.1 in
      let e = parts r _ q.1 in
      let f = parts n _ e.1 in
      both (both c4.0 d4.0)
      (both c10.0
      (both (both c11.0 d12.1)
      (both (both c12.0 d12.0) (both c13.0 (both c13.1 (both (both e.0 f.0) refl))))))

  to-kinds : by-section ≡ true → by_kind ≡ true
  to-kinds h =
      let c4 = parts (a4 && b4) _ h in
      let c10 = parts a10 _ c4.1 in
      let c11 = parts (a11 && b11) _ c10.1 in
      let c12 = parts (a12 && b12) _ c11.1 in
      let c13 = parts a13 _ c12.1 in
      let c14 = parts a14 _ c13.1 in
      let e = parts r n (parts (r && n) true c14.1).0 in
      let d4 = parts a4 b4 c4.0 in
      let d11 = parts a11 b11 c11.0 in
      let d12 = parts a12 b12 c12.0 in
      both (both d4.0 (both c10.0 (both d11.0 (both d12.0 (both c13.0 c14.0)))))
      (both (both d4.1 (both d12.1 d11.1)) (both e.0 (both e.1 (both hx hy))))

  same_tests : by_kind ≡ by-section
  same_tests = same by_kind by-section to-sections to-kinds

volume-within :
    (v : Volume) → leb v.head.reserve 65536 ≡ true → base_in_range v.head.base ≡ true
    → volume_within v
    ≡ (section_within 4 v.trees.alloc
    && (section_within 10 v.trees.lru
    && (section_within 11 v.trees.freespace
    && (section_within 12 v.trees.need_discard
    && (section_within 13 v.trees.backpointers
    && (section_within 14 v.trees.gens && (section_within 64 (map (bucket_key 1) v.reserved) && true)))))))
unfolding volume_within counts_ok buckets_ok section_within few_keys key_fits
volume-within v hx hy =
    let t : Trees = v.trees in
    let few : List Key → Bool = few_keys in
    same_tests (few t.alloc) (few t.lru) (few t.freespace) (few t.need_discard) (few t.backpointers) (few t.gens)
    (all_of (λ k. not (at_inode0 k) || bucket_in_range (bucket_in k.pos)) t.alloc)
    (all_of (λ k. not (is_run k) || run_end_in_range (bucket_in k.pos)) t.freespace)
    (all_of (λ k. not (is_set k) || bucket_in_range (bucket_in k.pos)) t.need_discard)
    (leb (length v.reserved) 4096)
    (all_of bucket_in_range v.reserved)
    (leb v.head.reserve 65536)
    (base_in_range v.head.base)
    hx hy
    ∙ (λ i.
    tree-4 t.alloc i
    && (sym (free-within 10 t.lru (λ k. refl)) i
    && (tree-11 t.freespace i
    && (tree-12 t.need_discard i
    && (sym (free-within 13 t.backpointers (λ k. refl)) i
    && (sym (free-within 14 t.gens (λ k. refl)) i && (sym (reserved-within v.reserved) i && true)))))))
  where
    tree-4 : (ks : List Key) → (few_keys ks && all_of (λ k. not (at_inode0 k) || bucket_in_range (bucket_in k.pos)) ks) ≡ section_within 4 ks
    tree-4 ks = refl

    tree-11 : (ks : List Key) → (few_keys ks && all_of (λ k. not (is_run k) || run_end_in_range (bucket_in k.pos)) ks) ≡ section_within 11 ks
    tree-11 ks = refl

    tree-12 : (ks : List Key) → (few_keys ks && all_of (λ k. not (is_set k) || bucket_in_range (bucket_in k.pos)) ks) ≡ section_within 12 ks
    tree-12 ks = refl

head-within : (v : Volume) → volume_within v ≡ true → (leb v.head.reserve 65536 ≡ true) × (base_in_range v.head.base ≡ true)
unfolding volume_within
head-within v h =
    let a = parts (counts_ok v.trees) _ h in
    let b = parts (buckets_ok v.trees) _ a.1 in
    let c = parts (leb (length v.reserved) 4096) _ b.1 in
    let d = parts (all_of bucket_in_range v.reserved) _ c.1 in
    parts (leb v.head.reserve 65536) (base_in_range v.head.base) d.1

pub next-within :
    (vol list : List ℕ) → change_laid_out list ≡ true → volume_within (read_volume vol) ≡ true
    → volume_within (next_volume vol list) ≡ all_of (next_within vol list) sections
unfolding all_of next_within with_roots
next-within vol list l h =
    let n = next-is vol list l in
    let v : Volume = next_volume vol list in
    let e = head-changes list (read_volume vol) in
    let w = head-within (read_volume vol) h in
    volume-within v
    (ap (λ (x : Head). leb x.reserve 65536) e ∙ w.0)
    (ap (λ (x : Head). base_in_range x.base) e ∙ w.1)
    ∙ (λ i.
    section_within 4 (n.alloc i)
    && (section_within 10 (n.lru i)
    && (section_within 11 (n.freespace i)
    && (section_within 12 (n.need_discard i)
    && (section_within 13 (n.backpointers i) && (section_within 14 (n.gens i) && (section_within 64 (n.reserved i) && true)))))))

-- the volume itself: no bytes at all change nothing
none-laid : change_laid_out [] ≡ true
unfolding change_laid_out whole size fields_after all_of closed split_batches
none-laid = refl

none-changed : (vol : List ℕ) → next_volume vol [] ≡ read_volume vol
unfolding changes_of split_batches fields_after apply_batches
none-changed vol = refl

none-next : (vol : List ℕ) (t : ℕ) → next_of vol [] t ≡ section_keys vol t
unfolding next_of entries fields_after apply_queue
none-next vol t = refl

-- so each of its sections is within its limits
pub section-within :
    (vol : List ℕ) → volume_within (read_volume vol) ≡ true → (i : ℕ) → i < 7
    → section_within (get_or sections i 0) (section_keys vol (get_or sections i 0)) ≡ true
unfolding next_within
section-within vol h i l =
    let e : all_of (next_within vol []) sections ≡ true = sym (next-within vol [] none-laid h) ∙ ap volume_within (none-changed vol) ∙ h in
    let w : next_within vol [] (get_or sections i 0) ≡ true = all-nth 0 (test-all (next_within vol []) sections e) i l in
    ap (section_within (get_or sections i 0)) (sym (none-next vol (get_or sections i 0))) ∙ w
