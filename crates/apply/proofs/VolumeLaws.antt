-- The sections of a volume that is laid out and has no position twice, and their keys.
use mathlib.Core.Path.{◌≡◌, refl, ap, sym, ◌∙◌}
use mathlib.Core.Bool.{true, cond, and-true}
use mathlib.Core.List.{List, [], ◌∷◌, map, map-map}
use Prim.Native.Nat.{ℕ, ◌≤◌}
use native.Mathlib.Omega.{arith}
use lib.Dec.{eqb}
use lib.ListN.{length}
use borrow.Author.Tests.{eq-eqb, ne_eqb}
use Rattle.wire.specs.Bytes.{All, none, more}
use Rattle.wire.specs.Fields.{fields}
use Rattle.wire.specs.Keys.{key_of}
use Rattle.wire.specs.Kinds.{bucket_read, bucket_below}
use Rattle.wire.specs.Order.{pos_less}
use Rattle.wire.specs.Positions.{alloc_at}
use Rattle.wire.specs.declared.kinds.Bucket.{Bucket}
use Rattle.calls.specs.Lists.{in_order}
use Rattle.calls.specs.Sorting.{sorted_by}
use Rattle.calls.specs.CallList.{bodies, keys_of, key_below, sorted_trees, reserved_of, call_list_of, volume_shapes, request_shapes, all_trees, keys_ascend, laid_out, volume_laid_out, none_twice}
use Rattle.calls.specs.Answers.{read_volume}
use Rattle.calls.proofs.lists.AllLaws.{all-imp}
use Rattle.calls.proofs.lists.BoolLaws.{parts}
use Rattle.calls.proofs.lists.OrderLaws.{order_same, order-map}
use Rattle.calls.proofs.lists.SortLaws.{all-sorted}
use Rattle.calls.proofs.trees.SixTrees.{tested-each}
use Rattle.calls.proofs.encoding.Blocks.{field, bodies-all}
use Rattle.reader.specs.Arranged.{Sectioned}
use Rattle.reader.specs.Readings.{laid_as}
use Rattle.reader.specs.Table.{body_below, sorted_bodies}
use Rattle.reader.proofs.BodyOrderLaws.{bucket-less}
use Rattle.reader.proofs.LaidLaws.{laid-sectioned}
use Rattle.reader.proofs.SortedBodyLaws.{keys-sorted-are, buckets-sorted-are}
use Rattle.sorting.specs.Entries.{sections, bucket_key, is_entry, entry_of}
use Rattle.sorting.specs.Places.{is_tree, is_section}
use Rattle.merge.specs.Queues.{ascending}
use Rattle.apply.specs.NextVolume.{section_keys}

-- the keys of a tree, by their bodies
pub tree-keys : (t : ℕ) → t ≤ 14 → (bs : List (List ℕ)) → map (λ b. entry_of t (field t b)) bs ≡ map key_of bs
unfolding entry_of
tree-keys t l [] = refl
tree-keys t l (b ∷ bs) =
    λ i. cond (ne_eqb t 64 (λ e. omega arith) i) (bucket_key (cond (eqb t 75) 0 1) (bucket_read b)) (key_of b) ∷ unfold entry_of in (tree-keys t l bs i)

-- the reserved buckets, by their bodies
bucket-keys : (bs : List (List ℕ)) → map (λ b. entry_of 64 (field 64 b)) bs ≡ map (bucket_key 1) (map bucket_read bs)
unfolding entry_of
bucket-keys bs = sym (map-map (bucket_key 1) bucket_read bs)

-- a section's keys are those that the volume is read as
pub tree-read : (vol : List ℕ) (t : ℕ) → t ≤ 14 → section_keys vol t ≡ sorted_by key_below (map key_of (bodies t (fields vol)))
unfolding section_keys
tree-read vol t l = tree-keys t l (sorted_bodies t (fields vol)) ∙ keys-sorted-are t l (fields vol)

pub buckets-read : (vol : List ℕ) → section_keys vol 64 ≡ map (bucket_key 1) (read_volume vol).reserved
unfolding section_keys call_list_of reserved_of
buckets-read vol = bucket-keys (sorted_bodies 64 (fields vol)) ∙ ap (map (bucket_key 1)) (buckets-sorted-are (fields vol))

-- the order of buckets is that of their keys
bucket-order : (bs : List Bucket) → ascending (map (bucket_key 1) bs) ≡ in_order bucket_below bs
unfolding ascending
bucket-order bs =
    order-map key_below (bucket_key 1) bs ∙ order_same (λ a b. pos_less (alloc_at a) (alloc_at b)) bucket_below bucket-less bs

-- section t of a volume: its bodies are keys, and ascend
pub record SectionOf (vol : List ℕ) (t : ℕ) : Type 0 where
  pub sized : All (λ b. is_entry t t (length b) ≡ true) (sorted_bodies t (fields vol))
  pub up : ascending (section_keys vol t) ≡ true

module _ {vol : List ℕ} (sectioned : Sectioned vol) where
  -- its bodies are as long as the layout asks
  section-of : (t : ℕ) → is_section t ≡ true → ascending (section_keys vol t) ≡ true → SectionOf vol t
  unfolding sorted_bodies
  section-of t k u =
      record { sized = all-sorted (body_below t) (all-imp (λ b e. e ∙ eq-eqb t t refl) (bodies-all t (sectioned t k))); up = u }

  -- a tree, and the reserved buckets
  tree-section : (t : ℕ) → is_section t ≡ true → t ≤ 14 → keys_ascend (sorted_by key_below (map key_of (bodies t (fields vol)))) ≡ true → SectionOf vol t
  unfolding ascending
  tree-section t k l o = section-of t k (rw (tree-read vol t l) o)

  bucket-section : in_order bucket_below (read_volume vol).reserved ≡ true → SectionOf vol 64
  unfolding is_section
  bucket-section o = section-of 64 refl (rw (buckets-read vol) (bucket-order (read_volume vol).reserved ∙ o))

-- the reader takes a volume as a list of any call
laid_as_lem : (vol : List ℕ) → volume_laid_out vol ≡ true → laid_as 0 true vol ≡ true
unfolding volume_laid_out laid_as volume_shapes request_shapes
laid_as_lem vol h = and-true (laid_out volume_shapes vol) ∙ h

-- what refusals 2 and 22 show of each section
pub parted : {vol : List ℕ} → volume_laid_out vol ≡ true → none_twice (read_volume vol) ≡ true → All (SectionOf vol) sections
unfolding none_twice call_list_of sorted_trees keys_of is_section is_tree
parted {vol} h o =
    let w : Sectioned vol = laid-sectioned vol 0 true (laid_as_lem vol h) in
    let p = parts (all_trees keys_ascend (read_volume vol).trees) (in_order bucket_below (read_volume vol).reserved) o in
    let k = tested-each keys_ascend (read_volume vol).trees p.0 in
    more (tree-section w 4 refl (omega arith) k.alloc)
    (more (tree-section w 10 refl (omega arith) k.lru)
    (more (tree-section w 11 refl (omega arith) k.freespace)
    (more (tree-section w 12 refl (omega arith) k.need_discard)
    (more (tree-section w 13 refl (omega arith) k.backpointers)
    (more (tree-section w 14 refl (omega arith) k.gens) (more (bucket-section w p.1) none))))))
