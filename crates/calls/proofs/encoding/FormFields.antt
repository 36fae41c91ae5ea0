-- The fields of the sorted form of a list that is laid out right are those of the list: every total over them is the same.
use mathlib.Core.Path.{◌≡◌, refl, ap, sym, ◌∙◌}
use mathlib.Core.Bool.{Bool, true}
use mathlib.Core.List.{List, map}
use Prim.Native.Nat.{ℕ, ◌+◌}
use native.Mathlib.Omega.{arith}
use lib.ListN.{length}
use lib.Seq.{take_all}
use Rattle.wire.specs.Fields.{Field, fields}
use Rattle.wire.specs.Keys.{key_of}
use Rattle.wire.specs.Encode.{key_body}
use Rattle.wire.specs.Kinds.{bucket_read, bucket_bytes, bucket_below}
use Rattle.wire.specs.Bytes.{Bytes}
use Rattle.wire.proofs.NumberLaws.{le_bytes-le}
use Rattle.calls.specs.Lists.{total}
use Rattle.calls.specs.Sorting.{sorted_by}
use Rattle.calls.specs.CallList.{piece_of, freed_of, piece_body, freed_body, bodies, key_below, keys_of, sorted_trees, reserved_of, call_list_of, volume_shapes}
use Rattle.calls.specs.Answers.{read_call, sorted_form}
use Rattle.calls.proofs.lists.AllLaws.{all-imp, map_back}
use Rattle.calls.proofs.lists.SortLaws.{total-sorted}
use Rattle.calls.proofs.lists.TotalLaws.{total-map}
use Rattle.calls.proofs.encoding.Blocks.{field, bodies-all, keeps, shaped_out, tags_of, shaped-tag}
use Rattle.calls.proofs.encoding.CallTrip.{call_blocks, call-fields, laid-call}
use Rattle.calls.proofs.encoding.FieldTotals.{gather, of_block, total-flat, total-gather}
use Rattle.calls.proofs.encoding.RequestTrip.{piece-again, freed-again}
use Rattle.calls.proofs.encoding.TreeFields.{keys-again}
use Rattle.calls.proofs.encoding.VolumeTrip.{every_shape, ListLaid, head_read}

-- bodies that are read, sorted and written again
sorted-again : {A : Type 0} (write : A → List ℕ) (read : List ℕ → A) (less : A → A → Bool) (h : List ℕ → ℕ) {bs : List (List ℕ)}
    → map write (map read bs) ≡ bs → total h (map write (sorted_by less (map read bs))) ≡ total h bs
sorted-again write read less h {bs} e =
    total-map h write (sorted_by less (map read bs)) ∙ total-sorted less (λ a. h (write a)) (map read bs) ∙ sym (total-map h write (map read bs))
    ∙ ap (total h) e

-- a reserved bucket, read and written again
pub bucket-again : {b : List ℕ} → Bytes b → length b ≡ 4 → bucket_bytes (bucket_read b) ≡ b
bucket-again {b} r e = le_bytes-le 4 r (omega arith) ∙ take_all 4 b (omega arith)

module _ {s : List ℕ} (l : ListLaid s) where
  -- the bodies of a fixed length, read and written again
  bodies-again : {A : Type 0} (write : A → List ℕ) (read : List ℕ → A) (t n : ℕ) → keeps t n n every_shape ≡ true
      → ((b : List ℕ) → Bytes b → length b ≡ n → write (read b) ≡ b) → map write (map read (bodies t (fields s))) ≡ bodies t (fields s)
  bodies-again write read t n e f =
      map_back read write
      (all-imp
      (λ b k.
      let m = shaped_out t n n every_shape b e k.shape in f b k.bytes (omega (arith, m.0, m.1))) (bodies-all t l.sound))

  module _ (g : Field → ℕ) where
    -- over bodies with a tag
    abbrev over : ℕ → List (List ℕ) → ℕ
    over t bs = total (λ b. g (field t b)) bs

    -- the keys of a tree, read, sorted and written again
    tree_again : (t : ℕ) → keeps t 37 293 every_shape ≡ true
        → over t (map key_body (sorted_by key_below (map key_of (bodies t (fields s))))) ≡ over t (bodies t (fields s))
    tree_again t e = sorted-again key_body key_of key_below (λ b. g (field t b)) (keys-again l.sound t e)

    -- block by block
    blocks-total : total (of_block g) (call_blocks (read_call s)) ≡ total (of_block g) (gather (tags_of every_shape) (fields s))
    unfolding call_list_of keys_of sorted_trees reserved_of volume_shapes total
    blocks-total =
        let fs : List Field = fields s in
        let one = ap (over 1) (head_read (bodies 1 fs) l.one (bodies-all 1 l.sound)).1 in
        let buckets =
        sorted-again bucket_bytes bucket_read bucket_below (λ b. g (field 64 b)) (bodies-again bucket_bytes bucket_read 64 4 refl (λ b k. bucket-again k))
        in
        let pieces = ap (over 65) (bodies-again piece_body piece_of 65 13 refl (λ b k. piece-again k)) in
        let releases = ap (over 66) (bodies-again freed_body freed_of 66 10 refl (λ b k. freed-again k)) in
        λ i.
        one i
        + (tree_again 4 refl i
        + (tree_again 10 refl i
        + (tree_again 11 refl i
        + (tree_again 12 refl i + (tree_again 13 refl i + (tree_again 14 refl i + (buckets i + (pieces i + (releases i + 0)))))))))

    -- over all fields
    pub form-total : total g (fields (sorted_form s)) ≡ total g (fields s)
    unfolding volume_shapes
    form-total =
        ap (total g) (call-fields (laid-call l)) ∙ total-flat g (call_blocks (read_call s)) ∙ blocks-total
        ∙ total-gather g (tags_of every_shape) refl (all-imp (λ f k. shaped-tag every_shape f k.shape) l.sound)
