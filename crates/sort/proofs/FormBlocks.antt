-- The sorted form of a list that is laid out right: its field 1, and then, tag by tag, the bodies that the reader's table has the places of.
use mathlib.Core.Path.{◌≡◌, refl, ap, sym, ◌∙◌}
use mathlib.Core.Bool.{Bool, true, false, cond, false≢true}
use mathlib.Core.List.{List, [], ◌∷◌, ◌++◌, map}
use Prim.Native.Nat.{ℕ, ◌≤◌}
use native.Mathlib.Omega.{arith}
use lib.Dec.{eqb}
use lib.ListN.{length}
use Rattle.wire.specs.Bytes.{All, Bytes}
use Rattle.wire.specs.Fields.{Field, fields, whole}
use Rattle.wire.specs.Keys.{key_of}
use Rattle.wire.specs.Encode.{encode_field, encode, key_body}
use Rattle.wire.specs.Kinds.{bucket_read, bucket_bytes, bucket_below}
use Rattle.wire.proofs.EncodeLaws.{encode-next}
use Rattle.wire.proofs.RoundTrip.{body-again}
use Rattle.calls.specs.Lists.{all_of}
use Rattle.calls.specs.Sorting.{sorted_by}
use Rattle.calls.specs.CallList.{Shape, exactly, head_body, piece_of, freed_of, piece_body, freed_body, bodies, key_below, keys_of, sorted_trees, reserved_of, call_list_of, shaped, volume_shapes, request_shapes, laid_out}
use Rattle.calls.specs.Answers.{read_call, read_volume, sorted_form}
use Rattle.calls.proofs.lists.AllLaws.{all-imp, test-all, map_back}
use Rattle.calls.proofs.lists.BoolLaws.{parts}
use Rattle.calls.proofs.lists.SortLaws.{all-sorted}
use Rattle.calls.proofs.encoding.Blocks.{Block, field, flat, flat_append, bodies-all, keeps, shaped_out, is_of, tags_of, shaped-tag}
use Rattle.calls.proofs.encoding.CallTrip.{call_blocks, call-flat}
use Rattle.calls.proofs.encoding.FormFields.{bucket-again}
use Rattle.calls.proofs.encoding.RequestTrip.{piece-again, freed-again}
use Rattle.calls.proofs.encoding.VolumeTrip.{every_shape, ListLaid}
use Rattle.reader.specs.Table.{body_below, sorted_bodies, request_bodies, request_tag}
use Rattle.reader.proofs.ListLaws.{bodies-none}
use Rattle.reader.proofs.SortedBodyLaws.{keys-sorted-are, buckets-sorted-are}

-- bodies with a tag
abbrev block : ℕ → List (List ℕ) → Block
block t bs = record { tag = t; has = bs }

-- the blocks of keys and of reserved buckets, in the order of the table
abbrev section_blocks : List Field → List Block
section_blocks fs =
    block 4 (sorted_bodies 4 fs) ∷ block 10 (sorted_bodies 10 fs) ∷ block 11 (sorted_bodies 11 fs) ∷ block 12 (sorted_bodies 12 fs)
    ∷ block 13 (sorted_bodies 13 fs)
    ∷ block 14 (sorted_bodies 14 fs)
    ∷ block 64 (sorted_bodies 64 fs)
    ∷ []

-- and of the requests of a call
abbrev pub table_blocks : ℕ → List Field → List Block
table_blocks call fs = section_blocks fs ++ (block (request_tag call) (request_bodies call fs) ∷ [])

module _ {s : List ℕ} (l : ListLaid s) where
  -- bodies that are written as they were read
  all-again : {A : Type 0} (write : A → List ℕ) (read : List ℕ → A) (t n m : ℕ) → keeps t n m every_shape ≡ true
      → ((b : List ℕ) → Bytes b → n ≤ length b → length b ≤ m → write (read b) ≡ b)
      → All (λ b. write (read b) ≡ b) (bodies t (fields s))
  all-again write read t n m e f =
      all-imp (λ b k. let z = shaped_out t n m every_shape b e k.shape in f b k.bytes z.0 z.1) (bodies-all t l.sound)

  -- the keys of a tree
  tree-block : (t : ℕ) → t ≤ 14 → keeps t 37 293 every_shape ≡ true
      → map key_body (sorted_by key_below (map key_of (bodies t (fields s)))) ≡ sorted_bodies t (fields s)
  unfolding sorted_bodies
  tree-block t k e =
      ap (map key_body) (sym (keys-sorted-are t k (fields s)))
      ∙ map_back key_of key_body (all-sorted (body_below t) (all-again key_body key_of t 37 293 e (λ b r x y. body-again r x)))

  -- the reserved buckets
  reserved-block : map bucket_bytes (sorted_by bucket_below (map bucket_read (bodies 64 (fields s)))) ≡ sorted_bodies 64 (fields s)
  unfolding sorted_bodies volume_shapes
  reserved-block =
      ap (map bucket_bytes) (sym (buckets-sorted-are (fields s)))
      ∙ map_back bucket_read bucket_bytes
      (all-sorted (body_below 64) (all-again bucket_bytes bucket_read 64 4 4 refl (λ b r x y. bucket-again r (omega arith))))

  -- the requests of either kind
  pieces-block : map piece_body (map piece_of (bodies 65 (fields s))) ≡ bodies 65 (fields s)
  unfolding volume_shapes
  pieces-block = map_back piece_of piece_body (all-again piece_body piece_of 65 13 13 refl (λ b r x y. piece-again r (omega arith)))

  releases-block : map freed_body (map freed_of (bodies 66 (fields s))) ≡ bodies 66 (fields s)
  unfolding volume_shapes
  releases-block = map_back freed_of freed_body (all-again freed_body freed_of 66 10 10 refl (λ b r x y. freed-again r (omega arith)))

  -- all blocks
  call-blocks :
      call_blocks (read_call s)
      ≡ block 1 (head_body (read_volume s).head ∷ [])
      ∷ section_blocks (fields s) ++ (block 65 (bodies 65 (fields s)) ∷ block 66 (bodies 66 (fields s)) ∷ [])
  unfolding call_list_of keys_of sorted_trees reserved_of volume_shapes
  call-blocks =
      λ i.
      block 1 (head_body (read_volume s).head ∷ [])
      ∷ block 4 (tree-block 4 (omega arith) refl i)
      ∷ block 10 (tree-block 10 (omega arith) refl i)
      ∷ block 11 (tree-block 11 (omega arith) refl i)
      ∷ block 12 (tree-block 12 (omega arith) refl i)
      ∷ block 13 (tree-block 13 (omega arith) refl i)
      ∷ block 14 (tree-block 14 (omega arith) refl i)
      ∷ block 64 (reserved-block i)
      ∷ block 65 (pieces-block i)
      ∷ block 66 (releases-block i)
      ∷ []

-- a list has the requests of its own call alone
module _ (call : ℕ) (s : List ℕ) (h : laid_out (volume_shapes ++ request_shapes call) s ≡ true) where
  -- none with a tag that is not among its shapes
  none_of : (ss : List Shape) (t : ℕ) → volume_shapes ++ request_shapes call ≡ ss → is_of (tags_of ss) t ≡ false → bodies t (fields s) ≡ []
  unfolding laid_out
  none_of ss t e z =
      let k = (parts (all_of (shaped (volume_shapes ++ request_shapes call)) (fields s)) _ (parts (whole s) _ h).1).0 in
      bodies-none t
      (all-imp (λ f q n. false≢true (sym (ap (is_of (tags_of ss)) n ∙ z) ∙ shaped-tag ss f (rw e at q)))
      (test-all (shaped (volume_shapes ++ request_shapes call)) (fields s) k))

  -- so one block has them
  request-block :
      flat (block 65 (bodies 65 (fields s)) ∷ block 66 (bodies 66 (fields s)) ∷ [])
      ≡ flat (block (request_tag call) (request_bodies call (fields s)) ∷ [])
  unfolding flat volume_shapes request_shapes
  request-block = go (eqb call 1) (eqb call 2) refl refl
    where
      go : (a b : Bool) → eqb call 1 ≡ a → eqb call 2 ≡ b
          → flat (block 65 (bodies 65 (fields s)) ∷ block 66 (bodies 66 (fields s)) ∷ [])
          ≡ flat (block (cond a 65 66) (cond a (bodies 65 (fields s)) (cond b (bodies 66 (fields s)) [])) ∷ [])
      go true b p q = rw (none_of (volume_shapes ++ (exactly 65 13 ∷ [])) 66 (rw p) refl)
      go false true p q = rw (none_of (volume_shapes ++ (exactly 66 10 ∷ [])) 65 (rw (p, q)) refl)
      go false false p q =
          rw (none_of (volume_shapes ++ []) 65 (rw (p, q)) refl, none_of (volume_shapes ++ []) 66 (rw (p, q)) refl)

  -- the sorted form
  pub form-is : ListLaid s
      → sorted_form s ≡ encode_field (field 1 (head_body (read_volume s).head)) ++ encode (flat (table_blocks call (fields s)))
  unfolding flat
  form-is l =
      let fs : List Field = fields s in
      let first : Field = field 1 (head_body (read_volume s).head) in
      call-flat (read_call s) ∙ ap (λ (ks : List Block). encode (flat ks)) (call-blocks l)
      ∙ encode-next first (flat (section_blocks fs ++ (block 65 (bodies 65 fs) ∷ block 66 (bodies 66 fs) ∷ [])))
      ∙ ap (λ (gs : List Field). encode_field first ++ encode gs)
      (flat_append (section_blocks fs) (block 65 (bodies 65 fs) ∷ block 66 (bodies 66 fs) ∷ [])
      ∙ ap (λ (gs : List Field). flat (section_blocks fs) ++ gs) request-block
      ∙ sym (flat_append (section_blocks fs) (block (request_tag call) (request_bodies call fs) ∷ [])))
