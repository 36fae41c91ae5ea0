-- A call list is written and read back, and a list that is laid out right is a call list that fits.
use mathlib.Core.Path.{◌≡◌, refl, ap, sym, ◌∙◌}
use mathlib.Core.Bool.{true}
use mathlib.Core.List.{List, [], ◌∷◌, ◌++◌, map, append-nil, append_assoc}
use Prim.Native.Nat.{ℕ}
use native.Mathlib.Omega.{arith}
use Rattle.wire.specs.Fields.{fields, whole}
use Rattle.wire.specs.Encode.{encode}
use Rattle.wire.specs.Bytes.{All, none, more, Bytes}
use Rattle.wire.proofs.NumberLaws.{all_append}
use Rattle.wire.proofs.RoundTrip.{FieldFits, fields_back, whole_back}
use Rattle.calls.specs.Lists.{all_of}
use Rattle.calls.specs.CallList.{Piece, Freed, Volume, CallList, piece_of, freed_of, piece_body, freed_body, piece_field, freed_field, bodies, call_list_of, volume_shapes, none_twice, volume_fields, call_bytes}
use Rattle.calls.specs.Answers.{read_call}
use Rattle.calls.proofs.lists.AllLaws.{all-imp, all_map, all-each, test-all}
use Rattle.calls.proofs.encoding.Blocks.{Block, field, flat, flat-all, flat_append, FieldSound, shaped_in, shaped-fits}
use Rattle.calls.proofs.encoding.FieldBytes.{encode-bytes}
use Rattle.calls.proofs.encoding.RequestTrip.{PieceFits, FreedFits, piece_back, freed-back, piece-length, piece_bytes, freed-length, freed-bytes, pieces-fit, releases-fit}
use Rattle.calls.proofs.encoding.TreeFields.{tree_tags, map-block, part-back}
use Rattle.calls.proofs.encoding.VolumeTrip.{VolumeFits, volume_blocks, volume-flat, blocks-sound, blocks-back, every_shape, ListLaid, laid-fits}

-- each number fits its bytes
pub record CallFits (c : CallList) : Type 0 where
  pub volume : VolumeFits c.volume
  pub pieces : All PieceFits c.pieces
  pub releases : All FreedFits c.releases

-- the blocks of a call list: its volume's, and one of each kind of request
abbrev request_blocks : CallList → List Block
request_blocks c = record { tag = 65; has = map piece_body c.pieces } ∷ record { tag = 66; has = map freed_body c.releases } ∷ []

abbrev pub call_blocks : CallList → List Block
call_blocks c = volume_blocks c.volume ++ request_blocks c

-- its bytes are those of its blocks
pub call-flat : (c : CallList) → call_bytes c ≡ encode (flat (call_blocks c))
unfolding call_bytes flat
call-flat c =
    let v : Volume = c.volume in
    let r : map piece_field c.pieces ++ map freed_field c.releases ≡ flat (request_blocks c) = simp (append-nil, map-block) in
    ap encode
    (append_assoc (volume_fields v) (map piece_field c.pieces) (map freed_field c.releases) ∙ (λ i. volume-flat v i ++ r i)
    ∙ sym (flat_append (volume_blocks v) (request_blocks c)))

-- written

-- a request has its shape
piece-sound : (p : Piece) → FieldSound every_shape (field 65 (piece_body p))
unfolding volume_shapes
piece-sound p =
    record {
      shape = shaped_in 65 13 13 every_shape (piece_body p) refl (omega (arith, piece-length p)) (omega (arith, piece-length p));
      bytes = piece_bytes p;
    }

freed-sound : (r : Freed) → FieldSound every_shape (field 66 (freed_body r))
unfolding volume_shapes
freed-sound r =
    record {
      shape = shaped_in 66 10 10 every_shape (freed_body r) refl (omega (arith, freed-length r)) (omega (arith, freed-length r));
      bytes = freed-bytes r;
    }

module _ {c : CallList} (h : CallFits c) where
  -- so has every field, and its tag and length fit
  call-sound : All (FieldSound every_shape) (flat (call_blocks c))
  unfolding volume_shapes all_of
  call-sound =
      flat-all
      (all_append (blocks-sound every_shape refl (test-all _ tree_tags refl) refl h.volume)
      (more (all_map piece_body (all-each piece-sound c.pieces)) (more (all_map freed_body (all-each freed-sound c.releases)) none)))

  all_fit : All FieldFits (flat (call_blocks c))
  unfolding volume_shapes all_of
  all_fit = all-imp (λ f s. shaped-fits every_shape f refl s.shape) call-sound

  -- the bytes are whole fields, those of the blocks
  pub call-fields : fields (call_bytes c) ≡ flat (call_blocks c)
  call-fields = ap (λ (b : List ℕ). fields b) (call-flat c) ∙ fields_back all_fit

  pub call-whole : whole (call_bytes c) ≡ true
  call-whole = ap whole (call-flat c) ∙ whole_back all_fit

  pub call-bytes : Bytes (call_bytes c)
  call-bytes = rw (call-flat c) (encode-bytes (all-imp (λ f s. s.bytes) call-sound))

  -- read back, where the keys of each tree and the reserved buckets ascend
  pub call_back : none_twice c.volume ≡ true → read_call (call_bytes c) ≡ c
  unfolding call_list_of
  call_back o =
      let ks : List Block = call_blocks c in
      let v : (call_list_of (flat ks)).volume ≡ c.volume = blocks-back h.volume o ks refl refl refl refl refl refl refl refl in
      let p : map piece_of (bodies 65 (flat ks)) ≡ c.pieces = part-back piece_body piece_of 65 ks refl (all-imp piece_back h.pieces) in
      let r : map freed_of (bodies 66 (flat ks)) ≡ c.releases = part-back freed_body freed_of 66 ks refl (all-imp freed-back h.releases) in
      ap call_list_of call-fields ∙ (λ i. record { volume = v i; pieces = p i; releases = r i })

-- read: a list that is laid out right

pub laid-call : {s : List ℕ} → ListLaid s → CallFits (read_call s)
laid-call l = record { volume = laid-fits l; pieces = pieces-fit l.bytes; releases = releases-fit l.bytes }
