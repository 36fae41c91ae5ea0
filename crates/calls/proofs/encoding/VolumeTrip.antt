-- A volume is written and read back; a list that is laid out right is a volume that fits, and without its requests it is the same volume.
use mathlib.Core.Path.{◌≡◌, refl, ap, ◌∙◌}
use mathlib.Core.Bool.{Bool, true, false, not, ◌||◌, cond, false≢true}
use mathlib.Core.List.{List, [], ◌∷◌, ◌++◌, map, append-nil, append_assoc}
use Prim.Native.Nat.{ℕ, ◌^◌, ◌<◌}
use native.Mathlib.Omega.{arith}
use lib.Dec.{eqb}
use lib.ListN.{length}
use borrow.Author.Tests.{eqb-true}
use Rattle.wire.specs.Numbers.{le_bytes}
use Rattle.wire.specs.Fields.{Field, fields, whole}
use Rattle.wire.specs.Keys.{key_of}
use Rattle.wire.specs.Encode.{encode, key_body}
use Rattle.wire.specs.Kinds.{bucket_read, bucket_bytes, bucket_below}
use Rattle.wire.specs.declared.kinds.Bucket.{Bucket}
use Rattle.wire.specs.Bytes.{All, none, more, Bytes}
use Rattle.wire.proofs.NumberLaws.{all_append, bytes_le, le-bound}
use Rattle.wire.proofs.RoundTrip.{FieldFits, fields_back, whole_back}
use Rattle.calls.specs.Lists.{all_of, those, in_order}
use Rattle.calls.specs.Sorting.{sorted_by}
use Rattle.calls.specs.CallList.{Head, head_of, head_body, head_ok, piece_of, freed_of, keys_of, key_below, sorted_trees, reserved_of, all_trees, snapshots_ok, keys_ascend, trees_ok, Volume, CallList, call_list_of, bodies, first_body, Shape, shaped, exactly, volume_shapes, request_shapes, laid_out, call_laid_out, volume_laid_out, list_laid_out, none_twice, tree_fields, reserved_field, volume_fields, volume_bytes}
use Rattle.calls.specs.Answers.{read_volume}
use Rattle.calls.specs.History.{is_request, without_requests}
use Rattle.calls.proofs.lists.AllLaws.{all-imp, all_join, all_map, all-test, test-all, all-those}
use Rattle.calls.proofs.lists.BoolLaws.{both, parts}
use Rattle.calls.proofs.lists.SortLaws.{all-sorted}
use Rattle.calls.proofs.lists.TwiceLaws.{asc-sorted}
use Rattle.calls.proofs.trees.KeyOrder.{bucket-weak}
use Rattle.calls.proofs.trees.SixTrees.{tested-each, each-tested, each-sorted, own-trees, trees-ok, trees-ascend, trees-snapshots}
use Rattle.calls.proofs.encoding.Blocks.{Block, field, flat, InBlock, flat-all, has_of, bodies-flat, bodies-all, bodies-those, FieldSound, takes, shaped_in, shaped_out, shaped-fits, shaped-widen, shaped-after, shaped-front}
use Rattle.calls.proofs.encoding.FieldBytes.{number-back, fields-bytes}
use Rattle.calls.proofs.encoding.HeadTrip.{HeadFits, head-back, head-length, head_bytes_lem, head-fits, head-again}
use Rattle.calls.proofs.encoding.TreeFields.{TreesFit, tree_tags, tree_blocks, map-block, trees-sound, part-back, trees-back, trees-read}

abbrev pub BucketFits : Bucket → Type 0
BucketFits b = b.0 < 2 ^ 32

-- each number fits its bytes
pub record VolumeFits (v : Volume) : Type 0 where
  pub head : HeadFits v.head
  pub trees : TreesFit v.trees
  pub reserved : All BucketFits v.reserved

-- what refusals 2 and 22 leave of a volume besides
pub record VolumeOk (v : Volume) : Type 0 where
  pub head : head_ok v.head ≡ true
  pub trees : trees_ok v.trees ≡ true
  pub reserved : in_order bucket_below v.reserved ≡ true

-- no position and no reserved bucket stands twice
pub ok-once : {v : Volume} → VolumeOk v → none_twice v ≡ true
unfolding none_twice
ok-once ok = both (each-tested keys_ascend (trees-ascend ok.trees)) ok.reserved

-- blocks

abbrev pub buckets_block : ℕ → List Bucket → Block
buckets_block t bs = record { tag = t; has = map bucket_bytes bs }

abbrev pub volume_blocks : Volume → List Block
volume_blocks v =
    record { tag = 1; has = head_body v.head ∷ [] } ∷ tree_blocks v.trees ++ (buckets_block 64 v.reserved ∷ [])

-- its fields are those of its blocks
pub volume-flat : (v : Volume) → volume_fields v ≡ flat (volume_blocks v)
unfolding volume_fields tree_fields reserved_field flat
volume-flat v = simp (append_assoc, append-nil, map-block)

-- the fields of buckets, and field 1, have these shapes
pub buckets-sound : {ss : List Shape} (t : ℕ) (bs : List Bucket) → takes t 4 4 ss ≡ true → InBlock (FieldSound ss) (buckets_block t bs)
unfolding le_bytes
buckets-sound {ss} t [] e = none
buckets-sound {ss} t (b ∷ bs) e =
    more
    (record { shape = shaped_in t 4 4 ss (bucket_bytes b) e (omega arith) (omega arith); bytes = bytes_le 4 b.0 })
    (buckets-sound t bs e)

head-sound : (ss : List Shape) (h : Head) → takes 1 39 39 ss ≡ true → FieldSound ss (field 1 (head_body h))
head-sound ss h e =
    record {
      shape = shaped_in 1 39 39 ss (head_body h) e (omega (arith, head-length h)) (omega (arith, head-length h));
      bytes = head_bytes_lem h;
    }

-- the fields of a volume have these shapes, where the shapes are those of a volume's fields and maybe others
pub blocks-sound : (ss : List Shape) {v : Volume} → takes 1 39 39 ss ≡ true → All (λ n. takes n 37 293 ss ≡ true) tree_tags → takes 64 4 4 ss ≡ true
    → VolumeFits v → All (InBlock (FieldSound ss)) (volume_blocks v)
blocks-sound ss {v} a b c h =
    more (more (head-sound ss v.head a) none) (all_append (trees-sound b h.trees) (more (buckets-sound 64 v.reserved c) none))

-- a bucket, and buckets
bucket-back : (b : Bucket) → BucketFits b → bucket_read (bucket_bytes b) ≡ b
bucket-back b h = λ i. record { 0 = number-back 4 b.0 h i }

pub buckets-back : (t : ℕ) (ks : List Block) {bs : List Bucket} → has_of t ks ≡ map bucket_bytes bs ++ [] → All BucketFits bs → map bucket_read (bodies t (flat ks)) ≡ bs
buckets-back t ks e h = part-back bucket_bytes bucket_read t ks e (all-imp bucket-back h)

-- read back

module _ {v : Volume} (h : VolumeFits v) (once : none_twice v ≡ true) where
  -- of blocks that have a volume's bodies by tag, whatever else they have
  pub blocks-back :
      (ks : List Block) → has_of 1 ks ≡ head_body v.head ∷ [] → has_of 4 ks ≡ map key_body v.trees.alloc ++ []
      → has_of 10 ks ≡ map key_body v.trees.lru ++ []
      → has_of 11 ks ≡ map key_body v.trees.freespace ++ []
      → has_of 12 ks ≡ map key_body v.trees.need_discard ++ []
      → has_of 13 ks ≡ map key_body v.trees.backpointers ++ []
      → has_of 14 ks ≡ map key_body v.trees.gens ++ []
      → has_of 64 ks ≡ map bucket_bytes v.reserved ++ []
      → (call_list_of (flat ks)).volume ≡ v
  unfolding call_list_of reserved_of none_twice
  blocks-back ks a b c d e f g k =
      let o = parts (all_trees keys_ascend v.trees) (in_order bucket_below v.reserved) once in
      let one : head_of (first_body (bodies 1 (flat ks))) ≡ v.head = rw (bodies-flat 1 ks, a) (head-back h.head) in
      let keys : keys_of (flat ks) ≡ v.trees = trees-back ks h.trees b c d e f g in
      let buckets : map bucket_read (bodies 64 (flat ks)) ≡ v.reserved = buckets-back 64 ks k h.reserved in
      let trees : sorted_trees (keys_of (flat ks)) ≡ v.trees = ap sorted_trees keys ∙ own-trees (tested-each keys_ascend v.trees o.0) in
      let reserved : sorted_by bucket_below (map bucket_read (bodies 64 (flat ks))) ≡ v.reserved =
      ap (sorted_by bucket_below) buckets ∙ asc-sorted bucket-weak v.reserved o.1
      in
      λ i. record { head = one i; trees = trees i; reserved = reserved i }

-- written

module _ {v : Volume} (h : VolumeFits v) where
  -- every field has its shape, and its tag and length fit
  volume-sound : All (FieldSound volume_shapes) (flat (volume_blocks v))
  unfolding volume_shapes all_of
  volume-sound = flat-all (blocks-sound volume_shapes refl (test-all _ tree_tags refl) refl h)

  all_fit : All FieldFits (flat (volume_blocks v))
  unfolding volume_shapes all_of
  all_fit = all-imp (λ f s. shaped-fits volume_shapes f refl s.shape) volume-sound

  -- the bytes are whole fields, those of the blocks
  volume-fields : fields (volume_bytes v) ≡ flat (volume_blocks v)
  unfolding volume_bytes
  volume-fields = ap (λ (fs : List Field). fields (encode fs)) (volume-flat v) ∙ fields_back all_fit

  volume-whole : whole (volume_bytes v) ≡ true
  unfolding volume_bytes
  volume-whole = ap (λ (fs : List Field). whole (encode fs)) (volume-flat v) ∙ whole_back all_fit

  module _ (ok : VolumeOk v) where
    pub volume-back : call_list_of (fields (volume_bytes v)) ≡ record { volume = v; pieces = []; releases = [] }
    unfolding call_list_of
    volume-back =
        let ks : List Block = volume_blocks v in
        let e : (call_list_of (flat ks)).volume ≡ v = blocks-back h (ok-once ok) ks refl refl refl refl refl refl refl refl in
        ap call_list_of volume-fields
        ∙ (λ i. record { volume = e i; pieces = map piece_of (bodies-flat 65 ks i); releases = map freed_of (bodies-flat 66 ks i) })

    pub read_back : read_volume (volume_bytes v) ≡ v
    read_back = ap (λ (c : CallList). c.volume) volume-back

    -- it passes refusals 2 and 22
    pub volume-laid-out : volume_laid_out (volume_bytes v) ≡ true
    unfolding volume_laid_out laid_out
    volume-laid-out =
        both volume-whole
        (both
        (ap (all_of (shaped volume_shapes)) volume-fields ∙ all-test (shaped volume_shapes) (all-imp (λ f s. s.shape) volume-sound))
        (both
        (ap (λ (fs : List Field). eqb (length (bodies 1 fs)) 1) volume-fields ∙ rw (bodies-flat 1 (volume_blocks v)))
        (both
        (ap (λ (w : Volume). head_ok w.head) read_back ∙ ok.head)
        (ap (λ (w : Volume). all_trees snapshots_ok w.trees) read_back ∙ trees-snapshots v.trees ok.trees))))

    pub volume-once : none_twice (read_volume (volume_bytes v)) ≡ true
    volume-once = ap none_twice read_back ∙ ok-once ok

-- read

-- the shapes of a volume's fields and of every call's requests
abbrev requests : List Shape
requests = exactly 65 13 ∷ exactly 66 10 ∷ []

abbrev pub every_shape : List Shape
every_shape = volume_shapes ++ requests

-- a list of bytes that is laid out right, whatever its requests
pub record ListLaid (s : List ℕ) : Type 0 where
  pub bytes : Bytes s
  pub ends : whole s ≡ true
  pub sound : All (FieldSound every_shape) (fields s)
  pub one : length (bodies 1 (fields s)) ≡ 1
  pub head : head_ok (read_volume s).head ≡ true
  pub snapshots : all_trees snapshots_ok (read_volume s).trees ≡ true

-- of any shapes that are among these
laid : (ss : List Shape) {s : List ℕ} → ((f : Field) → shaped ss f ≡ true → shaped every_shape f ≡ true) → Bytes s → laid_out ss s ≡ true → ListLaid s
unfolding laid_out
laid ss {s} w r h =
    let fs : List Field = fields s in
    let v : Volume = read_volume s in
    let a = parts (whole s) _ h in
    let b = parts (all_of (shaped ss) fs) _ a.1 in
    let c = parts (eqb (length (bodies 1 fs)) 1) _ b.1 in
    let d = parts (head_ok v.head) (all_trees snapshots_ok v.trees) c.1 in
    record {
      bytes = r;
      ends = a.0;
      sound = all_join (λ f k u. record { shape = w f k; bytes = u }) (test-all (shaped ss) fs b.0) (fields-bytes 0 r);
      one = eqb-true (length (bodies 1 fs)) 1 c.0;
      head = d.0;
      snapshots = d.1;
    }

-- the requests of one call are among those of every call
request-shapes : (call : ℕ) (f : Field) → shaped (request_shapes call) f ≡ true → shaped requests f ≡ true
unfolding shaped request_shapes
request-shapes call f h = go (eqb call 1) (eqb call 2) h
  where
    go : (a b : Bool) → shaped (cond a (exactly 65 13 ∷ []) (cond b (exactly 66 10 ∷ []) [])) f ≡ true
        → shaped requests f ≡ true
    go true b h = shaped-widen (exactly 65 13 ∷ []) [] (exactly 66 10 ∷ []) f (λ e. absurd (false≢true e)) h
    go false true h = shaped-after (exactly 65 13 ∷ []) (exactly 66 10 ∷ []) f h
    go false false h = absurd (false≢true h)

-- with the requests of a call
requested-laid : (call : ℕ) {s : List ℕ} → Bytes s → laid_out (volume_shapes ++ request_shapes call) s ≡ true → ListLaid s
requested-laid call r h =
    laid (volume_shapes ++ request_shapes call) (λ f. shaped-widen volume_shapes (request_shapes call) requests f (request-shapes call f)) r h

pub call-laid : (call : ℕ) {s : List ℕ} → Bytes s → call_laid_out call s ≡ true → ListLaid s
unfolding call_laid_out
call-laid call {s} r h =
    requested-laid call r (parts (laid_out (volume_shapes ++ request_shapes call) s) (eqb (read_volume s).head.call call) h).0

pub list-laid : {s : List ℕ} → Bytes s → list_laid_out s ≡ true → ListLaid s
unfolding list_laid_out
list-laid {s} r h = requested-laid (read_volume s).head.call r h

pub volume-laid : {s : List ℕ} → Bytes s → volume_laid_out s ≡ true → ListLaid s
unfolding volume_laid_out
volume-laid r h =
    laid volume_shapes (shaped-front volume_shapes requests) r h

-- what a call reads, or apply, is laid out right for the call that its head names

laid-widen : (ss ts : List Shape) (s : List ℕ) → ((f : Field) → shaped ss f ≡ true → shaped ts f ≡ true) → laid_out ss s ≡ true → laid_out ts s ≡ true
unfolding laid_out
laid-widen ss ts s w h =
    let a = parts (whole s) _ h in
    let b = parts (all_of (shaped ss) (fields s)) _ a.1 in
    both a.0 (both (all-test (shaped ts) (all-imp w (test-all (shaped ss) (fields s) b.0))) b.1)

pub call-listed : (call : ℕ) (s : List ℕ) → call_laid_out call s ≡ true → list_laid_out s ≡ true
unfolding call_laid_out list_laid_out
call-listed call s h =
    let p = parts (laid_out (volume_shapes ++ request_shapes call) s) (eqb (read_volume s).head.call call) h in
    ap (λ (n : ℕ). laid_out (volume_shapes ++ request_shapes n) s) (eqb-true (read_volume s).head.call call p.1) ∙ p.0

pub volume-listed : (s : List ℕ) → volume_laid_out s ≡ true → list_laid_out s ≡ true
unfolding volume_laid_out list_laid_out
volume-listed s h =
    let ts : List Shape = request_shapes (read_volume s).head.call in
    laid-widen volume_shapes (volume_shapes ++ ts) s (λ f e. shaped-front volume_shapes ts f e) h

-- field 1 that stands once is read, and written again
pub head_read :
    (bs : List (List ℕ)) → length bs ≡ 1 → All (λ b. FieldSound every_shape (field 1 b)) bs
    → HeadFits (head_of (first_body bs)) × (head_body (head_of (first_body bs)) ∷ [] ≡ bs)
unfolding volume_shapes
head_read [] e h = absurd (omega arith)
head_read (b ∷ []) e (more h none) =
    let l = shaped_out 1 39 39 every_shape b refl h.shape in
    (head-fits h.bytes, ap (λ (x : List ℕ). x ∷ []) (head-again h.bytes (omega (arith, l.0, l.1))))
head_read (b ∷ c ∷ bs) e h = absurd (omega arith)

module _ {s : List ℕ} (l : ListLaid s) where
  -- each number fits its bytes: refusal 2 alone
  pub laid-fits : VolumeFits (read_volume s)
  unfolding call_list_of reserved_of volume_shapes all_of
  laid-fits =
      record {
        head = (head_read (bodies 1 (fields s)) l.one (bodies-all 1 l.sound)).0;
        trees = each-sorted (λ ks h. all-sorted key_below h) (trees-read l.sound (test-all _ tree_tags refl));
        reserved = all-sorted bucket_below (all_map bucket_read (all-imp (λ b k. le-bound 4 k.bytes) (bodies-all 64 l.sound)));
      }

  -- with refusal 22
  pub laid-ok : none_twice (read_volume s) ≡ true → VolumeOk (read_volume s)
  unfolding none_twice
  laid-ok o =
      let v : Volume = read_volume s in
      let p = parts (all_trees keys_ascend v.trees) (in_order bucket_below v.reserved) o in
      record { head = l.head; trees = trees-ok v.trees p.0 l.snapshots; reserved = p.1 }

-- what a volume, and a call's list, is where it passes refusals 2 and 22
pub volume-fits : {s : List ℕ} → Bytes s → volume_laid_out s ≡ true → none_twice (read_volume s) ≡ true → VolumeFits (read_volume s) × VolumeOk (read_volume s)
volume-fits {s} r h o = let l : ListLaid s = volume-laid r h in (laid-fits l, laid-ok l o)

pub call_fits : (call : ℕ) {s : List ℕ} → Bytes s → call_laid_out call s ≡ true → none_twice (read_volume s) ≡ true → VolumeFits (read_volume s) × VolumeOk (read_volume s)
call_fits call {s} r h o = let l : ListLaid s = call-laid call r h in (laid-fits l, laid-ok l o)

-- a call list without its requests

-- the tags of a volume's fields
abbrev pub volume_tags : List ℕ
volume_tags = 1 ∷ 4 ∷ 10 ∷ 11 ∷ 12 ∷ 13 ∷ 14 ∷ 64 ∷ []

-- a volume is what the bodies with its tags tell
pub volume-bodies : (fs gs : List Field) → All (λ t. bodies t fs ≡ bodies t gs) volume_tags → (call_list_of fs).volume ≡ (call_list_of gs).volume
unfolding call_list_of keys_of reserved_of
volume-bodies fs gs (more a (more b (more c (more d (more e (more f (more g (more h none)))))))) =
    λ i.
    record {
      head = head_of (first_body (a i));
      trees =
          sorted_trees
          (record {
            alloc = map key_of (b i);
            lru = map key_of (c i);
            freespace = map key_of (d i);
            need_discard = map key_of (e i);
            backpointers = map key_of (f i);
            gens = map key_of (g i);
          });
      reserved = sorted_by bucket_below (map bucket_read (h i));
    }

module _ {s : List ℕ} (l : ListLaid s) where
  -- its fields are those that are no requests
  kept-fields : fields (without_requests s) ≡ those (λ f. not (is_request f)) (fields s)
  unfolding without_requests volume_shapes all_of
  kept-fields = fields_back (all-those _ (all-imp (λ f k. shaped-fits every_shape f refl k.shape) l.sound))

  -- it is read as the same volume
  pub without-read : read_volume (without_requests s) ≡ read_volume s
  unfolding all_of
  without-read =
      ap (λ (fs : List Field). (call_list_of fs).volume) kept-fields
      ∙ volume-bodies (those (λ f. not (is_request f)) (fields s)) (fields s)
      (all-imp (λ t e. bodies-those (λ f. not (is_request f)) t (λ f q. rw q e) (fields s))
      (test-all (λ t. not (eqb t 65 || eqb t 66)) volume_tags refl))
