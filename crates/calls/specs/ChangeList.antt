-- FORMAT.md, "Change list": its structure, its bytes and its layout.
use Rattle.std.specs.Prelude.{ℕ, List, [], ◌∷◌, ◌++◌, map, Bool, true, ◌&&◌, ◌||◌, cond, drop, leb, eqb}
use Rattle.wire.specs.Numbers.{le, le_bytes}
use Rattle.wire.specs.Fields.{Field, fields, whole}
use Rattle.wire.specs.Keys.{Key, key_of}
use Rattle.wire.specs.Encode.{encode, key_field}
use Rattle.wire.specs.Kinds.{bucket_read, bucket_bytes, sector_read, sector_bytes}
use Rattle.wire.specs.Rows.{Counters, row_field, row_of}
use Rattle.wire.specs.declared.kinds.Bucket.{Bucket}
use Rattle.wire.specs.declared.kinds.DeviceSector.{DeviceSector}
use Rattle.calls.specs.Lists.{all_of, in_order}
use Rattle.calls.specs.CallList.{Trees, bodies, keys_of, tree_fields, Shape, shaped, key_shape, exactly}

-- field 72
pub record Spot : Type 0 where
  pub first : DeviceSector
  pub stored : ℕ
  pub bucket : Bucket
  pub generation : ℕ

-- a batch of changes: queued keys, roots, buckets taken, pieces placed, rows, file sectors, buckets discarded
pub record Batch : Type 0 where
  pub extents : List Key
  pub trees : Trees
  pub roots : List ℕ
  pub taken : List Bucket
  pub spots : List Spot
  pub rows : List Counters
  pub sectors : List ℕ
  pub discarded : List Bucket

abbrev pub root_field : ℕ → Field
root_field id = record { tag = 70; body = le_bytes 1 id }

abbrev pub taken_field : Bucket → Field
taken_field b = record { tag = 71; body = bucket_bytes b }

unfoldable pub spot_body : Spot → List ℕ
spot_body s = sector_bytes s.first ++ le_bytes 2 s.stored ++ bucket_bytes s.bucket ++ le_bytes 1 s.generation

abbrev pub spot_field : Spot → Field
spot_field s = record { tag = 72; body = spot_body s }

abbrev pub sectors_field : ℕ → Field
sectors_field n = record { tag = 74; body = le_bytes 8 n }

abbrev pub discarded_field : Bucket → Field
discarded_field b = record { tag = 75; body = bucket_bytes b }

-- 76, empty, ends a batch
abbrev pub end_field : Field
end_field = record { tag = 76; body = [] }

-- a batch's fields: ascending tags, queue order within a tree
unfoldable pub batch_fields : Batch → List Field
batch_fields b =
    map (key_field 0) b.extents ++ tree_fields b.trees ++ map root_field b.roots ++ map taken_field b.taken
    ++ map spot_field b.spots
    ++ map row_field b.rows
    ++ map sectors_field b.sectors
    ++ map discarded_field b.discarded
    ++ (end_field ∷ [])

unfoldable pub change_fields : List Batch → List Field
change_fields [] = []
change_fields (b ∷ bs) = batch_fields b ++ change_fields bs

unfoldable pub change_bytes : List Batch → List ℕ
change_bytes bs = encode (change_fields bs)

-- a field before the first of some batches
abbrev pub into_first : Field → List (List Field) → List (List Field)
into_first f [] = (f ∷ []) ∷ []
into_first f (b ∷ bs) = (f ∷ b) ∷ bs

-- the fields of a list up to each 76, the 76 left out
unfoldable pub split_batches : List Field → List (List Field)
split_batches [] = []
split_batches (f ∷ fs) = cond (eqb f.tag 76) ([] ∷ split_batches fs) (into_first f (split_batches fs))

unfoldable pub change_shapes : List Shape
change_shapes =
    key_shape 0 ∷ key_shape 4 ∷ key_shape 10 ∷ key_shape 11 ∷ key_shape 12 ∷ key_shape 13 ∷ key_shape 14 ∷ exactly 70 1 ∷ exactly 71 4
    ∷ exactly 72 15
    ∷ exactly 73 24
    ∷ exactly 73 40
    ∷ exactly 74 8
    ∷ exactly 75 4
    ∷ exactly 76 0
    ∷ []

-- a root id is 10, 12 or 14
unfoldable pub root_listed : List ℕ → Bool
root_listed body = eqb (le 1 body) 10 || (eqb (le 1 body) 12 || eqb (le 1 body) 14)

-- a snapshot other than 0 breaks the layout outside tree 0
unfoldable pub field_ok : Field → Bool
field_ok f =
    cond (eqb f.tag 70) (root_listed f.body)
    (cond (leb 1 f.tag && leb f.tag 14) (eqb (key_of f.body).pos.snapshot 0) true)

-- the list is empty or ends with 76
unfoldable pub closed : List Field → Bool
closed [] = true
closed (f ∷ []) = eqb f.tag 76
closed (f ∷ g ∷ fs) = closed (g ∷ fs)

-- tags ascend
unfoldable pub tags_ascend : List Field → Bool
tags_ascend fs = in_order (λ f g. leb f.tag g.tag) fs

-- refusal 2, for a change list: lengths, tag order in each batch, snapshots, root ids and the closing 76
unfoldable pub change_laid_out : List ℕ → Bool
change_laid_out s =
    whole s
    && (all_of (shaped change_shapes) (fields s)
    && (all_of field_ok (fields s) && (closed (fields s) && all_of tags_ascend (split_batches (fields s)))))

unfoldable pub spot_of : List ℕ → Spot
spot_of b =
    record {
      first = sector_read b;
      stored = le 2 (drop 8 b);
      bucket = bucket_read (drop 10 b);
      generation = le 1 (drop 14 b);
    }

unfoldable pub batch_of : List Field → Batch
batch_of fs =
    record {
      extents = map key_of (bodies 0 fs);
      trees = keys_of fs;
      roots = map (le 1) (bodies 70 fs);
      taken = map bucket_read (bodies 71 fs);
      spots = map spot_of (bodies 72 fs);
      rows = map row_of (bodies 73 fs);
      sectors = map (le 8) (bodies 74 fs);
      discarded = map bucket_read (bodies 75 fs);
    }

-- the batches of a change list
unfoldable pub changes_of : List ℕ → List Batch
changes_of s = map batch_of (split_batches (fields s))
