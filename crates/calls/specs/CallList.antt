-- FORMAT.md, "Call list": a list's head, keys, reserved buckets and requests, and its layout.
use Rattle.std.specs.Prelude.{ℕ, List, [], ◌∷◌, ◌++◌, map, Bool, false, ◌&&◌, ◌||◌, cond, length, drop, leb, ltb, eqb}
use Rattle.wire.specs.Numbers.{le, le_bytes}
use Rattle.wire.specs.Fields.{Field, fields, whole}
use Rattle.wire.specs.Keys.{Key, key_of}
use Rattle.wire.specs.Encode.{encode, key_field}
use Rattle.wire.specs.Order.{pos_less}
use Rattle.wire.specs.Kinds.{bucket_read, bucket_bytes, bucket_below, sector_read, sector_bytes, file_sector_read, file_sector_bytes}
use Rattle.wire.specs.declared.kinds.Bucket.{Bucket}
use Rattle.wire.specs.declared.kinds.DeviceSector.{DeviceSector}
use Rattle.wire.specs.declared.kinds.FileSector.{FileSector}
use Rattle.calls.specs.Lists.{all_of, those, in_order}
use Rattle.calls.specs.Sorting.{sorted_by}

-- field 1
pub record Head : Type 0 where
  pub call : ℕ
  pub bucket_sectors : ℕ
  pub block_sectors : ℕ
  pub option : ℕ
  pub roots : ℕ
  pub reserve : ℕ
  pub batch : ℕ
  pub journal : ℕ
  pub inode : ℕ
  pub base : FileSector

unfoldable pub head_of : List ℕ → Head
head_of b =
    record {
      call = le 1 b;
      bucket_sectors = le 2 (drop 1 b);
      block_sectors = le 2 (drop 3 b);
      option = le 1 (drop 5 b);
      roots = le 1 (drop 6 b);
      reserve = le 4 (drop 7 b);
      batch = le 4 (drop 11 b);
      journal = le 8 (drop 15 b);
      inode = le 8 (drop 23 b);
      base = file_sector_read (drop 31 b);
    }

unfoldable pub head_body : Head → List ℕ
head_body h =
    le_bytes 1 h.call ++ le_bytes 2 h.bucket_sectors ++ le_bytes 2 h.block_sectors ++ le_bytes 1 h.option
    ++ le_bytes 1 h.roots
    ++ le_bytes 4 h.reserve
    ++ le_bytes 4 h.batch
    ++ le_bytes 8 h.journal
    ++ le_bytes 8 h.inode
    ++ file_sector_bytes h.base

-- the trees of a volume: 4, 10, 11, 12, 13 and 14
pub record Trees : Type 0 where
  pub alloc : List Key
  pub lru : List Key
  pub freespace : List Key
  pub need_discard : List Key
  pub backpointers : List Key
  pub gens : List Key

-- a call list without its requests
pub record Volume : Type 0 where
  pub head : Head
  pub trees : Trees
  pub reserved : List Bucket

-- field 65
pub record Piece : Type 0 where
  pub file : ℕ
  pub stored : ℕ
  pub kind : ℕ
  pub checksum : ℕ

unfoldable pub piece_of : List ℕ → Piece
piece_of b = record { file = le 2 b; stored = le 2 (drop 2 b); kind = le 1 (drop 4 b); checksum = le 8 (drop 5 b) }

-- field 66
pub record Freed : Type 0 where
  pub first : DeviceSector
  pub sectors : ℕ

unfoldable pub freed_of : List ℕ → Freed
freed_of b = record { first = sector_read b; sectors = le 2 (drop 8 b) }

unfoldable pub piece_body : Piece → List ℕ
piece_body p = le_bytes 2 p.file ++ le_bytes 2 p.stored ++ le_bytes 1 p.kind ++ le_bytes 8 p.checksum

unfoldable pub freed_body : Freed → List ℕ
freed_body r = sector_bytes r.first ++ le_bytes 2 r.sectors

-- a list that was read
pub record CallList : Type 0 where
  pub volume : Volume
  pub pieces : List Piece
  pub releases : List Freed

-- the bodies of the fields with a tag
unfoldable pub bodies : ℕ → List Field → List (List ℕ)
bodies t fs = map (λ f. f.body) (those (λ f. eqb f.tag t) fs)

abbrev pub first_body : List (List ℕ) → List ℕ
first_body [] = []
first_body (b ∷ bs) = b

-- the keys of each tree, as they stand
unfoldable pub keys_of : List Field → Trees
keys_of fs =
    record {
      alloc = map key_of (bodies 4 fs);
      lru = map key_of (bodies 10 fs);
      freespace = map key_of (bodies 11 fs);
      need_discard = map key_of (bodies 12 fs);
      backpointers = map key_of (bodies 13 fs);
      gens = map key_of (bodies 14 fs);
    }

-- a key stands at a lower position
abbrev pub key_below : Key → Key → Bool
key_below a b = pos_less a.pos b.pos

-- the keys of each tree by position
unfoldable pub sorted_trees : Trees → Trees
sorted_trees t =
    record {
      alloc = sorted_by key_below t.alloc;
      lru = sorted_by key_below t.lru;
      freespace = sorted_by key_below t.freespace;
      need_discard = sorted_by key_below t.need_discard;
      backpointers = sorted_by key_below t.backpointers;
      gens = sorted_by key_below t.gens;
    }

-- reserved buckets by number
unfoldable pub reserved_of : List Field → List Bucket
reserved_of fs = sorted_by bucket_below (map bucket_read (bodies 64 fs))

-- what a list is read as, in whatever order its fields stand; requests keep theirs
unfoldable pub call_list_of : List Field → CallList
call_list_of fs =
    record {
      volume = record { head = head_of (first_body (bodies 1 fs)); trees = sorted_trees (keys_of fs); reserved = reserved_of fs };
      pieces = map piece_of (bodies 65 fs);
      releases = map freed_of (bodies 66 fs);
    }

-- a field's tag, and the shortest and the longest body that it may have
pub record Shape : Type 0 where
  pub tag : ℕ
  pub least : ℕ
  pub most : ℕ

-- a field has one of these shapes
unfoldable pub shaped : List Shape → Field → Bool
shaped [] f = false
shaped (s ∷ ss) f =
    (eqb f.tag s.tag && (leb s.least (length f.body) && leb (length f.body) s.most)) || shaped ss f

-- the shape of a key: a value of 0 to 256 bytes
abbrev pub key_shape : ℕ → Shape
key_shape tree = record { tag = tree; least = 37; most = 293 }

abbrev pub exactly : ℕ → ℕ → Shape
exactly tag n = record { tag = tag; least = n; most = n }

unfoldable pub volume_shapes : List Shape
volume_shapes =
    exactly 1 39 ∷ key_shape 4 ∷ key_shape 10 ∷ key_shape 11 ∷ key_shape 12 ∷ key_shape 13 ∷ key_shape 14 ∷ exactly 64 4 ∷ []

-- the shapes of a call's requests: place 65, release 66, discard none
unfoldable pub request_shapes : ℕ → List Shape
request_shapes call = cond (eqb call 1) (exactly 65 13 ∷ []) (cond (eqb call 2) (exactly 66 10 ∷ []) [])

-- the test holds of each tree
abbrev pub all_trees : (List Key → Bool) → Trees → Bool
all_trees test t =
    test t.alloc
    && (test t.lru && (test t.freespace && (test t.need_discard && (test t.backpointers && test t.gens))))

-- every snapshot is 0
abbrev pub snapshots_ok : List Key → Bool
snapshots_ok ks = all_of (λ k. eqb k.pos.snapshot 0) ks

-- keys ascend strictly: no position stands twice
abbrev pub keys_ascend : List Key → Bool
keys_ascend ks = in_order key_below ks

-- what refusals 2 and 22 leave of a tree, and of all
unfoldable pub keys_ok : List Key → Bool
keys_ok ks = keys_ascend ks && snapshots_ok ks

unfoldable pub trees_ok : Trees → Bool
trees_ok t = all_trees keys_ok t

-- the call is 1, 2 or 3, and the root bits above bit 2 are 0
unfoldable pub head_ok : Head → Bool
head_ok h = leb 1 h.call && (leb h.call 3 && ltb h.roots 8)

-- a list of whole fields of these shapes, with field 1 exactly once
unfoldable pub laid_out : List Shape → List ℕ → Bool
laid_out shapes s =
    whole s
    && (all_of (shaped shapes) (fields s)
    && (eqb (length (bodies 1 (fields s))) 1
    && (head_ok (call_list_of (fields s)).volume.head && all_trees snapshots_ok (call_list_of (fields s)).volume.trees)))

-- refusal 2, for a call: the layout, the call's own number, and no other call's requests
unfoldable pub call_laid_out : ℕ → List ℕ → Bool
call_laid_out call s =
    laid_out (volume_shapes ++ request_shapes call) s && eqb (call_list_of (fields s)).volume.head.call call

-- refusal 2, for a volume, which has no requests
unfoldable pub volume_laid_out : List ℕ → Bool
volume_laid_out s = laid_out volume_shapes s

-- refusal 2, for a list of whatever call its head names
unfoldable pub list_laid_out : List ℕ → Bool
list_laid_out s = laid_out (volume_shapes ++ request_shapes (call_list_of (fields s)).volume.head.call) s

-- refusal 22: of the sorted keys of a tree no two neighbours stand at one position, and no reserved bucket stands twice
unfoldable pub none_twice : Volume → Bool
none_twice v = all_trees keys_ascend v.trees && in_order bucket_below v.reserved

-- the fields of a volume
unfoldable pub tree_fields : Trees → List Field
tree_fields t =
    map (key_field 4) t.alloc ++ map (key_field 10) t.lru ++ map (key_field 11) t.freespace
    ++ map (key_field 12) t.need_discard
    ++ map (key_field 13) t.backpointers
    ++ map (key_field 14) t.gens

unfoldable pub reserved_field : Bucket → Field
reserved_field b = record { tag = 64; body = bucket_bytes b }

unfoldable pub volume_fields : Volume → List Field
volume_fields v =
    (record { tag = 1; body = head_body v.head } ∷ []) ++ tree_fields v.trees ++ map reserved_field v.reserved

unfoldable pub volume_bytes : Volume → List ℕ
volume_bytes v = encode (volume_fields v)

abbrev pub piece_field : Piece → Field
piece_field p = record { tag = 65; body = piece_body p }

abbrev pub freed_field : Freed → Field
freed_field r = record { tag = 66; body = freed_body r }

-- the sorted form of a list that was read: field 1, the trees, reserved buckets, and the requests in their own order
unfoldable pub call_bytes : CallList → List ℕ
call_bytes c = encode (volume_fields c.volume ++ map piece_field c.pieces ++ map freed_field c.releases)
