-- Small volumes and lists that the worked cases are about.
use Rattle.std.specs.Prelude.{List, [], ◌∷◌, ◌++◌, map, cond, ℕ, ◌^◌, eqb}
use Rattle.wire.specs.Fields.{Field}
use Rattle.wire.specs.Encode.{encode}
use Rattle.wire.specs.Keys.{Key}
use Rattle.wire.specs.Positions.{alloc_at, run_at, need_discard_at, gens_at}
use Rattle.wire.specs.declared.kinds.Bucket.{Bucket}
use Rattle.wire.specs.declared.kinds.DeviceSector.{DeviceSector}
use Rattle.format.specs.Packing.{store}
use Rattle.format.specs.AllocV4.{data_type, need_discard_type, new_alloc}
use Rattle.calls.specs.CallList.{Head, Volume, Piece, Freed, volume_fields, volume_bytes, piece_field, freed_field}
use Rattle.calls.specs.Trees.{new_key, with_value}
use Rattle.calls.specs.Pieces.{Slot}
use Rattle.calls.specs.ChangeList.{Spot, Batch, changes_of}
use Rattle.calls.specs.Answers.{Answer, place}

abbrev pub bucket : ℕ → Bucket
bucket n = record { 0 = n }

abbrev pub sector : ℕ → DeviceSector
sector n = record { 0 = n }

-- buckets of 128 sectors, blocks of 1, no option, roots or reserve, batches of so many, journal number 7, inode 1, and a base
abbrev pub head_at : ℕ → ℕ → ℕ → Head
head_at base call batch =
    record {
      call = call;
      bucket_sectors = 128;
      block_sectors = 1;
      option = 0;
      roots = 0;
      reserve = 0;
      batch = batch;
      journal = 7;
      inode = 1;
      base = record { 0 = base };
    }

-- the same with base 0
abbrev pub head_for : ℕ → ℕ → Head
head_for call batch = head_at 0 call batch

-- a volume with these alloc, freespace and need-discard keys and no others
abbrev pub volume_for : Head → List Key → List Key → List Key → List Bucket → Volume
volume_for head alloc freespace need_discard reserved =
    record {
      head = head;
      trees =
          record { alloc = alloc; lru = []; freespace = freespace; need_discard = need_discard; backpointers = []; gens = [] };
      reserved = reserved;
    }

-- a run with an end and a size
abbrev pub run : ℕ → ℕ → Key
run end size = new_key 25 size (run_at (bucket end)) []

-- the alloc key of a bucket with a generation and a dirty count
abbrev pub used_bucket : ℕ → ℕ → ℕ → Key
used_bucket b generation dirty = new_key 27 0 (alloc_at (bucket b)) (new_alloc 1 generation dirty 1)

-- the need-discard key of a bucket, under a journal number
abbrev pub waits_since : ℕ → ℕ → Key
waits_since journal b = new_key 25 0 (need_discard_at journal (bucket b)) []

-- the same under journal number 7
abbrev pub waits : ℕ → Key
waits b = waits_since 7 b

-- the alloc key of an emptied bucket with a generation
abbrev pub emptied_at : ℕ → ℕ → Key
emptied_at b generation = with_value (used_bucket b generation 0) (store data_type need_discard_type (new_alloc 1 generation 0 1))

-- the ends and sizes of the runs that a batch makes
abbrev pub run_ends : Batch → List (ℕ × ℕ)
run_ends b = map (λ k. (k.pos.offset, k.size)) b.trees.freespace

-- fields in their order, in the opposite order, and with the first behind the next two
abbrev pub ascending : List Field → List Field
ascending fs = fs

abbrev pub backwards : List Field → List Field
backwards [] = []
backwards (f ∷ fs) = backwards fs ++ (f ∷ [])

abbrev pub head_inside : List Field → List Field
head_inside [] = []
head_inside (f ∷ []) = f ∷ []
head_inside (f ∷ g ∷ []) = g ∷ f ∷ []
head_inside (f ∷ g ∷ h ∷ fs) = g ∷ h ∷ f ∷ fs

-- a plain piece of so many sectors
abbrev pub plain : ℕ → Piece
plain n = record { file = n; stored = n; kind = 0; checksum = 0 }

-- a list that places pieces, and one that releases
abbrev pub placing : Volume → List Piece → List ℕ
placing v ps = volume_bytes v ++ encode (map piece_field ps)

abbrev pub releasing : Volume → List Freed → List ℕ
releasing v rs = volume_bytes v ++ encode (map freed_field rs)

-- where next fit puts a piece, and where a field 72 says that it lies
abbrev pub slot : ℕ → ℕ → Slot
slot index offset = record { index = index; offset = offset }

abbrev pub spot : ℕ → ℕ → ℕ → Spot
spot first stored b = record { first = sector first; stored = stored; bucket = bucket b; generation = 0 }

-- so many sectors given back from a sector on
abbrev pub freeing : ℕ → ℕ → Freed
freeing first sectors = record { first = sector first; sectors = sectors }

-- what each batch of an answer says
abbrev pub of_batches : {A : Type 0} → (Batch → A) → Answer → List A
of_batches part a = map part (changes_of a.written)

-- a volume with one run of so many free buckets
abbrev pub free_volume : ℕ → Volume
free_volume n = volume_for (head_for 1 1) [] (run n n ∷ []) [] []

-- bucket 5 holds 96 sectors of 128
abbrev pub held_volume : Volume
held_volume = volume_for (head_for 2 1) (used_bucket 5 255 96 ∷ []) [] [] []

-- buckets that wait for discard, of one generation
abbrev pub waiting : ℕ → ℕ → List ℕ → Volume
waiting batch generation bs =
    volume_for (head_for 3 batch) (map (λ b. emptied_at b generation) bs) [] (map waits bs) []

-- a list whose base passes its limit
abbrev pub past_base : List ℕ
past_base = volume_bytes (volume_for (head_at (2 ^ 40) 1 1) [] [] [] [])

-- an alloc key of inode 1 with a clock
abbrev pub elsewhere : ℕ → Key
elsewhere clock = new_key 27 0 (record { inode = 1; offset = 0; snapshot = 0 }) (new_alloc 1 0 0 clock)

-- a key at a position
abbrev pub key_at : ℕ → ℕ → Key
key_at inode offset = new_key 1 0 (record { inode = inode; offset = offset; snapshot = 0 }) []

-- a volume with these keys in one tree and these reserved buckets, and nothing else
abbrev pub holding : ℕ → List Key → List Bucket → Volume
holding tree ks reserved =
    record {
      head = head_for 3 1;
      trees =
          record {
            alloc = cond (eqb tree 4) ks [];
            lru = cond (eqb tree 10) ks [];
            freespace = cond (eqb tree 11) ks [];
            need_discard = cond (eqb tree 12) ks [];
            backpointers = cond (eqb tree 13) ks [];
            gens = cond (eqb tree 14) ks [];
          };
      reserved = reserved;
    }

-- the generation record from a bucket on, of these bytes
abbrev pub gens_from : ℕ → List ℕ → Key
gens_from first bytes = new_key 30 0 (gens_at (bucket first)) bytes

-- records from buckets 0 and 512 on, a key of another type where that of bucket 256 would stand, and two keys past every record
abbrev pub two_records : Volume
two_records =
    holding 14
    (gens_from 0 (5 ∷ 6 ∷ 7 ∷ []) ∷ with_value (key_at 0 1) (9 ∷ []) ∷ gens_from 512 (8 ∷ []) ∷ key_at 1 0 ∷ key_at 1 1 ∷ []) []

-- forty free buckets, of which two are reserved, and an alloc key
abbrev pub two_reserved : Volume
two_reserved = volume_for (head_for 1 1) (elsewhere 9 ∷ []) (run 40 40 ∷ []) [] (bucket 3 ∷ bucket 4 ∷ [])

-- two pieces of descending size on it; and the same behind both pieces and in the opposite order, with field 1 last
abbrev pub two_pieces : List ℕ
two_pieces = placing two_reserved (plain 96 ∷ plain 64 ∷ [])

abbrev pub two_pieces_shuffled : List ℕ
two_pieces_shuffled = encode (map piece_field (plain 96 ∷ plain 64 ∷ []) ++ backwards (volume_fields two_reserved))

-- the placement of P case 1: forty free buckets of 128 sectors, stored 96, 96 and 64
abbrev pub three_pieces : Answer
three_pieces = place (placing (free_volume 40) (plain 96 ∷ plain 96 ∷ plain 64 ∷ [])) 2000
