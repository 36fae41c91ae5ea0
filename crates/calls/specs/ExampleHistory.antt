-- A small volume and a history on it: two placements, a release of a part, one that empties, a refused call, a refused apply, a discard, and a
-- placement that reuses the bucket. The fields of some lists stand in other orders.
use Rattle.std.specs.Prelude.{List, [], ◌∷◌, ◌++◌, map, ℕ}
use Rattle.wire.specs.Fields.{Field}
use Rattle.wire.specs.Encode.{encode}
use Rattle.calls.specs.CallList.{Head, volume_fields, volume_bytes, piece_field, freed_field}
use Rattle.calls.specs.Answers.{read_volume}
use Rattle.calls.specs.History.{Live, State, placing, releasing, discarding, Step, advance, after, start}
use Rattle.calls.specs.Examples.{bucket, sector, volume_for, run, plain, ascending, backwards, head_inside}

-- buckets of 8 sectors
abbrev pub head : ℕ → ℕ → Head
head call journal =
    record {
      call = call;
      bucket_sectors = 8;
      block_sectors = 1;
      option = 0;
      roots = 0;
      reserve = 0;
      batch = 1;
      journal = journal;
      inode = 1;
      base = record { 0 = 0 };
    }

-- forty free buckets, bucket 3 reserved
abbrev pub clean : List ℕ
clean = volume_bytes (volume_for (head 1 1) [] (run 40 40 ∷ []) [] (bucket 3 ∷ []))

-- the volume reached, with another field 1 and requests, its fields in this order
abbrev pub list_on : State → Head → List Field → (List Field → List Field) → List ℕ
list_on st h requests order =
    encode
    (order
    (volume_fields (record { head = h; trees = (read_volume st.volume).trees; reserved = (read_volume st.volume).reserved })
    ++ requests))

abbrev pub places : ℕ → ℕ → List ℕ → (List Field → List Field) → State → Step
places journal apply_room sizes order st =
    record {
      call = placing;
      list = list_on st (head 1 journal) (map (λ n. piece_field (plain n)) sizes) order;
      scratch = 0;
      room = 2000;
      apply_room = apply_room;
    }

abbrev pub releases : ℕ → ℕ → ℕ → (List Field → List Field) → State → Step
releases journal first sectors order st =
    record {
      call = releasing;
      list = list_on st (head 2 journal) (freed_field (record { first = sector first; sectors = sectors }) ∷ []) order;
      scratch = 65536;
      room = 2000;
      apply_room = 2000;
    }

abbrev pub discards : ℕ → (List Field → List Field) → State → Step
discards journal order st =
    record { call = discarding; list = list_on st (head 3 journal) [] order; scratch = 0; room = 2000; apply_room = 2000 }

-- the steps as they run, each on the state that it finds
abbrev pub ran : State → List (State → Step) → List Step
ran st [] = []
ran st (f ∷ fs) = f st ∷ ran (advance st (f st)) fs

abbrev pub steps : List (State → Step)
steps =
    -- 6, 4 and 2 sectors: bucket 0, and twice bucket 1
    places 1 2000 (6 ∷ 4 ∷ 2 ∷ []) ascending
    -- 3 sectors: bucket 2; field 1 stands behind the first two keys
    ∷ places 2 2000 (3 ∷ []) head_inside
    -- bucket 1 keeps 4 sectors; all fields stand in the opposite order
    ∷ releases 3 12 2 backwards
    -- bucket 0 is emptied
    ∷ releases 4 0 6 ascending
    -- refused: bucket 9 has no alloc key
    ∷ releases 5 72 1 head_inside
    -- accepted, and its apply refused: the next volume outgrows 10 bytes
    ∷ places 6 10 (5 ∷ []) ascending
    -- bucket 0 is free again; all fields stand in the opposite order
    ∷ discards 7 backwards
    -- 5 sectors in bucket 0, of the next generation, and 5 in bucket 4
    ∷ places 8 2000 (5 ∷ 5 ∷ []) head_inside
    ∷ []

abbrev pub reached : State
reached = after (start clean) (ran (start clean) steps)

abbrev pub piece : ℕ → ℕ → ℕ → Live
piece first generation length = record { first = sector first; generation = generation; length = length }
