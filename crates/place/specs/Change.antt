-- The batch of a placement, and its fields in two parts: the keys, and what follows them. Together they are `batch_fields`.
use Rattle.std.specs.Prelude.{ℕ, Bool, not, List, [], ◌∷◌, ◌++◌, map}
use Rattle.wire.specs.Fields.{Field}
use Rattle.wire.specs.Encode.{key_field}
use Rattle.wire.specs.Rows.{row_field}
use Rattle.calls.specs.Lists.{is_empty}
use Rattle.calls.specs.CallList.{tree_fields}
use Rattle.calls.specs.ChangeList.{Batch, root_field, taken_field, spot_field, sectors_field, discarded_field, end_field}
use Rattle.calls.specs.Place.{placed_of, walk_of, place_batch}
use Rattle.calls.specs.Answers.{read_call, read_volume}

-- the batch that placing the requests of a list writes
abbrev pub placement : List ℕ → Batch
placement s = place_batch (read_volume s) (placed_of (read_call s)) (walk_of (read_call s))

-- whether it queues an LRU key: that is where it wants the LRU root
unfoldable pub root_is_wanted : List ℕ → Bool
root_is_wanted s = not (is_empty (placement s).trees.lru)

unfoldable pub key_fields : Batch → List Field
key_fields b = map (key_field 0) b.extents ++ tree_fields b.trees

unfoldable pub other_fields : Batch → List Field
other_fields b =
    map root_field b.roots ++ map taken_field b.taken ++ map spot_field b.spots ++ map row_field b.rows
    ++ map sectors_field b.sectors
    ++ map discarded_field b.discarded
    ++ (end_field ∷ [])
