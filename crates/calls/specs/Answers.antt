-- The six answers: number and bytes, for any list and any output length.
use Rattle.std.specs.Prelude.{ℕ, List, [], ◌∷◌, ◌++◌, not, ◌&&◌, cond, length, drop, replicate, leb, ltb, eqb}
use Rattle.wire.specs.Fields.{fields}
use Rattle.wire.specs.Kinds.{bucket_below}
use Rattle.wire.specs.declared.kinds.Bucket.{Bucket}
use Rattle.calls.specs.CallList.{Volume, CallList, call_list_of, call_laid_out, volume_laid_out, list_laid_out, none_twice, volume_bytes, call_bytes}
use Rattle.calls.specs.Lists.{in_order}
use Rattle.calls.specs.Limits.{volume_within, list_within, buckets_within}
use Rattle.calls.specs.JointLookup.{joint_lookup}
use Rattle.calls.specs.ChangeList.{change_bytes, change_laid_out, changes_of}
use Rattle.calls.specs.Place.{place_tests, place_batch, placed_of, walk_of}
use Rattle.calls.specs.Release.{release_tests, release_batch}
use Rattle.calls.specs.Discard.{discard_batches}
use Rattle.calls.specs.Apply.{apply_batches}
use Rattle.calls.specs.Refusals.{test, verdict}
use Rattle.calls.specs.Computing.{computing}

-- number 0 and the bytes written, or the refusal's number and none
pub record Answer : Type 0 where
  pub number : ℕ
  pub written : List ℕ

abbrev pub answered : ℕ → List ℕ → Answer
answered number bytes = record { number = number; written = cond (eqb number 0) bytes [] }

-- the first test that fails; 21 comes last, and an exact fit is accepted
unfoldable pub answer : List ℕ → List ℕ → ℕ → Answer
answer tests bytes room = answered (verdict (tests ++ (test 21 (leb (length bytes) room) ∷ []))) bytes

-- what a call reads of a list
abbrev pub read_call : List ℕ → CallList
read_call s = call_list_of (fields s)

abbrev pub read_volume : List ℕ → Volume
read_volume s = (read_call s).volume

-- list, output length
unfoldable pub place : List ℕ → ℕ → Answer
unfolding computing answer
place s room =
    let c = read_call s in
    answer (test 2 (call_laid_out 1 s) ∷ test 22 (none_twice c.volume) ∷ test 3 (list_within c) ∷ place_tests c)
    (change_bytes (place_batch c.volume (placed_of c) (walk_of c) ∷ [])) room

-- list, scratch length, output length
unfoldable pub release : List ℕ → ℕ → ℕ → Answer
unfolding computing answer
release s scratch room =
    let c = read_call s in
    answer
    (test 1 (leb 65536 scratch) ∷ test 2 (call_laid_out 2 s) ∷ test 22 (none_twice c.volume) ∷ test 3 (list_within c)
    ∷ release_tests c.volume c.releases)
    (change_bytes (release_batch c.volume c.releases ∷ [])) room

-- list, output length
unfoldable pub discard : List ℕ → ℕ → Answer
unfolding computing answer
discard s room =
    let c = read_call s in
    answer
    (test 2 (call_laid_out 3 s) ∷ test 22 (none_twice c.volume) ∷ test 3 (list_within c)
    ∷ test 20 (not (eqb c.volume.head.batch 0))
    ∷ [])
    (change_bytes (discard_batches c.volume)) room

-- the next volume
abbrev pub next_volume : List ℕ → List ℕ → Volume
next_volume s change = apply_batches (changes_of change) (read_volume s)

-- volume, change list, output length
unfoldable pub apply : List ℕ → List ℕ → ℕ → Answer
unfolding computing answer
apply s change room =
    answer
    (test 2 (volume_laid_out s && change_laid_out change) ∷ test 22 (none_twice (read_volume s)) ∷ test 3 (volume_within (read_volume s))
    ∷ test 3 (volume_within (next_volume s change))
    ∷ [])
    (volume_bytes (next_volume s change)) room

-- the sorted form of a list: the encoding of what was read
abbrev pub sorted_form : List ℕ → List ℕ
sorted_form s = call_bytes (read_call s)

-- list, output length
unfoldable pub sort : List ℕ → ℕ → Answer
unfolding computing answer
sort s room =
    let c = read_call s in
    answer (test 2 (list_laid_out s) ∷ test 22 (none_twice c.volume) ∷ test 3 (list_within c) ∷ []) (sorted_form s) room

-- number 0, a byte for each bucket and how many keys were visited, or the refusal's number and none
pub record GenerationsAnswer : Type 0 where
  pub number : ℕ
  pub written : List ℕ
  pub visited : ℕ

abbrev pub with_visited : ℕ → Answer → GenerationsAnswer
with_visited visited a =
    record { number = a.number; written = a.written; visited = cond (eqb a.number 0) visited 0 }

-- volume, buckets, output length
unfoldable pub generations : List ℕ → List Bucket → ℕ → GenerationsAnswer
unfolding computing answer
generations s buckets room =
    let v = read_volume s in
    let looked = joint_lookup v.trees.gens buckets in
    with_visited looked.visited
    (answer
    (test 2 (volume_laid_out s && in_order bucket_below buckets) ∷ test 22 (none_twice v) ∷ test 3 (volume_within v && buckets_within buckets)
    ∷ [])
    looked.generations room)

-- the whole output after a call: the bytes written, and the rest unchanged
unfoldable pub output_after : Answer → List ℕ → List ℕ
output_after a before = a.written ++ drop (length a.written) before

-- what a call leaves: its number, how many bytes are written, and the whole output
pub record Outcome : Type 0 where
  pub number : ℕ
  pub count : ℕ
  pub output : List ℕ

abbrev pub made : ℕ → ℕ → List ℕ → Outcome
made number count output = record { number = number; count = count; output = output }

unfoldable pub outcome : Answer → List ℕ → Outcome
outcome a before = made a.number (length a.written) (output_after a before)

-- what a lookup of generations leaves: its number, how many keys were visited, and the whole output
pub record GenerationsOutcome : Type 0 where
  pub number : ℕ
  pub visited : ℕ
  pub output : List ℕ

abbrev pub looked_up : ℕ → ℕ → List ℕ → GenerationsOutcome
looked_up number visited output = record { number = number; visited = visited; output = output }

unfoldable pub generations_outcome : GenerationsAnswer → List ℕ → GenerationsOutcome
generations_outcome a before =
    looked_up a.number a.visited (output_after (record { number = a.number; written = a.written }) before)

-- the whole scratch after a release: number 1 leaves all of it, else its first 65,536 sums are cleared
unfoldable pub scratch_after : List ℕ → List ℕ
scratch_after before = cond (ltb (length before) 65536) before (replicate 65536 0 ++ drop 65536 before)
