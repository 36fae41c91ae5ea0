-- What choosing answers: the first refusal, or the sectors of a bucket, the checksum option, the pieces' slots and the buckets that the walk takes.
-- `ChoiceIs` tells what two lent tables hold then, `ChosenIs` tells of slices of them.
use Rattle.std.specs.Prelude.{ℕ, ◌≡◌, List, [], take, Result, IfOk}
use Rattle.std.specs.Int.NonZero.{non_zero_u64_get}
use Rattle.wire.specs.declared.kinds.Bucket.{Bucket}
use Rattle.calls.specs.Answers.{read_call, read_volume}
use Rattle.calls.specs.Pieces.{buckets_needed}
use Rattle.calls.specs.Place.{slots_of, walk_of, place_tests}
use Rattle.calls.specs.Refusals.{verdict}
use Rattle.format.specs.Checksums.{option_byte}
use Rattle.reader.specs.Refusals.{number_in}
use Rattle.reader.specs.declared.refusal.Refusal.{Refusal}
use Rattle.freespace.specs.Walks.{unwalked, WalkTook}
use Rattle.next_fit.specs.Fit.{slots_in}
use Rattle.next_fit.specs.declared.slot.Slot.{Slot}
use Rattle.place_tests.specs.declared.refusals.Choice.{Choice}
use Rattle.place_tests.specs.declared.refusals.Chosen.{Chosen}

-- what is chosen for a list, by two tables: the walk leaves `after` of a table of buckets that held `before`, with those that it takes at the front, and `slots` are the pieces'
pub record ChoiceFor (s : List ℕ) (before after : List Bucket) (slots : List Slot) (c : Choice) : Type 0 where
  pub sectors : non_zero_u64_get c.sectors ≡ (read_volume s).head.bucket_sectors
  pub option : option_byte c.option ≡ (read_volume s).head.option
  pub took :
      WalkTook (buckets_needed (slots_of (read_call s))) (take c.walked.passed (read_volume s).trees.freespace) (walk_of (read_call s)) unwalked before after c.walked
  pub laid : slots_in slots ≡ slots_of (read_call s)

-- the first refusal, or what is chosen, with what the tables hold
pub record ChoiceIs (s : List ℕ) (before after : List Bucket) (slots : List Slot) (r : Result Choice Refusal) : Type 0 where
  pub refusal : number_in r ≡ verdict (place_tests (read_call s))
  pub chosen : IfOk r (ChoiceFor s before after slots)

-- what is chosen for a list, by slices of the tables
pub record ChosenFor (s : List ℕ) (c : Chosen) : Type 0 where
  pub sectors : non_zero_u64_get c.sectors ≡ (read_volume s).head.bucket_sectors
  pub option : option_byte c.option ≡ (read_volume s).head.option
  pub slots : slots_in c.slots.now ≡ slots_of (read_call s)
  pub taken : c.taken.now ≡ (walk_of (read_call s)).taken
  pub walk :
      WalkTook (buckets_needed (slots_of (read_call s))) (take c.walked.passed (read_volume s).trees.freespace) (walk_of (read_call s)) unwalked [] c.taken.now c.walked

pub record ChosenIs (s : List ℕ) (r : Result Chosen Refusal) : Type 0 where
  pub refusal : number_in r ≡ verdict (place_tests (read_call s))
  pub chosen : IfOk r (ChosenFor s)
