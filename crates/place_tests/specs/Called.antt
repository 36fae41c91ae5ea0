-- A list that meets none of refusals 2, 22 and 3: its head, the parts that choosing reads, and its pieces.
use Rattle.std.specs.Prelude.{◌≤◌, ◌≡◌, true, length}
use Rattle.wire.specs.Kinds.{base_in_range}
use Rattle.calls.specs.Answers.{read_call, read_volume}
use Rattle.reader.specs.Heads.{head_in}
use Rattle.reader.specs.ListedKeys.{keys_listed}
use Rattle.reader.specs.ListedBuckets.{buckets_listed}
use Rattle.reader.specs.PieceLists.{Pieces, pieces_of}
use Rattle.reader.specs.declared.read_list.ReadList.{ReadList}
use Rattle.reader.specs.Checked.{Checked}

pub record Called (r : ReadList) (ps : Pieces) : Type 0 where
  pub checked : Checked r.list.now
  pub head : head_in r.head ≡ (read_volume r.list.now).head
  pub alloc_are : keys_listed r.alloc ≡ (read_volume r.list.now).trees.alloc
  pub runs_are : keys_listed r.freespace ≡ (read_volume r.list.now).trees.freespace
  pub reserved_are : buckets_listed r.reserved ≡ (read_volume r.list.now).reserved
  pub pieces : pieces_of ps ≡ (read_call r.list.now).pieces
  -- refusal 3: at most 1,024 pieces, the base below 2^40
  pub few : length (pieces_of ps) ≤ 1024
  pub base : base_in_range r.head.base ≡ true
