-- What a discard is given by the reader.
use Rattle.std.specs.Prelude.{◌≡◌, true}
use Rattle.calls.specs.Limits.{volume_within}
use Rattle.calls.specs.Answers.{read_volume}
use Rattle.reader.specs.Heads.{head_in}
use Rattle.reader.specs.ListedKeys.{keys_listed}
use Rattle.reader.specs.declared.read_list.ReadList.{ReadList}

-- A list of a discard: its head, its alloc and need-discard keys, and its limits (refusal 3).
pub record DiscardGiven (r : ReadList) : Type 0 where
  pub headed : head_in r.head ≡ (read_volume r.list.now).head
  pub allocs : keys_listed r.alloc ≡ (read_volume r.list.now).trees.alloc
  pub needs : keys_listed r.need_discard ≡ (read_volume r.list.now).trees.need_discard
  pub within : volume_within (read_volume r.list.now) ≡ true
