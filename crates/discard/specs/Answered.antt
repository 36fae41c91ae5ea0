-- What a discard of a list that was read answers.
use Rattle.std.specs.Prelude.{◌≡◌, ℕ, List, [], Result, length}
use Rattle.calls.specs.ChangeList.{change_bytes}
use Rattle.calls.specs.Discard.{discard_batches}
use Rattle.calls.specs.Answers.{read_volume, answer, outcome}
use Rattle.reader.specs.Refusals.{made_by}
use Rattle.reader.specs.declared.read_list.ReadList.{ReadList}
use Rattle.reader.specs.declared.refusal.Refusal.{Refusal}

-- the answer, the output before it and the output after it: the change list of the list's volume, or 21
abbrev pub DiscardAnswered : ReadList → Result ℕ Refusal → List ℕ → List ℕ → Type 0
DiscardAnswered r result before after = made_by result after ≡ outcome (answer [] (change_bytes (discard_batches (read_volume r.list.now))) (length before)) before
