-- The loop's invariant: the table is right for the keys passed.
use Rattle.std.proofs.Common.{◌≡◌, length, take, drop}
use Rattle.reader.specs.ListedKeys.{keys_listed, keys_left}
use Rattle.need_discard.specs.Table.{TableEntries}
use Rattle.need_discard.proofs.waiting.note_waiting.Given as goal

abbrev pub invariant-loop-i : goal.invariant-loop-i
invariant-loop-i l =
    goal.iterator-loop-i.can_next l.key-iterator
    × goal.iterator-loop-i.is_finite l.key-iterator
    × (keys_left l.key-iterator ≡ drop l.i (keys_listed l.keys))
    × (length l.table ≡ 65536)
    × TableEntries (keys_listed l.keys) (take l.i (keys_listed l.keys)) l.table
