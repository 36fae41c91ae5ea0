-- The loop's invariant: the places that are chosen so far, and those that are left.
use Rattle.std.proofs.Common.{◌≡◌}
use Rattle.need_discard.proofs.ChosenLaws.{Choosing}
use Rattle.need_discard.proofs.discarded.discarded_keys.Given as goal

abbrev pub invariant-loop-key : goal.invariant-loop-key
invariant-loop-key l =
    (l.key-iterator.keys.list.now ≡ l.fn.alloc.list.now)
    × Choosing l.fn.alloc.list.now l.waiting l.fn.alloc.places.now l.key-iterator.keys.places.now l.room l.n
