use Rattle.std.proofs.Common.{◌≡◌}
use Rattle.std.specs.Int.NonZero.{non_zero_u32_get}
use Rattle.std.specs.Slice.Iter.{chunks_rest, chunks_size}
use Rattle.wire.specs.Output.{with_bytes}
use Rattle.reader.specs.KeyHere.{keys_here, WholeKeys}
use Rattle.reader.specs.ListedKeys.{keys_listed}
use Rattle.discard.specs.Emitted.{changes_from}
use Rattle.discard.specs.Shown.{DiscardShown}
use Rattle.discard.proofs.changes.discard_freed.Given as goal

abbrev pub invariant-loop-places : goal.invariant-loop-places
invariant-loop-places l =
    goal.iterator-loop-places.can_next l.places-iterator
    × goal.iterator-loop-places.is_finite l.places-iterator
    × (chunks_size l.places-iterator ≡ non_zero_u32_get l.fn.size)
    × WholeKeys l.d.keys.list.now (chunks_rest l.places-iterator)
    × DiscardShown (keys_here l.d.keys.list.now (chunks_rest l.places-iterator))
    × (with_bytes l.out (changes_from l.d.waiting.now (non_zero_u32_get l.fn.size) (keys_here l.d.keys.list.now (chunks_rest l.places-iterator)))
    ≡ with_bytes l.fn.out (changes_from l.d.waiting.now (non_zero_u32_get l.fn.size) (keys_listed l.d.keys)))
