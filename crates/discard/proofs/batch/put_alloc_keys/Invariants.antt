use Rattle.std.proofs.Common.{◌≡◌}
use Rattle.std.specs.Prelude.{map}
use Rattle.wire.specs.Bytes.{All}
use Rattle.wire.specs.Output.{with_bytes}
use Rattle.reader.specs.ListedKeys.{keys_listed, keys_left}
use Rattle.change_fields.specs.FieldBytes.{keys_bytes}
use Rattle.need_discard.specs.Kept.{DiscardedKept}
use Rattle.discard.specs.Emitted.{discarded_key}
use Rattle.discard.proofs.batch.put_alloc_keys.Given as goal

abbrev pub invariant-loop-key : goal.invariant-loop-key
invariant-loop-key l =
    All DiscardedKept (keys_left l.key-iterator)
    × (with_bytes l.out (keys_bytes 4 (map discarded_key (keys_left l.key-iterator)))
    ≡ with_bytes l.fn.out (keys_bytes 4 (map discarded_key (keys_listed l.d.keys))))
