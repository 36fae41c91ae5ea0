use Rattle.std.proofs.Common.{◌≡◌}
use mathlib.Core.List.{flat_map}
use Rattle.wire.specs.Bytes.{All}
use Rattle.wire.specs.Output.{with_bytes}
use Rattle.calls.specs.Discard.{waiting_deletions}
use Rattle.reader.specs.ListedKeys.{keys_listed, keys_left}
use Rattle.change_fields.specs.FieldBytes.{keys_bytes}
use Rattle.need_discard.specs.Kept.{DiscardedKept}
use Rattle.discard.specs.Emitted.{buckets_of}
use Rattle.discard.proofs.batch.put_deletions.Given as goal

abbrev pub invariant-loop-key : goal.invariant-loop-key
invariant-loop-key l =
    All DiscardedKept (keys_left l.key-iterator)
    × (with_bytes l.out (keys_bytes 12 (flat_map (waiting_deletions l.d.waiting.now) (buckets_of (keys_left l.key-iterator))))
    ≡ with_bytes l.fn.out (keys_bytes 12 (flat_map (waiting_deletions l.d.waiting.now) (buckets_of (keys_listed l.d.keys)))))
