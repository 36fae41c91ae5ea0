use Rattle.std.proofs.Common.{◌≡◌, ◌+◌, ◌≤◌, length}
use Rattle.std.specs.Prelude.{map}
use Rattle.wire.specs.Bytes.{All}
use Rattle.wire.specs.Output.{with_bytes}
use Rattle.calls.specs.Discard.{joined_runs, run_key}
use Rattle.reader.specs.ListedKeys.{keys_listed, keys_left}
use Rattle.change_fields.specs.FieldBytes.{keys_bytes}
use Rattle.need_discard.specs.Kept.{DiscardedKept}
use Rattle.discard.specs.Emitted.{buckets_of}
use Rattle.discard.proofs.RunLaws.{open_runs}
use Rattle.discard.proofs.runs.put_runs.Given as goal

abbrev pub invariant-loop-key : goal.invariant-loop-key
invariant-loop-key l =
    All DiscardedKept (keys_left l.key-iterator)
    × (l.r.size + length (keys_left l.key-iterator) ≤ 4096)
    × (with_bytes l.out (keys_bytes 11 (open_runs l.r (buckets_of (keys_left l.key-iterator))))
    ≡ with_bytes l.fn.out (keys_bytes 11 (map run_key (joined_runs (buckets_of (keys_listed l.d.keys))))))
