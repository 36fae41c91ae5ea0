use Rattle.std.proofs.Common.{◌≡◌}
use Rattle.std.specs.Prelude.{map}
use Rattle.wire.specs.Encode.{encode}
use Rattle.wire.specs.Output.{with_bytes}
use Rattle.calls.specs.ChangeList.{discarded_field}
use Rattle.reader.specs.ListedKeys.{keys_listed, keys_left}
use Rattle.discard.specs.Emitted.{buckets_of}
use Rattle.discard.proofs.batch.put_unreserved.Given as goal

abbrev pub invariant-loop-key : goal.invariant-loop-key
invariant-loop-key l =
    with_bytes l.out (encode (map discarded_field (buckets_of (keys_left l.key-iterator))))
    ≡ with_bytes l.fn.out (encode (map discarded_field (buckets_of (keys_listed l.d.keys))))
