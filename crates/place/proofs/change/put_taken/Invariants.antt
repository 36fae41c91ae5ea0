-- The loop's invariant: what is left are the buckets from here on.
use Rattle.std.proofs.Common.{◌≡◌, map, drop}
use Rattle.wire.specs.Encode.{encode}
use Rattle.wire.specs.Output.{with_bytes}
use Rattle.calls.specs.ChangeList.{taken_field}
use Rattle.place.proofs.change.put_taken.Given as goal

abbrev pub invariant-loop-b : goal.invariant-loop-b
invariant-loop-b l =
    with_bytes l.out (encode (map taken_field (drop l.b-index l.taken))) ≡ with_bytes l.fn.out (encode (map taken_field l.taken))
