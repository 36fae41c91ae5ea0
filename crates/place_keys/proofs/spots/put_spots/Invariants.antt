use Rattle.std.proofs.Common.{◌≡◌, map}
use Rattle.wire.specs.Encode.{encode}
use Rattle.calls.specs.ChangeList.{spot_field}
use Rattle.calls.specs.Place.{spot_at}
use Rattle.calls.specs.Place.{placed_of}
use Rattle.calls.specs.Answers.{read_call}
use Rattle.wire.specs.Output.{with_bytes}
use Rattle.place_keys.specs.Left.{placed_left}
use Rattle.place_keys.proofs.spots.put_spots.Given as goal

abbrev pub invariant-loop-p : goal.invariant-loop-p
invariant-loop-p l =
    with_bytes l.out (encode (map spot_field (map spot_at (placed_left l.p-iterator))))
    ≡ with_bytes l.fn.out (encode (map spot_field (map spot_at (placed_of (read_call l.plan.list.now)))))
