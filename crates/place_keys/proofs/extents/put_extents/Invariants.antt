use Rattle.std.proofs.Common.{◌≡◌, map}
use Rattle.wire.specs.Encode.{encode, key_field}
use Rattle.calls.specs.Extents.{extent_key}
use Rattle.reader.specs.Heads.{head_in}
use Rattle.calls.specs.Place.{placed_of}
use Rattle.calls.specs.Answers.{read_call}
use Rattle.wire.specs.Output.{with_bytes}
use Rattle.place_keys.specs.Left.{placed_left}
use Rattle.place_keys.proofs.extents.put_extents.Given as goal

abbrev pub invariant-loop-p : goal.invariant-loop-p
invariant-loop-p l =
    with_bytes l.out (encode (map (key_field 0) (map (extent_key (head_in l.plan.head)) (placed_left l.p-iterator))))
    ≡ with_bytes l.fn.out (encode (map (key_field 0) (map (extent_key (head_in l.plan.head)) (placed_of (read_call l.plan.list.now)))))
