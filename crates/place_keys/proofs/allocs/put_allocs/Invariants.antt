-- The loop's invariant: what is left are the keys from index i on.
use Rattle.std.proofs.Common.{◌≡◌, map, drop, length}
use Rattle.wire.specs.Output.{with_bytes}
use Rattle.calls.specs.Place.{placed_of, new_alloc_key}
use Rattle.calls.specs.Answers.{read_call, read_volume}
use Rattle.change_fields.specs.FieldBytes.{keys_bytes}
use Rattle.place_keys.proofs.allocs.put_allocs.Given as goal

abbrev pub invariant-loop-b : goal.invariant-loop-b
invariant-loop-b l =
    let s = l.counted.plan.now.list.now in
    let taken = l.counted.plan.now.taken.now in
    with_bytes l.out (keys_bytes 4 (map (new_alloc_key (read_volume s) (placed_of (read_call s))) (drop (length l.yielded) taken)))
    ≡ with_bytes l.fn.out (keys_bytes 4 (map (new_alloc_key (read_volume s) (placed_of (read_call s))) taken))
