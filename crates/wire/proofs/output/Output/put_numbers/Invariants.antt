use Rattle.std.proofs.Common.{◌≡◌, drop}
use Rattle.wire.specs.Numbers.{each}
use Rattle.wire.specs.Rows.{signed_bytes}
use Rattle.wire.specs.Output.{with_bytes}
use Rattle.wire.proofs.output.Output.put_numbers.Given as goal

abbrev pub invariant-loop-x : goal.invariant-loop-x
invariant-loop-x l =
    with_bytes l.self (each signed_bytes (drop l.x-index l.numbers)) ≡ with_bytes l.fn.self (each signed_bytes l.numbers)
