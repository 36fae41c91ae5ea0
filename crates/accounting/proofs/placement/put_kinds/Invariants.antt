use Rattle.std.proofs.Common.{◌≡◌, ◌+◌, drop}
use Rattle.wire.specs.Output.{with_bytes}
use Rattle.accounting.specs.RowBytes.{rows_bytes}
use Rattle.accounting.specs.Tally.{kind_rows}
use Rattle.accounting.proofs.placement.put_kinds.Given as goal

abbrev pub invariant-loop-i : goal.invariant-loop-i
invariant-loop-i l =
    with_bytes l.out (rows_bytes (kind_rows (l.i + 2) (drop l.i l.kinds))) ≡ with_bytes l.fn.out (rows_bytes (kind_rows 2 l.kinds))
