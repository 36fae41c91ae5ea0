use Rattle.std.proofs.Common.{sym, ◌∙◌}
use Rattle.wire.specs.Rows.{Counters}
use Rattle.wire.proofs.AppendLaws.{with-none}
use Rattle.wire.proofs.EncodeLaws.{encode-none, encode_one}
use Rattle.accounting.proofs.RowLaws.{counted-one, counted-other}
use Rattle.accounting.proofs.counters.put_counted.Goals as goal

pub returns-then-is_counted : goal.returns-then-is_counted
returns-then-is_counted c =
    let r : Counters = record { inode = c.args.at.inode; offset = c.args.at.offset; numbers = c.args.numbers.now } in
    simp (counted-one r (sym c.is_counted.ensures ∙ c.if-is_counted.true), encode_one, c.put_row.ensures)

pub returns-else-is_counted : goal.returns-else-is_counted
returns-else-is_counted c =
    let r : Counters = record { inode = c.args.at.inode; offset = c.args.at.offset; numbers = c.args.numbers.now } in
    simp (counted-other r (sym c.is_counted.ensures ∙ c.if-is_counted.false), encode-none, with-none)
