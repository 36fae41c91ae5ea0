use Rattle.std.proofs.Common.{ap, ◌∙◌}
use Rattle.wire.specs.Output.{with_bytes}
use Rattle.wire.proofs.AppendLaws.{then}
use Rattle.lines.proofs.LineLaws.{row_line, body-rest}
use Rattle.lines.proofs.other_lines.put_row.Goals as goal

pub returns : goal.returns
returns c =
    let inode = rw c.le64.ensures at c.put_next_word.ensures in
    let offset = rw c.le64-2.ensures at c.put_next_word-2.ensures in
    let numbers = rw (body-rest 16 c.args.body.now) at c.put_numbers.ensures in
    then _ _ _ c.put_slice.ensures (then _ _ _ inode (then _ _ _ offset (then _ _ _ numbers c.put_u8.ensures)))
    ∙ ap (with_bytes c.args.out.now) (row_line c.args.body.now)
