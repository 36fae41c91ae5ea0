use Rattle.wire.specs.Encode.{encode_field}
use Rattle.wire.specs.Rows.{row_body}
use Rattle.wire.proofs.AppendLaws.{with-with, row-size}
use Rattle.wire.proofs.output.Output.put_row.Goals as goal
use Rattle.std.proofs.Common.{append_assoc}

pub returns : goal.returns
unfolding encode_field row_body
returns c =
    let h = rw (c.number.ensures, row-size c.args.inode c.args.offset c.args.numbers.now) at c.put_head.ensures in
    rw (c.put_numbers.ensures, c.put_u64-2.ensures, c.put_u64.ensures, h) (simp (with-with, append_assoc))
