use Rattle.accounting.proofs.RowLaws.{rows-then, passed}
use Rattle.accounting.proofs.released.put_rows.Goals as goal

pub returns : goal.returns
returns c =
    simp (c.put_buckets_row-2.ensures, c.put_buckets_row.ensures, c.number-2.ensures, c.number.ensures, c.put_sectors_row.ensures, passed c.plus.type_inv c.plus.ensures, passed c.minus.type_inv c.minus.ensures, passed c.minus-freed.type_inv c.minus-freed.ensures, passed c.difference.type_inv c.difference.ensures, rows-then)
