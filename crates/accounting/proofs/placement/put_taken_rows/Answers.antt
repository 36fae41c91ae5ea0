use Rattle.accounting.proofs.RowLaws.{rows-then, passed}
use Rattle.accounting.proofs.placement.put_taken_rows.Goals as goal

pub returns : goal.returns
returns c =
    simp (c.put_buckets_row-2.ensures, c.put_buckets_row.ensures, c.number-2.ensures, c.number.ensures, c.put_sectors_row.ensures, passed c.plus.type_inv c.plus.ensures, passed c.minus.type_inv c.minus.ensures, passed c.plus-stored.type_inv c.plus-stored.ensures, passed c.difference-unused.type_inv c.difference-unused.ensures, rows-then)
