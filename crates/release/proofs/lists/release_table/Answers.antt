use Rattle.std.proofs.Common.{refl}
use Rattle.std.proofs.lemmas.Result.{err_from_is_err_and}
use Rattle.reader.proofs.NumberLaws.{refused-some}
use Rattle.release.proofs.TopLaws.{tables-stop, tables-go}
use Rattle.release.proofs.lists.release_table.Goals as goal

pub returns-in_err-refuse : goal.returns-in_err-refuse
returns-in_err-refuse c =
    let p = err_from_is_err_and c.from_residual.result c.from_residual.ensures.1 in
    rw (p.1, p.2) (tables-stop c.args.table.read _ _ _ c.in_err-refuse.ensures (refused-some c.in_err-refuse.field-0.0))

pub returns : goal.returns
returns c = tables-go c.args.table.read _ _ _ c.in_ok-refuse.ensures refl (rw c.new-batch.ensures at c.written.ensures)
