use Rattle.std.proofs.lemmas.Result.{err_from_is_err_and}
use Rattle.reader.proofs.ReadLaws.{table-refused, table-cut}
use Rattle.reader.proofs.call.read_parts.Goals as goal

pub returns-in_err-first : goal.returns-in_err-first
returns-in_err-first c =
    let p = err_from_is_err_and c.from_residual.result c.from_residual.ensures.1 in
    rw (p.1, p.2) (table-refused c.args.asked c.args.s.now _ c.in_err-first.ensures)

pub cut-requires : goal.cut-requires
cut-requires c = record { call = _; any = _; kept = c.in_ok-first.ensures.0; read = c.in_ok-first.ensures.1 }

pub returns : goal.returns
returns c = table-cut c.args.asked c.in_ok-first.ensures.0 c.cut.ensures.same (c.cut.ensures.read _ c.in_ok-first.ensures.1)
