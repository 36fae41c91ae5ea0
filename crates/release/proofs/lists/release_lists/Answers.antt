use Rattle.std.proofs.Common.{◌∙◌, sym, arith}
use Rattle.std.proofs.lemmas.Result.{err_from_is_err_and}
use Rattle.release_keys.specs.Given.{volume_in}
use Rattle.release.proofs.TopLaws.{sectors-some, sectors-none, checked-made, lists-4, lists-14, lists-go, cleared-is}
use Rattle.release.proofs.lists.release_lists.Goals as goal

pub returns-in_err-sectors-clause-answered : goal.returns-in_err-sectors-clause-answered
returns-in_err-sectors-clause-answered c =
    let z = sectors-none c.new.ensures c.ok_or.ensures.ok_part c.ok_or.ensures.value c.in_err-sectors.was in
    let p = err_from_is_err_and c.from_residual.result c.from_residual.ensures.1 in
    (rw (p.1, p.2 ∙ z.0) (lists-4 (volume_in c.args.read.now) _ _ _ _ z.1), cleared-is _ c.args.scratch.now.cleared)

pub returns-then-not-all_ok-clause-answered : goal.returns-then-not-all_ok-clause-answered
returns-then-not-all_ok-clause-answered c =
    let some = sectors-some c.new.ensures c.ok_or.ensures.ok_part c.in_ok-sectors.was in
    let ok = rw (c.of.ensures, some.0) at c.if-not-all_ok.ensures in
    (lists-14 (volume_in c.args.read.now) _ _ _ _ some.1 (sym ok), cleared-is _ c.args.scratch.now.cleared)

pub list_freed-table-requires : goal.list_freed-table-requires
list_freed-table-requires c =
    let some = sectors-some c.new.ensures c.ok_or.ensures.ok_part c.in_ok-sectors.was in
    let ok = rw (c.of.ensures, some.0) at c.if-not-all_ok.ensures in
    let q = c.requires.requested in
    (checked-made q.0 q.1 (omega arith) (sym ok), c.requires.ascend, some.0)

pub returns-clause-answered : goal.returns-clause-answered
returns-clause-answered c =
    let some = sectors-some c.new.ensures c.ok_or.ensures.ok_part c.in_ok-sectors.was in
    let ok = rw (c.of.ensures, some.0) at c.if-not-all_ok.ensures in
    let o = rw c.list_freed-table.ensures.tabled.0 at c.release_table.ensures in
    (lists-go (volume_in c.args.read.now) _ _ _ _ some.1 (sym ok) o, c.list_freed-table.ensures.tabled.1)
