-- `release::release_read` meets its contract.
use Rattle.std.proofs.Common.{◌∙◌, sym}
use Rattle.release.proofs.ReadLaws.{read-ascend, read-requested, read-outcome, scratch-long}
use Rattle.release.proofs.release.release_read.Goals as goal

pub release_lists-requires-clause-ascend : goal.release_lists-requires-clause-ascend
release_lists-requires-clause-ascend c = read-ascend c.requires.0

pub release_lists-requires-clause-requested : goal.release_lists-requires-clause-requested
release_lists-requires-clause-requested c = read-requested c.requires.0

pub returns : goal.returns
returns c =
    let l = c.requires.1.long in
    let e = c.release_lists.ensures.answered in
    (read-outcome c.requires.0 _ l c.args.out.now e.0, c.scratch-1.given.1.1 (sym c.release_lists.ensures.same_reference) ∙ e.1 ∙ sym (scratch-long _ l))
