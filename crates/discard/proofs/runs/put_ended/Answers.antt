use Rattle.std.proofs.Common.{sym}
use borrow.Author.Tests.{not-true, not-false}
use Rattle.wire.proofs.AppendLaws.{with-none}
use Rattle.discard.proofs.RunLaws.{joined-run, ended-alone}
use Rattle.discard.proofs.runs.put_ended.Goals as goal

pub returns-then-ne : goal.returns-then-ne
returns-then-ne c = rw (← ended-alone c.args.r c.args.b (not-true _ (sym c.if-ne.ensures))) c.put_run.ensures

pub returns-else-ne : goal.returns-else-ne
returns-else-ne c = rw (joined-run c.args.r c.args.b (not-false _ (sym c.if-ne.ensures))) (sym (with-none c.args.out.now))
