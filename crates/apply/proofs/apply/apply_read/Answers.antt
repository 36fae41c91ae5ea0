use Rattle.std.proofs.Common.{sym, ◌∙◌}
use Rattle.apply.proofs.RefusalLaws.{change-broken}
use Rattle.apply.proofs.apply.apply_read.Goals as goal

pub returns-then-not-check_change : goal.returns-then-not-check_change
returns-then-not-check_change c = change-broken _ _ _ (sym c.check_change.ensures ∙ c.if-not-check_change.true)
