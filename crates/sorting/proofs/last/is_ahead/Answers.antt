use Rattle.std.proofs.Common.{sym, ◌∙◌}
use Rattle.sorting.proofs.KeepLaws.{ahead-next, ahead-last}
use Rattle.sorting.proofs.last.is_ahead.Goals as goal

pub returns-in-len2-up : goal.returns-in-len2-up
returns-in-len2-up c = c.before-in-len2-up.ensures ∙ sym (ahead-next _ c.args.t.now c.in-len2-up.len_at_least)

pub returns-in_default : goal.returns-in_default
returns-in_default c = sym (ahead-last _ c.args.t.now c.in_default.len_below)
