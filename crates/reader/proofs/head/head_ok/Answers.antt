-- It names a call, or none.
use Rattle.std.proofs.Common.{sym, ◌∙◌}
use Rattle.reader.proofs.HeadLaws.{head-called, head-uncalled}
use Rattle.reader.specs.Heads.{head_in}
use Rattle.reader.proofs.head.head_ok.Goals as goal

pub returns-then-is_ok : goal.returns-then-is_ok
returns-then-is_ok c = head-called (head_in c.args.h) _ c.try_from.ensures (sym c.if-is_ok.true ∙ c.is_ok.ensures.value)

pub returns-else-is_ok : goal.returns-else-is_ok
returns-else-is_ok c =
    c.if-is_ok.false ∙ head-uncalled (head_in c.args.h) _ c.try_from.ensures (sym c.if-is_ok.false ∙ c.is_ok.ensures.value)
