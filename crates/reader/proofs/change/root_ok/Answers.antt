use Rattle.std.proofs.Common.{◌∙◌}
use Rattle.reader.proofs.RootBits.{root-told}
use Rattle.reader.proofs.change.root_ok.Goals as goal

pub returns-then-body-eq1 : goal.returns-then-body-eq1
returns-then-body-eq1 c =
    c.is_ok.ensures.value ∙ root-told c.args.body.now c.try_from.result (rw c.le8.ensures at c.try_from.ensures) c.if-body-eq1.true
