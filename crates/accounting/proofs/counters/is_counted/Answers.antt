use Rattle.std.proofs.Common.{◌∙◌, rules, tests}
use Rattle.std.proofs.lemmas.Iterator.{YieldsList-from_slice}
use Rattle.std.proofs.lemmas.Iterator.Search.{any_from_yields_List}
use Rattle.calls.proofs.lists.ListedLaws.{any-listed}
use Rattle.accounting.proofs.RowLaws.{is_other}
use Rattle.accounting.proofs.counters.is_counted.Goals as goal

pub returns : goal.returns
returns c =
    any_from_yields_List is_other _ _ _ c.any.ensures.ran (YieldsList-from_slice c.args.numbers.now cc) (λ x b q k. search (rules, tests))
    ∙ any-listed is_other c.args.numbers.now
