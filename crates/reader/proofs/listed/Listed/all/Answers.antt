use Rattle.std.proofs.Common.{rules, of_calls, ◌∙◌}
use Rattle.std.proofs.lemmas.Iterator.Consumers.{YieldsList-from_first}
use Rattle.std.proofs.lemmas.Iterator.Search.{all_from_yields_List}
use Rattle.calls.proofs.lists.ListedLaws.{all-listed}
use Rattle.reader.specs.Listed.{values_at}
use Rattle.reader.proofs.listed.Listed.all.Goals as goal

pub returns : goal.returns
returns g c = λ t h.
    let b = g.T.FixedBody in
    let xs = values_at b.read c.args.self.now.list.now c.args.self.now.places.now in
    all_from_yields_List t c.all.new.self _ _ c.all.ensures.ran (YieldsList-from_first b.seen _ xs (search rules)) (λ x r q k. search (rules, of_calls, h))
    ∙ all-listed t xs
