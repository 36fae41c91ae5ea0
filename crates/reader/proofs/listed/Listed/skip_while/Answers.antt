use Rattle.std.proofs.Common.{rules, tests, ◌∙◌, ap, sym, ◌+◌, ℕ}
use lib.ListN.{drop}
use Rattle.std.specs.List.{prefix_len}
use Rattle.calls.proofs.lists.AllLaws.{all-imp}
use Rattle.calls.proofs.lists.MapLaws.{map-drop}
use Rattle.reader.proofs.ListedKeyLaws.{bodies-each}
use Rattle.reader.proofs.SkipLaws.{prefix-map}
use Rattle.reader.proofs.listed.Listed.skip_while.Goals as goal

pub skip_while-requires-clause-callable : goal.skip_while-requires-clause-callable
skip_while-requires-clause-callable g c = all-imp (λ at w. search rules) (bodies-each c.args.self.now.whole)

pub returns : goal.returns
returns g c = λ t acts.
    let here : ℕ → g.T.FixedBody.Seen = λ at. g.T.FixedBody.read (drop at c.args.self.now.list.now) in
    let ps = c.args.self.now.places.now in
    c.skip_while.ensures (λ at. t (here at)) (λ at r k. search (rules, tests))
    ∙ ap (λ n. c.args.from + n) (prefix-map t here (drop c.args.from ps) ∙ ap (prefix_len t) (sym (map-drop here c.args.from ps)))
