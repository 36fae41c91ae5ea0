use Rattle.std.proofs.Common.{rules, of_calls, ◌∙◌, ap, ◌+◌, ◌-◌, arith, length, length-drop, drop}
use Rattle.std.specs.List.{prefix_len}
use Rattle.std.specs.Slice.Iter.{iter_rest}
use Rattle.std.proofs.lemmas.Iterator.{YieldsList-from_slice}
use Rattle.std.proofs.lemmas.Iterator.Adapters.{serves_from_places}
use Rattle.std.proofs.lemmas.Iterator.Consumers.{count_from_yields_List}
use Rattle.std.proofs.lemmas.Iterator.Search.{YieldsList-from_take_while}
use Rattle.std.proofs.lemmas.List.Folds.{length-prefix_len}
use Rattle.std.proofs.lemmas.List.{take_all}
use Rattle.reader.proofs.SkipLaws.{all-walked}
use Rattle.reader.proofs.skip.skip_while.Goals as goal

pub count-requires-clause-can : goal.count-requires-clause-can
count-requires-clause-can g c =
    let e = ap (λ i. iter_rest i) c.take_while.ensures.source ∙ c.iter.ensures.rest in
    (tt, serves_from_places (YieldsList-from_slice {s = c.take_while.result.iter} _ e) {f = c.take_while.result.p} (λ x q k. search (rules, of_calls)) (λ x k i e. λ y z. let h = all-walked c.requires.callable c.args.from k x.now i e in rw z (search rules)))

pub returns : goal.returns
returns g c = λ t acts.
    let e = ap (λ i. iter_rest i) c.take_while.ensures.source ∙ c.iter.ensures.rest in
    ap (λ n. c.args.from + n)
    (count_from_yields_List c.take_while.result _ c.count.ensures.ran
    (YieldsList-from_take_while {s = c.take_while.result} _ t (YieldsList-from_slice {s = c.take_while.result.iter} _ e) c.take_while.ensures.closure c.take_while.ensures.done (λ x b q k. search rules))
    ∙ length-prefix_len t _
    ∙ ap (prefix_len t) (take_all (length c.args.table.now - c.args.from) (drop c.args.from c.args.table.now) (omega (arith, length-drop c.args.from c.args.table.now))))
