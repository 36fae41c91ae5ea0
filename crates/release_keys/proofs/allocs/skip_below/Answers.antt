use Rattle.std.proofs.Common.{rules, tests, arith}
use Rattle.release_keys.proofs.AllocLaws.{key_below, skip-within, skipped, skipped-ascend}
use Rattle.release_keys.proofs.allocs.skip_below.Goals as goal

pub from-requires : goal.from-requires
from-requires c = skip-within c.args.p c.args.ascending.keys (c.skip_while-n.ensures (key_below c.args.p) (λ k r h q. search (rules, tests)))

pub invariant_of-result : goal.invariant_of-result
invariant_of-result c =
    let e = c.skip_while-n.ensures (key_below c.args.p) (λ k r h q. search (rules, tests)) in
    record { ascend = skipped-ascend (skipped c.args.p c.args.ascending.keys c.from.result c.skip_while-n.result c.from.ensures.0 c.from.ensures.1 (omega (arith, e))) c.args.ascending.ascend }

pub returns : goal.returns
returns c =
    let e = c.skip_while-n.ensures (key_below c.args.p) (λ k r h q. search (rules, tests)) in
    skipped c.args.p c.args.ascending.keys c.from.result c.skip_while-n.result c.from.ensures.0 c.from.ensures.1 (omega (arith, e))
