use Rattle.std.proofs.Common.{rules, tests, not, arith}
use Rattle.std.proofs.lemmas.List.{length-map}
use Rattle.wire.specs.Order.{pos_less}
use Rattle.wire.specs.Positions.{gens_at}
use Rattle.reader.specs.KeyHere.{key_here}
use Rattle.reader.specs.ListedKeys.{keys_listed}
use Rattle.reader.specs.Located.{no_key}
use Rattle.gens.proofs.JointLaws.{up-to-within, up-to-walked}
use Rattle.gens.proofs.joint.keys_up_to.Goals as goal

pub skip_while-requires-clause-from_within : goal.skip_while-requires-clause-from_within
skip_while-requires-clause-from_within c =
    let ks = c.args.gens in
    omega (arith, c.requires, up-to-within (gens_at c.args.b) no_key (keys_listed ks), length-map ks.places.now (key_here ks.list.now))

pub returns : goal.returns
returns c =
    let p = gens_at c.args.b in
    up-to-walked p _ c.requires (c.skip_while.ensures (λ k. not (pos_less p k.pos)) (λ k r h q. search (rules, tests)))
