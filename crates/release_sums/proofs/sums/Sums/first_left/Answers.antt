-- A group that is not marked is passed, and in one that is the walk ends at the first sum that is not 0.
use Rattle.std.proofs.Common.{rules, tests, arith, refl, ◌+◌, ◌*◌}
use Rattle.reader.proofs.SkipLaws.{all-indexed}
use Rattle.release_sums.proofs.TakeLaws.{NoneFrom, is_zero, first-walked, first-marked, first-none, none-yet, none-marked, none-unmarked}
use Rattle.release_sums.proofs.sums.Sums.first_left.Goals.{then-self-group+else-first-end, else-self-group}
use Rattle.release_sums.proofs.sums.Sums.first_left.Goals as goal

pub loop-group-init : goal.loop-group-init
loop-group-init c = record { passed = none-yet c.args.self.now.sums.now c.args.self.now.next; after = omega arith; at = refl }

pub skip_while-first-requires-clause-callable : goal.skip_while-first-requires-clause-callable
skip_while-first-requires-clause-callable c = all-indexed 0 _ (λ i h. search rules)

pub returns-then-first-end : goal.returns-then-first-end
returns-then-first-end c =
    let l = c.loop-group in
    let s = c.args.self.now in
    let f = first-walked s.sums.now l.from ((l.group + 1) * 64) (omega (arith, l.invariant.at)) (omega (arith, s.long, c.loop-group-test.true)) (c.skip_while-first.ensures is_zero (λ x r k. search (rules, tests))) in
    first-marked l.invariant.passed c.loop-group-test.true f l.invariant.after c.if-first-end.true

pub loop-group-preserved : goal.loop-group-preserved
loop-group-preserved c =
    let l = c.loop-group in
    let s = c.args.self.now in
    let passed : NoneFrom s.sums.now s.next ((l.group + 1) * 64) = elim c.if-self-group.branch [
      | then-self-group+else-first-end w ↦
          let f = first-walked s.sums.now l.from ((l.group + 1) * 64) (omega (arith, l.invariant.at)) (omega (arith, s.long, c.loop-group-test.true)) (w.skip_while-first.ensures is_zero (λ x r k. search (rules, tests))) in
          none-marked l.invariant.passed c.loop-group-test.true f w.if-first-end.false
      | else-self-group w ↦ none-unmarked l.invariant.passed c.loop-group-test.true s.marked l.invariant.at w.if-self-group.false
    ] in
    record { passed = passed; after = omega (arith, l.invariant.after, l.invariant.at); at = omega arith }

pub returns : goal.returns
returns c = first-none c.args.self.now.within c.loop-group.invariant.passed (omega (arith, c.loop-group.invariant.at, c.loop-group-test.false))
