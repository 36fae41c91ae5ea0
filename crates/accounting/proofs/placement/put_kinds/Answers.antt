use Rattle.std.proofs.Common.{arith, refl, sym, ◌∙◌}
use Rattle.calls.proofs.lists.AllLaws.{all-nth}
use Rattle.accounting.proofs.PlaceRowLaws.{kind-turn, kind-end}
use Rattle.accounting.proofs.placement.put_kinds.Goals as goal

pub loop-i-init : goal.loop-i-init
loop-i-init c = refl

pub put_counts-requires : goal.put_counts-requires
put_counts-requires c =
    let s = all-nth (record { count = 0; file = 0; stored = 0 }) c.requires.0 c.loop-i.i (omega arith) in (
      omega (arith, s.count),
      omega (arith, s.file),
      omega (arith, s.stored),
    )

pub loop-i-preserved : goal.loop-i-preserved
loop-i-preserved c =
    kind-turn c.loop-i.out c.put_counts.new.out c.args.kinds.now c.loop-i.i _ (omega arith) (rw c.of_kind.ensures at c.put_counts.ensures) ∙ c.loop-i.invariant

pub returns : goal.returns
returns c = sym (kind-end c.loop-i.out c.args.kinds.now c.loop-i.i (omega arith)) ∙ c.loop-i.invariant
