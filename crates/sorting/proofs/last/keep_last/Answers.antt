use Rattle.std.proofs.Common.{arith, sym, ◌∙◌}
use Rattle.sorting.specs.Places.{place_less}
use Rattle.sorting.proofs.KeepLaws.{ahead-from, keeping-on, keeping-past, keeping-end}
use Rattle.sorting.proofs.last.keep_last.Goals as goal
use Rattle.sorting.proofs.last.keep_last.Goals.{then-is_ahead, else-is_ahead}

pub loop-i-preserved : goal.loop-i-preserved
loop-i-preserved c =
    let k = c.loop-i.invariant in
    let a = sym (ahead-from (place_less c.args.s.now) c.loop-i.t c.loop-i.i (omega arith)) in
    elim c.if-is_ahead.branch [
      | then-is_ahead w ↦ rw (w.t-is, w.n-is) (keeping-on k (omega arith) (a ∙ sym w.if-is_ahead.ensures))
      | else-is_ahead w ↦ rw (w.t-is, w.n-is) (keeping-past k (omega arith) (a ∙ sym w.if-is_ahead.ensures))
    ]

pub returns : goal.returns
returns c = keeping-end c.loop-i.invariant (omega arith)
