-- The key that the loop is at stands in the volume; it goes into the stretch, or ends it.
use Rattle.std.proofs.Common.{refl, arith}
use Rattle.wire.proofs.NumberLaws.{bytes-from}
use Rattle.calls.proofs.lists.AllLaws.{all-nth}
use Rattle.merge.proofs.CountLaws.{count_fits}
use Rattle.merge.proofs.MergeLaws.{stretched-apart, stretched-stop, stretching-on}
use Rattle.merge.proofs.below.pass_below.Goals.{then-key-end-via-then-key-end, then-key-end-via-else-key-end+then-not-is_under}
use Rattle.merge.proofs.below.pass_below.Goals as goal

pub invariant_of-key : goal.invariant_of-key
invariant_of-key c = record { stands = (all-nth 0 c.requires.0 _ c.loop-n-test.true).stands.kept }

pub returns-then-key-end : goal.returns-then-key-end
returns-then-key-end c =
    rw c.of.ensures
    (elim c.then-key-end.branch [
      | then-key-end-via-then-key-end w ↦ stretched-apart c.loop-n.invariant c.requires.2 w.if-key-end.true
      | then-key-end-via-else-key-end+then-not-is_under w ↦
          stretched-stop c.loop-n.invariant c.loop-n-test.true (cc (w.pos.ensures, w.is_under.ensures, w.if-not-is_under.true))
    ])

pub loop-n-preserved : goal.loop-n-preserved
loop-n-preserved c =
    let h = all-nth 0 c.requires.0 _ c.loop-n-test.true in
    rw c.end-end.ensures.ends
    (stretching-on c.loop-n.invariant c.loop-n-test.true (bytes-from _ (λ i. let b = c.type_inv.vol i in omega arith)) h.stands
    c.if-key-end.false refl (cc (c.pos.ensures, c.is_under.ensures, c.if-not-is_under.false))
    (omega (arith, c.add_within-count.ensures, count_fits _ _ _ h.fits)))
