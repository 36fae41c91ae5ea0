-- A sum is taken out, and listed with the place of its alloc key.
use Rattle.std.proofs.Common.{arith, ap, refl, ◌∙◌, length, length-set}
use Rattle.release_keys.proofs.AllocLaws.{listing-starts, listing-room, listing-next, listing-ends, listing-places}
use Rattle.release_keys.proofs.allocs.list_sums.Goals as goal

pub loop-sum-init : goal.loop-sum-init
loop-sum-init c = ((refl, refl), refl, rw c.ascending-keys.ensures (listing-starts {keys = c.args.alloc} c.args.buckets.now c.requires.sums.1))

pub offset_bounds-buckets-n : goal.offset_bounds-buckets-n
offset_bounds-buckets-n c = omega (arith, listing-room c.loop-sum.invariant.2 c.in-Some.ensures.steps.0, c.requires.sums.0, c.loop-sum.invariant.1)

pub bounds-buckets-n : goal.bounds-buckets-n
bounds-buckets-n c = omega (arith, listing-room c.loop-sum.invariant.2 c.in-Some.ensures.steps.0, c.requires.sums.0, c.loop-sum.invariant.1)

pub loop-sum-preserved : goal.loop-sum-preserved
loop-sum-preserved c =
    let v = c.loop-sum.invariant in
    let s = c.in-Some.ensures.steps in
    let z = rw c.alloc_at-p.ensures at c.skip_below-keys.ensures in
    let f = rw c.alloc_at-p.ensures at c.place_here.ensures in
    let room = listing-room v.2 s.0 in
    ((s.1.0 ∙ v.0.0, s.1.1 ∙ v.0.1), length-set _ _ _ ∙ v.1, listing-next v.2 s.0 z f (omega (arith, room, c.requires.sums.0, v.1)))

pub returns-clause-table : goal.returns-clause-table
returns-clause-table c =
    let v = c.loop-sum.invariant in
    let s = c.in_default.ensures.steps in
    ((s.2.0 ∙ v.0.0, s.2.1 ∙ v.0.1), s.1)

pub returns-clause-many : goal.returns-clause-many
returns-clause-many c = omega (arith, c.loop-sum.invariant.2.count, ap length c.in_default.ensures.steps.0)

pub returns-clause-listed : goal.returns-clause-listed
returns-clause-listed c =
    let v = c.loop-sum.invariant in
    (listing-ends v.2 c.in_default.ensures.steps.0, listing-places v.2 (omega (arith, v.1, v.2.count, c.requires.sums.0)))
