use Rattle.std.proofs.Common.{arith, sym, refl, ◌∙◌}
use Rattle.need_discard.proofs.ChosenLaws.{choosing-start, choosing-more, choosing-same, chosen-places}
use Rattle.need_discard.proofs.discarded.discarded_keys.Goals as goal

pub loop-key-init : goal.loop-key-init
loop-key-init c =
    let a = c.args.alloc in
    rw (c.into_iter-key-iterator.ensures.into_iter_gives, c.iter-key-items.ensures)
    (refl, choosing-start a.list.now c.args.waiting.now c.requires.0 c.requires.1)

pub loop-key-preserved-then-is_discarded : goal.loop-key-preserved-then-is_discarded
loop-key-preserved-then-is_discarded c =
    let i = c.loop-key.invariant in
    let s = c.in-Some.ensures.steps in
    let e = s.list ∙ i.0 in
    (s.same ∙ i.0, choosing-more s.places i.1 (rw e at (sym c.is_discarded.ensures ∙ c.if-is_discarded.true)))

pub loop-key-preserved : goal.loop-key-preserved
loop-key-preserved c =
    let i = c.loop-key.invariant in
    let s = c.in-Some.ensures.steps in
    (s.same ∙ i.0, choosing-same s.places i.1 (rw (s.list ∙ i.0) at (sym c.is_discarded.ensures ∙ c.if-is_discarded.false)))

pub returns : goal.returns
returns c = let i = c.loop-key.invariant in chosen-places (rw i.0 at c.in-None.ensures.steps) i.1

pub overflow_cast-room : goal.overflow_cast-room
overflow_cast-room c = omega (arith, c.in-Some.ensures.steps.fits)
