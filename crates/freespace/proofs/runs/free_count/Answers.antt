use Rattle.std.proofs.Common.{sym, ◌∙◌, arith}
use Rattle.wire.proofs.KindLaws.{from-length}
use Rattle.calls.proofs.trees.SortedLaws.{keys-order}
use Rattle.freespace.proofs.RunLaws.{rising, meets-all}
use Rattle.freespace.proofs.FreeLaws.{counting-start, counting-end, counting-past, counting-on}
use Rattle.freespace.proofs.runs.free_count.Goals as goal

pub loop-key-init : goal.loop-key-init
loop-key-init c =
    let o = keys-order _ c.requires.0.order in
    rw (c.into_iter-key-iterator.ensures.into_iter_gives, c.iter-key-items.ensures)
    (counting-start _ _ c.requires.0.range (meets-all _ o.0 o.1 ∙ c.requires.2))

pub reserved_below-from-requires : goal.reserved_below-from-requires
reserved_below-from-requires c =
    let q = counting-on c.loop-key.invariant c.in-Some.ensures.steps.keys (rising _ c.requires.1.order) (sym c.covering_run.ensures ∙ c.in-Some-covering_run.is) in
    (c.requires.1, q.start)

pub reserved_below-below-requires : goal.reserved_below-below-requires
reserved_below-below-requires c =
    let q = counting-on c.loop-key.invariant c.in-Some.ensures.steps.keys (rising _ c.requires.1.order) (sym c.covering_run.ensures ∙ c.in-Some-covering_run.is) in
    (c.requires.1, omega (arith, c.reserved_below-from.ensures, q.end))

pub buckets_between-requires : goal.buckets_between-requires
buckets_between-requires c =
    let q = counting-on c.loop-key.invariant c.in-Some.ensures.steps.keys (rising _ c.requires.1.order) (sym c.covering_run.ensures ∙ c.in-Some-covering_run.is) in
    (q.order, q.small)

pub overflow_sub-free : goal.overflow_sub-free
overflow_sub-free c =
    let q = counting-on c.loop-key.invariant c.in-Some.ensures.steps.keys (rising _ c.requires.1.order) (sym c.covering_run.ensures ∙ c.in-Some-covering_run.is) in
    omega (arith, q.end)

pub overflow_sub-free-in-Some-covering_run : goal.overflow_sub-free-in-Some-covering_run
overflow_sub-free-in-Some-covering_run c =
    let q = counting-on c.loop-key.invariant c.in-Some.ensures.steps.keys (rising _ c.requires.1.order) (sym c.covering_run.ensures ∙ c.in-Some-covering_run.is) in
    omega (arith, from-length, q.fits)

pub loop-key-preserved-in-Some-covering_run : goal.loop-key-preserved-in-Some-covering_run
loop-key-preserved-in-Some-covering_run c =
    let q = counting-on c.loop-key.invariant c.in-Some.ensures.steps.keys (rising _ c.requires.1.order) (sym c.covering_run.ensures ∙ c.in-Some-covering_run.is) in
    q.on _ _ (omega (arith, from-length, c.buckets_between.ensures)) (omega arith)

pub loop-key-preserved : goal.loop-key-preserved
loop-key-preserved c = counting-past c.loop-key.invariant c.in-Some.ensures.steps.keys (sym c.covering_run.ensures ∙ c.in_default.is)

pub returns : goal.returns
returns c = counting-end c.loop-key.invariant c.in-None.ensures.steps
