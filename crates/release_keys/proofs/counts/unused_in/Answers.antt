use Rattle.std.proofs.Common.{◌≡◌, ◌-◌, ◌∙◌, arith, ap, sym, length}
use mathlib.Core.Bool.{Bool, true, false, cond}
use Rattle.calls.specs.Lists.{total}
use Rattle.calls.proofs.lists.TotalLaws.{total-next, total-none}
use Rattle.release_keys.specs.Counting.{row_added, row_removed}
use Rattle.release_keys.specs.HeldOf.{held_left}
use Rattle.release_keys.specs.Tables.{row_dirty, row_emptied}
use Rattle.release_keys.proofs.RowLaws.{table-few, added-are, removed-are}
use Rattle.release_keys.proofs.counts.unused_in.Goals as goal

pub loop-h-init : goal.loop-h-init
loop-h-init c =
    let t = c.args.table.now.freed in
    let s = t.read.alloc.list.now in
    let i = c.into_iter-h-iterator.ensures.into_iter_gives in
    let e = ap held_left i ∙ c.iter-h-items.ensures.0 in (
      rw i c.iter-h-items.ensures.1,
      omega (arith, ap length e),
      omega (arith, ap length e),
      omega (arith, ap (total (row_added s)) e),
      omega (arith, ap (total (row_removed s t.read.head.bucket_sectors)) e),
    )

pub loop-h-preserved-then-is_emptied : goal.loop-h-preserved-then-is_emptied
loop-h-preserved-then-is_emptied c =
    let t = c.args.table.now.freed in
    let s = t.read.alloc.list.now in
    let v = c.loop-h.invariant in
    let w = c.in-Some.ensures.steps in
    let h = c.in-Some.h in
    let same = w.1.0 ∙ v.0.0 in
    let e : row_emptied s h.freed ≡ true = rw same at (sym c.if-is_emptied.ensures) in
    let added = total-next (row_added s) w.0 in
    let removed = total-next (row_removed s t.read.head.bucket_sectors) w.0 in
    let k = ap (λ (b : Bool). cond b 0 h.freed.sectors) e in
    let l = ap (λ (b : Bool). cond b (t.read.head.bucket_sectors - row_dirty s h.freed) 0) e in
    let d : c.dirty.result ≡ row_dirty s h.freed = rw same at c.dirty.ensures in
    let few = ap length w.0 in
    let size = w.1.1 ∙ v.0.1 in
    ((w.2.0 ∙ v.0.0, w.2.1 ∙ v.0.1), omega (arith, v.1, few), omega (arith, v.2, few, size, t.checked.small), omega (arith, v.3, added, k), omega (arith, v.4, removed, l, d, size))

pub loop-h-preserved : goal.loop-h-preserved
loop-h-preserved c =
    let t = c.args.table.now.freed in
    let s = t.read.alloc.list.now in
    let v = c.loop-h.invariant in
    let w = c.in-Some.ensures.steps in
    let h = c.in-Some.h in
    let same = w.1.0 ∙ v.0.0 in
    let e : row_emptied s h.freed ≡ false = rw same at (sym c.if-is_emptied.ensures) in
    let added = total-next (row_added s) w.0 in
    let removed = total-next (row_removed s t.read.head.bucket_sectors) w.0 in
    let k = ap (λ (b : Bool). cond b 0 h.freed.sectors) e in
    let l = ap (λ (b : Bool). cond b (t.read.head.bucket_sectors - row_dirty s h.freed) 0) e in
    let few = ap length w.0 in
    ((w.2.0 ∙ v.0.0, w.2.1 ∙ v.0.1), omega (arith, v.1, few, h.held.within, h.held.held, w.1.1, v.0.1, t.checked.small), omega (arith, v.2, few), omega (arith, v.3, added, k), omega (arith, v.4, removed, l))

pub overflow_add-u : goal.overflow_add-u
overflow_add-u c =
    let t = c.args.table.now.freed in
    let v = c.loop-h.invariant in
    let w = c.in-Some.ensures.steps in
    omega (arith, v.2, ap length w.0, w.1.1 ∙ v.0.1, t.checked.small, table-few t.checked t.tabled)

pub overflow_add-u-else-is_emptied : goal.overflow_add-u-else-is_emptied
overflow_add-u-else-is_emptied c =
    let t = c.args.table.now.freed in
    let v = c.loop-h.invariant in
    let w = c.in-Some.ensures.steps in
    let h = c.in-Some.h in
    omega (arith, v.1, ap length w.0, h.held.within, h.held.held, w.1.1 ∙ v.0.1, t.checked.small, table-few t.checked t.tabled)

pub returns : goal.returns
returns c =
    let t = c.args.table.now.freed in
    let s = t.read.alloc.list.now in
    let v = c.loop-h.invariant in
    let few = table-few t.checked t.tabled in
    let added = total-none (row_added s) c.in-None.ensures.steps in
    let removed = total-none (row_removed s t.read.head.bucket_sectors) c.in-None.ensures.steps in
    (omega (arith, v.1, few), omega (arith, v.2, few), record { added = omega (arith, v.3, added, added-are t.tabled); removed = omega (arith, v.4, removed, removed-are t.tabled) })
