use Rattle.std.proofs.Common.{◌++◌, ◌∙◌, arith, ap, sym, map, length}
use lib.Seq.{append_snoc}
use mathlib.Core.List.{append-nil}
use Rattle.calls.specs.Lists.{those}
use Rattle.calls.proofs.lists.ThoseLaws.{those-hit, those-miss, those-none}
use Rattle.release_keys.specs.HeldOf.{held_left}
use Rattle.release_keys.specs.Tables.{row_emptied, row_gen}
use Rattle.release_keys.proofs.RowLaws.{table-few, emptied-are}
use Rattle.release_keys.proofs.freed_buckets.find_emptied.Goals as goal

pub loop-h-init : goal.loop-h-init
loop-h-init c =
    let s = c.args.table.now.freed.read.alloc.list.now in
    let i = c.into_iter-h-iterator.ensures.into_iter_gives in
    let e = ap held_left i ∙ c.iter-h-items.ensures.0 in
    (rw i c.iter-h-items.ensures.1, rw c.clear.ensures (omega (arith, ap length e)), rw c.clear.ensures (ap (λ l. map (row_gen s) (those (row_emptied s) l)) e))

pub push-requires : goal.push-requires
push-requires c =
    let t = c.args.table.now.freed in
    omega (arith, c.loop-h.invariant.1, table-few t.checked t.tabled, ap length c.in-Some.ensures.steps.0)

pub loop-h-preserved-then-is_emptied : goal.loop-h-preserved-then-is_emptied
loop-h-preserved-then-is_emptied c =
    let t = c.args.table.now.freed in
    let s = t.read.alloc.list.now in
    let v = c.loop-h.invariant in
    let w = c.in-Some.ensures.steps in
    let same = w.1.0 ∙ v.0.0 in
    let hit = those-hit (row_emptied s) w.0 (rw same at (sym c.if-is_emptied.ensures)) in (
      (w.2.0 ∙ v.0.0, w.2.1 ∙ v.0.1),
      omega (arith, v.1, ap length w.0, c.push.ensures.len),
      rw (c.push.ensures.items, c.emptied_gen.ensures, same) (append_snoc c.loop-h.emptied.items (row_gen s c.in-Some.h.freed) _ ∙ sym (ap (λ l. c.loop-h.emptied.items ++ map (row_gen s) l) hit) ∙ v.2),
    )

pub loop-h-preserved : goal.loop-h-preserved
loop-h-preserved c =
    let s = c.args.table.now.freed.read.alloc.list.now in
    let v = c.loop-h.invariant in
    let w = c.in-Some.ensures.steps in
    let miss = those-miss (row_emptied s) w.0 (rw (w.1.0 ∙ v.0.0) at (sym c.if-is_emptied.ensures)) in
    ((w.2.0 ∙ v.0.0, w.2.1 ∙ v.0.1), omega (arith, v.1, ap length w.0), sym (ap (λ l. c.loop-h.emptied.items ++ map (row_gen s) l) miss) ∙ v.2)

pub returns : goal.returns
returns c =
    let t = c.args.table.now.freed in
    let s = t.read.alloc.list.now in
    let none = those-none (row_emptied s) c.in-None.ensures.steps in
    sym (append-nil c.loop-h.emptied.items) ∙ sym (ap (λ l. c.loop-h.emptied.items ++ map (row_gen s) l) none) ∙ c.loop-h.invariant.2 ∙ emptied-are t.tabled
