use Rattle.std.proofs.Common.{arith, sym, ◌∙◌, rules}
use Rattle.std.specs.Int.NonZero.{non_zero_u32_get}
use Rattle.std.specs.Slice.Iter.{chunks_rest}
use Rattle.discard.proofs.BatchLaws.{part-shown, rest-shown, part-whole, rest-whole, batch-turn, batch-end}
use Rattle.discard.proofs.changes.discard_freed.Goals as goal

pub invariant_of-keys : goal.invariant_of-keys
invariant_of-keys c =
    let t = c.in-Some.ensures.steps.1 in
    record { whole = part-whole c.args.d.now.keys.list.now c.in-Some.places.now (chunks_rest c.next.new.self) t.0 c.loop-places.invariant.3 }

pub invariant_of-part : goal.invariant_of-part
invariant_of-part c =
    let t = c.in-Some.ensures.steps.1 in
    record { shown = part-shown c.args.d.now.keys.list.now c.in-Some.places.now (chunks_rest c.next.new.self) t.0 c.loop-places.invariant.4 }

pub loop-places-preserved : goal.loop-places-preserved
loop-places-preserved c =
    let i = c.loop-places.invariant in
    let s = c.in-Some.ensures.steps in
    let t = s.1 in
    let part = c.in-Some.places.now in
    let rest = chunks_rest c.next.new.self in
    let n = rw i.2 at t.1 in
    let d = c.args.d.now in
    let list = d.keys.list.now in
    let size = non_zero_u32_get c.args.size in (
      search rules,
      tt,
      s.0 ∙ i.2,
      rest-whole list part rest t.0 i.3,
      rest-shown list part rest t.0 i.4,
      batch-turn list d.waiting.now size _ part rest c.loop-places.out c.discard_buckets.new.out (omega (arith, c.args.size.ok)) (omega (arith, n, t.2)) t.0 n c.discard_buckets.ensures ∙ i.5,
    )

pub returns : goal.returns
returns c =
    let d = c.args.d.now in
    sym (batch-end d.keys.list.now d.waiting.now (non_zero_u32_get c.args.size) _ c.loop-places.out c.in-None.ensures.steps.1.0) ∙ c.loop-places.invariant.5
