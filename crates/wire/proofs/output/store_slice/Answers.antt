use Rattle.std.proofs.Common.{arith, sym, ◌∙◌, ◌-◌, ◌≤◌, min, take, length}
use Rattle.wire.specs.Output.{cap}
use Rattle.wire.proofs.OutputLaws.{put-nil, put-out}
use Rattle.wire.proofs.AppendLaws.{put-room, put-next}
use Rattle.wire.proofs.output.store_slice.Goals as goal

pub loop-i-init : goal.loop-i-init
loop-i-init c = sym (put-nil c.args.bytes.now c.args.at)

pub loop-i-preserved : goal.loop-i-preserved
loop-i-preserved c = rw c.loop-i.invariant (put-next c.args.bytes.now c.args.at c.loop-i.i c.args.b.now (omega arith))

pub returns-after-loop-i : goal.returns-after-loop-i
returns-after-loop-i c =
    let a = c.args in
    let w : length a.bytes.now ≤ cap = omega arith in
    let n : min (length a.b.now) (length a.bytes.now - a.at) ≤ c.loop-i.i = omega (arith, c.min-n.ensures, c.loop-i-test.false) in
    c.loop-i.invariant
    ∙ put-room c.loop-i.i a.bytes.now a.at a.b.now n
    ∙ sym (put-room (cap - a.at) a.bytes.now a.at a.b.now (omega arith))

pub returns-else-at-bytes : goal.returns-else-at-bytes
returns-else-at-bytes c = sym (put-out (take (cap - c.args.at) c.args.b.now) c.args.bytes.now c.args.at (omega arith))
