use Rattle.std.proofs.Common.{arith, sym, ◌∙◌, ◌≡◌, ◌-◌, take, ◌+◌, ◌≤◌, length, length-take, refl}
use Rattle.wire.specs.Output.{cap}
use Rattle.wire.proofs.OutputLaws.{put-out}
use Rattle.wire.proofs.AppendLaws.{put-room, put-mid}
use Rattle.wire.proofs.output.store.Goals as goal

pub returns-then-b-room : goal.returns-then-b-room
returns-then-b-room c =
    let k : c.args.at + length c.args.b.now - c.args.at ≡ length c.args.b.now = omega arith in
    let w : length c.args.bytes.now ≤ cap = omega arith in
    rw (k, c.copy_from_slice.ensures.after, put-mid c.args.at (length c.args.b.now) c.args.bytes.now c.args.b.now (omega arith) refl)
    (sym (put-room (cap - c.args.at) c.args.bytes.now c.args.at c.args.b.now (omega arith)))

pub returns-else-b-room : goal.returns-else-b-room
returns-else-b-room c =
    let n = length c.args.bytes.now - c.args.at in
    let w : length c.args.bytes.now ≤ cap = omega arith in
    rw (c.copy_from_slice-else-b-room.ensures.after, put-mid c.args.at n c.args.bytes.now (take n c.args.b.now) (omega arith) (omega (arith, length-take n c.args.b.now)))
    (put-room n c.args.bytes.now c.args.at c.args.b.now (omega arith) ∙ sym (put-room (cap - c.args.at) c.args.bytes.now c.args.at c.args.b.now (omega arith)))

pub returns-else-at-bytes : goal.returns-else-at-bytes
returns-else-at-bytes c = sym (put-out (take (cap - c.args.at) c.args.b.now) c.args.bytes.now c.args.at (omega arith))
