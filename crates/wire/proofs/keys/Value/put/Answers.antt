use Rattle.std.proofs.Common.{arith, refl, sym, ap, ◌≡◌, ◌+◌, ◌-◌, ◌≤◌, length, length-take}
use Rattle.wire.proofs.AppendLaws.{put-mid}
use Rattle.wire.proofs.OutputLaws.{put-take, put-length}
use Rattle.wire.proofs.FilledLaws.{filled-put}
use Rattle.wire.proofs.keys.Value.put.Goals as goal

pub returns : goal.returns
returns c =
    let at = c.args.at in
    let b = c.args.b.now in
    let f = c.self.inside in
    let k : at + length b - at ≡ length b = omega arith in
    let n : length c.args.self.now ≤ length f.bytes = omega (arith, ap (λ l. length l) (sym c.self.view_is), length-take f.len f.bytes) in
    rw (k, c.copy_from_slice.ensures.after, put-mid at (length b) f.bytes b (omega arith) refl, ← c.self.view_is, put-take f.len f.bytes at b)
    (record { stored = refl; as_long = put-length _ at b })

-- the bytes behind the value's stay
pub invariant_of-self : goal.invariant_of-self
invariant_of-self c =
    let at = c.args.at in
    let b = c.args.b.now in
    let f = c.self.inside in
    let k : at + length b - at ≡ length b = omega arith in
    let n : at + length b ≤ f.len = omega (arith, c.requires, ap (λ l. length l) (sym c.self.view_is), length-take f.len f.bytes) in
    rw (k, c.copy_from_slice.ensures.after, put-mid at (length b) f.bytes b (omega (arith, c.self.invariant.within)) refl)
    (filled-put at b n c.self.invariant)
