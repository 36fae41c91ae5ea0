use Rattle.std.proofs.Common.{ℕ, ◌+◌, ◌∙◌, ap, sym, arith, take, drop, length-drop}
use Rattle.std.proofs.lemmas.List.{take_rest}
use Rattle.wire.proofs.FieldLaws.{step_cut, step-long, found-here, rest-is, length-is}
use Rattle.wire.proofs.fields.next_field.Goals as goal

pub returns-in_default : goal.returns-in_default
returns-in_default c =
    let s = c.args.s.now in
    sym (step_cut _ _ (omega (arith, rw (take_rest s c.args.at) at c.in_default.len_below, length-drop c.args.at s)))

pub returns-in_err-body : goal.returns-in_err-body
returns-in_err-body c =
    let s = c.args.s.now in
    let at = c.args.at in
    let h = rw (take_rest s at) at c.in-len3-up.len_at_least in
    let n = rw (take_rest s at) at c.from_le_bytes.ensures ∙ length-is s at in
    let l = rw (rest-is s at) at c.in_err-body.ensures.lookup.0 in
    rw c.from_residual.ensures (sym (step-long s at (omega (arith, h, length-drop at s)) (omega (arith, n, l, length-drop (at + 3) s))))

pub returns : goal.returns
returns c =
    let s = c.args.s.now in
    let at = c.args.at in
    let h = rw (take_rest s at) at c.in-len3-up.len_at_least in
    let n = rw (take_rest s at) at c.from_le_bytes.ensures ∙ length-is s at in
    let l = rw (rest-is s at) at c.in_ok-body.ensures.lookup.0 in
    record {
      place = rw (take_rest s at) (found-here s at (omega (arith, h, length-drop at s)) c.in_ok-body.body.now (omega (arith, n, l)) (omega (arith, n, l, length-drop (at + 3) s)));
      body = l.2 ∙ ap (λ (n : ℕ). take n (drop (at + 3) s)) (omega (arith, l));
    }
