use Rattle.std.proofs.Common.{◌≡◌, arith, refl, sym, ap, ◌∙◌, length}
use Rattle.std.proofs.lemmas.Result.{err_from_is_err_and}
use Rattle.calls.specs.CallList as calls
use Rattle.calls.specs.Answers.{Answer, read_volume, outcome}
use Rattle.calls.proofs.answers.OutcomeLaws.{refused}
use Rattle.discard.proofs.OutcomeLaws.{size-some, size-none, read-ready, discard-unbatched, discard-after}
use Rattle.discard.proofs.discard.discard_read.Goals as goal

pub returns-in_err-size : goal.returns-in_err-size
returns-in_err-size c =
    let z = size-none c.new.ensures c.ok_or.ensures.ok_part c.ok_or.ensures.value c.in_err-size.was in
    let p = err_from_is_err_and c.from_residual.result c.from_residual.ensures.1 in
    let e : (read_volume c.args.read.now.list.now).head.batch ≡ 0 = omega (arith, z.1, ap (λ (h : calls.Head). h.batch) c.requires.read.head) in
    rw (p.1, p.2 ∙ z.0) (refused 20 c.args.out.now (discard-unbatched c.args.read.now.list.now (length c.args.out.now) c.requires.passed e) refl)

pub invariant_of-list : goal.invariant_of-list
invariant_of-list c =
    record {
      given = read-ready c.requires;
      same_size = omega (arith, (size-some c.new.ensures c.ok_or.ensures.ok_part c.in_ok-size.was).0);
    }

pub returns : goal.returns
returns c =
    let h = ap (λ (h : calls.Head). h.batch) c.requires.read.head in
    let some = size-some c.new.ensures c.ok_or.ensures.ok_part c.in_ok-size.was in
    let e = discard-after c.args.read.now.list.now (length c.args.out.now) c.requires.passed (λ z. some.1 (omega (arith, h, z))) in
    c.discard_lists.ensures ∙ sym (ap (λ (x : Answer). outcome x c.args.out.now) e)
