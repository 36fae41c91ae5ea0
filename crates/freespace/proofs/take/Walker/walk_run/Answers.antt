use Rattle.std.proofs.Common.{arith, sym, ◌∙◌}
use Rattle.freespace.proofs.WalkLaws.{ahead-skip, ahead-take, ahead-used, ahead-full, ahead-done}
use Rattle.freespace.proofs.take.Walker.walk_run.Goals as goal

pub returns-then-walked-self : goal.returns-then-walked-self
returns-then-walked-self c =
    let v = c.loop-b.invariant in
    ahead-full _ _ v.ahead v.passed c.if-walked-self.true (rw (v.end, ← c.in-Some.ensures.steps.1) c.buckets_between.ensures)

pub loop-b-preserved-then-is_marked : goal.loop-b-preserved-then-is_marked
loop-b-preserved-then-is_marked c =
    let v = c.loop-b.invariant in
    let s = c.in-Some.ensures.steps in
    rw (s.2, s.1)
    (record {
      end = v.end;
      ahead = ahead-skip _ _ v.ahead (omega arith) s.0 (rw (← s.1) (sym c.is_marked.ensures ∙ c.if-is_marked.true));
      passed = v.passed;
      left = v.left;
    })

pub returns-then-is_marked-2 : goal.returns-then-is_marked-2
returns-then-is_marked-2 c =
    let s = c.in-Some.ensures.steps in
    ahead-used _ _ c.loop-b.invariant.ahead (omega arith) s.0 (rw (← s.1) (sym c.is_marked.ensures ∙ c.if-is_marked.false))
    (rw (← s.1) (sym c.is_marked-in-loop-b.ensures ∙ c.if-is_marked-2.true))

pub loop-b-preserved : goal.loop-b-preserved
loop-b-preserved c =
    let v = c.loop-b.invariant in
    let s = c.in-Some.ensures.steps in
    rw (s.2, s.1)
    (record {
      end = v.end;
      ahead =
          ahead-take _ _ v.ahead (omega arith) s.0 (rw (← s.1) (sym c.is_marked.ensures ∙ c.if-is_marked.false)) c.requires.2
          (rw (← s.1) (sym c.is_marked-in-loop-b.ensures ∙ c.if-is_marked-2.false));
      passed = v.passed;
      left = v.left;
    })

pub returns : goal.returns
returns c =
    let v = c.loop-b.invariant in
    ahead-done _ _ v.ahead v.passed c.in-None.ensures.steps.0 v.left
