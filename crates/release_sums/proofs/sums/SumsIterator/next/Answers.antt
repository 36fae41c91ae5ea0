-- The sums before the first that is not 0 are passed, and it is taken out.
use Rattle.std.proofs.Common.{◌≡◌, arith, refl, ap, ◌∙◌, length, length-set, drop-set-lt}
use Rattle.release_sums.proofs.SumLaws.{marked-set, marked-sum}
use Rattle.release_sums.proofs.TakeLaws.{taken-one, taken-first, left-first, left-hit, left-end}
use Rattle.release_sums.proofs.sums.SumsIterator.next.Goals as goal

pub invariant_of-self : goal.invariant_of-self
invariant_of-self c =
    let s = c.args.self.now in
    let f = c.first_left-b.ensures in
    let b = c.first_left-b.result in
    let h = c.if-b-lt-BUCKETS.true in
    record {
      long = omega (arith, s.long, length-set s.sums.now b 0);
      marked = marked-set s.marked b 0 (marked-sum s.marked b h (f.found h));
      within = omega (arith, h);
      taken = taken-one s.sums.now (taken-first f s.taken s.long) (omega (arith, h, s.long));
    }

pub returns-then-b-lt-BUCKETS-clause-steps : goal.returns-then-b-lt-BUCKETS-clause-steps
returns-then-b-lt-BUCKETS-clause-steps c =
    let s = c.args.self.now in
    let f = c.first_left-b.ensures in
    let b = c.first_left-b.result in
    let h = c.if-b-lt-BUCKETS.true in
    (left-first f ∙ left-hit s.sums.now b h (f.found h), (refl, drop-set-lt 65536 s.sums.now b 0 h))

pub returns-then-b-lt-BUCKETS-clause-goes : goal.returns-then-b-lt-BUCKETS-clause-goes
returns-then-b-lt-BUCKETS-clause-goes c =
    let s = c.args.self.now in
    let f = c.first_left-b.ensures in
    let h = c.if-b-lt-BUCKETS.true in
    record { on = λ u. (tt, tt, omega (arith, ap length (left-first f ∙ left-hit s.sums.now c.first_left-b.result h (f.found h)))); keeps = tt; rests = λ u. tt }

pub invariant_of-self-2-clause-taken : goal.invariant_of-self-2-clause-taken
invariant_of-self-2-clause-taken c =
    let s = c.args.self.now in
    let f = c.first_left-b.ensures in
    let e : c.first_left-b.result ≡ 65536 = omega (arith, f.within, c.if-b-lt-BUCKETS.false) in
    rw e at (taken-first f s.taken s.long)

pub returns-clause-steps : goal.returns-clause-steps
returns-clause-steps c =
    let s = c.args.self.now in
    let f = c.first_left-b.ensures in
    let e : c.first_left-b.result ≡ 65536 = omega (arith, f.within, c.if-b-lt-BUCKETS.false) in
    (left-first f ∙ left-end s.sums.now c.first_left-b.result c.if-b-lt-BUCKETS.false, rw e at (taken-first f s.taken s.long), (refl, refl))
