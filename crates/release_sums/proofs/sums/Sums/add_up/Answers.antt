-- A piece is added to the sum of its bucket.
use Rattle.std.proofs.Common.{◌+◌, arith, ap, sym, ◌∙◌, length-set, refl}
use lib.ListN.{get_or}
use Rattle.std.specs.Int.NonZero.{non_zero_u64_get}
use Rattle.wire.specs.declared.kinds.Bucket.{Bucket}
use Rattle.calls.specs.Lists.{all_of}
use Rattle.calls.specs.Release.{freed_ok}
use Rattle.release_sums.specs.FreedsOf.{freeds_of, freeds_left}
use Rattle.release_sums.proofs.FreedLaws.{bucket_low, rest-ok}
use Rattle.release_sums.proofs.SumLaws.{add-starts, add_at, add_turn, add-ends, none-taken, freed-most, marked-more, group-marked, marked-set}
use Rattle.release_sums.proofs.sums.Sums.add_up.Goals as goal

pub loop-r-init : goal.loop-r-init
loop-r-init c =
    let e = ap freeds_left c.into_iter-r-iterator.ensures.into_iter_gives ∙ c.iter-r-items.ensures in
    (rw e (add-starts _ _ _ c.requires.2), ap (all_of (freed_ok (non_zero_u64_get c.args.bucket_sectors))) e ∙ c.requires.1, c.requires.3, refl)

pub bounds-self-b : goal.bounds-self-b
bounds-self-b c = omega (arith, bucket_low (non_zero_u64_get c.args.bucket_sectors) c.loop-r.invariant.1 c.in-Some.ensures.steps c.bucket_of-b.ensures)

pub offset_bounds-self-b : goal.offset_bounds-self-b
offset_bounds-self-b c = omega (arith, bucket_low (non_zero_u64_get c.args.bucket_sectors) c.loop-r.invariant.1 c.in-Some.ensures.steps c.bucket_of-b.ensures)

pub bounds-self-b-in-loop-r : goal.bounds-self-b-in-loop-r
bounds-self-b-in-loop-r c = omega (arith, bucket_low (non_zero_u64_get c.args.bucket_sectors) c.loop-r.invariant.1 c.in-Some.ensures.steps c.bucket_of-b.ensures, c.loop-r.self.long)

pub overflow_add-self : goal.overflow_add-self
overflow_add-self c =
    let low = bucket_low (non_zero_u64_get c.args.bucket_sectors) c.loop-r.invariant.1 c.in-Some.ensures.steps c.bucket_of-b.ensures in
    omega (
      arith,
      add_at c.loop-r.invariant.0 c.bucket_of-b.result.0 c.in-Some.ensures.steps (ap (λ (b : Bucket). b.0) (sym c.bucket_of-b.ensures)) low,
      freed-most (non_zero_u64_get c.args.bucket_sectors) c.bucket_of-b.result (freeds_of c.args.freeds) c.requires.1,
      c.requires.0,
    )

pub bounds-self-b-in-loop-r-2 : goal.bounds-self-b-in-loop-r-2
bounds-self-b-in-loop-r-2 c =
    let low = bucket_low (non_zero_u64_get c.args.bucket_sectors) c.loop-r.invariant.1 c.in-Some.ensures.steps c.bucket_of-b.ensures in
    let long = c.loop-r.self.long in
    omega (arith, low, long)

pub invariant_of-self : goal.invariant_of-self
invariant_of-self c =
    let low = bucket_low (non_zero_u64_get c.args.bucket_sectors) c.loop-r.invariant.1 c.in-Some.ensures.steps c.bucket_of-b.ensures in
    record { long = c.loop-r.self.long; marked = marked-more c.loop-r.self.marked c.bucket_of-b.result.0 low; within = c.loop-r.self.within; taken = none-taken _ c.loop-r.invariant.2 }

pub invariant_of-self-in-loop-r : goal.invariant_of-self-in-loop-r
invariant_of-self-in-loop-r c =
    let s = c.loop-r.self in
    let k = c.bucket_of-b.result.0 in
    let low = bucket_low (non_zero_u64_get c.args.bucket_sectors) c.loop-r.invariant.1 c.in-Some.ensures.steps c.bucket_of-b.ensures in
    let m = marked-more s.marked k low in
    let x = get_or s.sums.now k 0 + c.in-Some.r.sectors in
    record { long = omega (arith, s.long, length-set s.sums.now k x); marked = marked-set m k x (group-marked s.marked k low); within = s.within; taken = none-taken _ c.loop-r.invariant.2 }

pub loop-r-preserved : goal.loop-r-preserved
loop-r-preserved c =
    let v = c.loop-r.invariant in
    let e = c.in-Some.ensures.steps in
    let low = bucket_low (non_zero_u64_get c.args.bucket_sectors) v.1 e c.bucket_of-b.ensures in
    (add_turn v.0 c.bucket_of-b.result.0 c.args.self.now.long e (ap (λ (b : Bucket). b.0) (sym c.bucket_of-b.ensures)) low, rest-ok (non_zero_u64_get c.args.bucket_sectors) v.1 e, v.2, v.3)

pub returns-clause-summed : goal.returns-clause-summed
returns-clause-summed c =
    let v = c.loop-r.invariant in
    let e = add-ends v.0 c.args.self.now.long c.in-None.ensures.steps.0 in
    (e.0, e.1, v.2)
