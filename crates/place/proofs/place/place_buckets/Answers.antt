use Rattle.std.proofs.Common.{arith, ap, sym, subst, ◌∙◌, length, map}
use lib.ListN.{length-map}
use lib.Seq.{length-take-le}
use Rattle.calls.specs.Answers.{Answer, outcome, read_call}
use Rattle.calls.specs.Clock.{clock_of}
use Rattle.calls.specs.Generations.{gen_of}
use Rattle.calls.specs.Place.{place_tests}
use Rattle.accounting.specs.Tally.{Tallied}
use Rattle.freespace.specs.Walks.{queue_of}
use Rattle.reader.specs.KeyHere.{key_here}
use Rattle.reader.specs.PieceLists.{pieces_of}
use Rattle.place_keys.specs.Plan.{Planned}
use Rattle.place_keys.proofs.BucketLaws.{zero-at}
use Rattle.place.proofs.CallLaws.{answer-past}
use Rattle.place.proofs.ChosenLaws.{chosen}
use Rattle.gens.proofs.LookingLaws.{looked-first}
use Rattle.place.proofs.ReadLaws.{gens-in-order, place-on}
use Rattle.place.proofs.place.place_buckets.Goals as goal

pub bucket_gens-requires-clause-keys_value : goal.bucket_gens-requires-clause-keys_value
bucket_gens-requires-clause-keys_value c = gens-in-order c.requires.0

pub bucket_gens-requires-clause-buckets_value : goal.bucket_gens-requires-clause-buckets_value
bucket_gens-requires-clause-buckets_value c =
    let q = chosen c.args.asked.now.called c.requires.1 in
    (q.plan.ascend, omega (arith, q.plan.short))

pub slice_bounds-plan-end : goal.slice_bounds-plan-end
slice_bounds-plan-end c =
    let q = chosen c.args.asked.now.called c.requires.1 in
    sym (length-take-le (length c.args.chosen.taken.now) c.bucket_gens.new.out (omega (arith, q.plan.short, c.bucket_gens.auto.out)))

pub slice_bounds-gens-end : goal.slice_bounds-gens-end
slice_bounds-gens-end c =
    let q = chosen c.args.asked.now.called c.requires.1 in
    omega (arith, q.plan.short, c.bucket_gens.auto.out)

pub invariant_of-plan : goal.invariant_of-plan
invariant_of-plan c =
    let q = chosen c.args.asked.now.called c.requires.1 in
    let r = c.args.chosen in
    let gens = looked-first c.bucket_gens.ensures (gens-in-order c.requires.0) q.plan.ascend ∙ ap (λ ks. map (gen_of ks) r.taken.now) c.requires.0.read.gens.are in
    record {
      planned = subst (λ gs. Planned c.args.asked.now.read.now.list.now (pieces_of c.args.asked.now.pieces) r.slots.now r.taken.now gs c.args.asked.now.read.now.head r.option) (sym gens) q.plan;
      sized = q.sized;
    }

pub fill_dirty-requires : goal.fill_dirty-requires
fill_dirty-requires c =
    let q = chosen c.args.asked.now.called c.requires.1 in
    (omega (arith, q.plan.short), λ k. zero-at 1024 k)

pub invariant_of-changes-2 : goal.invariant_of-changes-2
invariant_of-changes-2 c =
    let q = chosen c.args.asked.now.called c.requires.1 in
    let w = c.args.chosen.walked in
    let g = c.args.asked.now.read.now in
    let runs = c.requires.0.read.freespace.are in
    record {
      prepared =
          record {
            few = omega (arith, q.few, ap length runs, length-map g.freespace.places.now (key_here g.freespace.list.now));
            queue = ap (queue_of w.passed w.left) runs ∙ q.queue;
            tallied = subst (λ ps. Tallied ps c.tally_pieces.result) c.args.asked.now.called.pieces c.tally_pieces.ensures;
            clock = c.write_clock.ensures ∙ ap clock_of c.requires.0.read.alloc.are;
          };
    }

pub returns : goal.returns
returns c =
    place-on c.args.asked.now.read.now.list.now (length c.args.out.now) c.args.out.now c.requires.0.passed
    (c.written.ensures
    ∙ ap (λ (x : Answer). outcome x c.args.out.now)
    (sym (answer-past (place_tests (read_call c.args.asked.now.read.now.list.now)) _ _ c.requires.1.refusal)))
