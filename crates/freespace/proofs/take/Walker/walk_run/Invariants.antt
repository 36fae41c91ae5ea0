use Rattle.std.proofs.Common.{◌-◌, ◌+◌, ◌≡◌}
use Rattle.wire.specs.Kinds.{buckets_up_to}
use Rattle.calls.specs.Freespace.{pass}
use Rattle.bucket_bits.specs.Bits.{marked}
use Rattle.freespace.proofs.WalkLaws.{Ahead}
use Rattle.freespace.proofs.take.Walker.walk_run.Given as goal

abbrev pub invariant-loop-b : goal.invariant-loop-b
invariant-loop-b l =
    let all = pass (marked l.self.reserved.now) (marked l.self.used.now) (l.self.wanted - l.fn.before.count) (buckets_up_to l.run.start l.run.end) in
    record {
      end : l.b-iterator.end ≡ l.run.end;
      ahead : Ahead (marked l.self.reserved.now) (marked l.self.used.now) all l.self.wanted l.fn.before l.fn.taken l.b-iterator.end l.b-iterator.next l.walked.count l.taken;
      passed : l.walked.passed ≡ l.fn.before.passed + 1;
      left : l.walked.left ≡ 0;
    }
