-- The loop of `first_left`: the sums that it passed are 0.
use Rattle.std.proofs.Common.{◌≡◌, ◌≤◌, ◌/◌}
use Rattle.release_sums.proofs.TakeLaws.{NoneFrom}
use Rattle.release_sums.proofs.sums.Sums.first_left.Given as goal

abbrev pub invariant-loop-group : goal.invariant-loop-group
invariant-loop-group l = record {
  passed : NoneFrom l.self.sums.now l.self.next l.from;
  after : l.self.next ≤ l.from;
  at : l.from / 64 ≡ l.group;
}
