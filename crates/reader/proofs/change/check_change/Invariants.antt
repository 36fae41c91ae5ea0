-- What is left of the list decides.
use Rattle.std.proofs.Common.{◌≡◌, length, ◌-◌}
use Rattle.reader.proofs.ChangeLaws.{Changing}
use Rattle.reader.proofs.change.check_change.Given as goal

abbrev pub invariant-loop-field : goal.invariant-loop-field
invariant-loop-field l = (l.fields.list.now ≡ l.s) × Changing l.s l.fields.at l.last

abbrev pub decreases-loop-field : goal.decreases-loop-field
decreases-loop-field l = length l.fields.list.now - l.fields.at
