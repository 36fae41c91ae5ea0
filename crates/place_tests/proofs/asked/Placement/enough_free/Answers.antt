use Rattle.calls.specs.Freespace.{wanted}
use Rattle.reader.proofs.CheckedLaws.{runs-checked, reserved-checked}
use Rattle.place_tests.proofs.asked.Placement.enough_free.Goals as goal

pub free_count-requires : goal.free_count-requires
free_count-requires c =
    let q = c.args.self.now.called in
    (rw q.runs_are (runs-checked q.checked), rw q.reserved_are (reserved-checked q.checked), rw q.runs_are c.requires.0)

pub returns : goal.returns
unfolding wanted
returns c = let q = c.args.self.now.called in rw (c.free_count.ensures, q.runs_are, q.reserved_are)
