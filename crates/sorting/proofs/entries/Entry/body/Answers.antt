use Rattle.std.proofs.Common.{◌≡◌, ◌-◌, arith}
use Rattle.sorting.specs.EntryPlaces.{size_at}
use Rattle.sorting.proofs.entries.Entry.body.Goals as goal

pub returns : goal.returns
returns c =
    let k = c.args.self.now in
    let n : c.end.result - k.at ≡ size_at k.list.now k.at = omega (arith, c.end.ensures.ends) in
    rw n
