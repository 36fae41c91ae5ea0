use Rattle.release_keys.proofs.RowLaws.{rows-held}
use Rattle.release_keys.proofs.table.HeldTable.iter.Goals as goal

pub invariant_of-result : goal.invariant_of-result
invariant_of-result c =
    let t = c.args.self.now.freed in
    record { held = rw (c.read.ensures, t.same_sectors) (rows-held t.tabled c.args.self.now.none_refuses) }
