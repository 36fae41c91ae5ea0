-- `batch::ReleaseBatch::emit` meets its contract.
use Rattle.std.proofs.Common.{ap, arith, ◌∙◌}
use Rattle.wire.specs.Output.{with_bytes}
use Rattle.wire.proofs.AppendLaws.{then}
use Rattle.release.proofs.BatchLaws.{emptied-few, emptied-up, emptied-low, generations-are, batch-is}
use Rattle.release.proofs.batch.ReleaseBatchEmit.emit.Goals as goal

pub put_gens-requires : goal.put_gens-requires
put_gens-requires c = let d = c.self.invariant in (emptied-low d, emptied-up d)

pub put_rows-requires : goal.put_rows-requires
put_rows-requires c =
    (omega (arith, emptied-few c.self.invariant), c.total_freed-total.ensures.0, c.unused_in-unused.ensures.0, c.unused_in-unused.ensures.1)

pub returns : goal.returns
returns c =
    let d = c.self.invariant in
    let g = c.self.inside.held.freed.read in
    let u = c.unused_in-unused in
    let lrus = then _ _ _ c.put_allocs.ensures c.put_lrus.ensures in
    let waits = then _ _ _ lrus (rw c.read-read.ensures at c.put_need_discards.ensures) in
    let gone = then _ _ _ waits c.put_deletions.ensures in
    let records = then _ _ _ gone (rw d.recorded at c.put_gens.ensures _ (generations-are d)) in
    let rooted = then _ _ _ records (rw c.read-read.ensures at c.put_roots.ensures) in
    then _ _ _ (then _ _ _ rooted c.put_rows.ensures) c.put_end.ensures
    ∙ ap (with_bytes c.args.out.now) (batch-is d c.total_freed-total.result u.result c.total_freed-total.ensures.1 u.ensures.2 ∙ c.self.view_is)
