use Rattle.std.proofs.Common.{arith}
use Rattle.place_keys.proofs.BucketLaws.{zero-at}
use Rattle.place_keys.proofs.dirty.dirty_counts.Goals as goal

pub fill_dirty-requires : goal.fill_dirty-requires
fill_dirty-requires c = (omega (arith, c.args.plan.now.planned.short), λ k. zero-at 1024 k)
