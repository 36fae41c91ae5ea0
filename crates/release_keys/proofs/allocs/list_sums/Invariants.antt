-- The loop of `list_sums`: the sums of the first n buckets are listed, and those of the others are left.
use Rattle.std.proofs.Common.{◌≡◌, length}
use Rattle.reader.specs.ListedKeys.{keys_listed}
use Rattle.release_sums.specs.SumsLeft.{sums_left, SameTable}
use Rattle.release_keys.proofs.AllocLaws.{Listing}
use Rattle.release_keys.proofs.allocs.list_sums.Given as goal

abbrev pub invariant-loop-sum : goal.invariant-loop-sum
invariant-loop-sum l =
    SameTable l.fn.sums l.sums × (length l.buckets ≡ length l.fn.buckets) × Listing l.alloc.list.now (keys_listed l.alloc) (sums_left l.fn.sums) (sums_left l.sums) l.keys.keys l.buckets l.n

abbrev pub decreases-loop-sum : goal.decreases-loop-sum
decreases-loop-sum l = length (sums_left l.sums)
