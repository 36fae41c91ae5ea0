-- The loop of `add_up`: the sums of the pieces that are left are still to be added.
use Rattle.std.proofs.Common.{◌≡◌, true}
use Rattle.std.specs.Int.NonZero.{non_zero_u64_get}
use Rattle.calls.specs.Lists.{all_of}
use Rattle.calls.specs.Release.{freed_ok}
use Rattle.release_sums.specs.FreedsOf.{freeds_of, freeds_left}
use Rattle.release_sums.proofs.SumLaws.{Adding}
use Rattle.release_sums.proofs.sums.Sums.add_up.Given as goal

abbrev pub invariant-loop-r : goal.invariant-loop-r
invariant-loop-r l =
    Adding (non_zero_u64_get l.bucket_sectors) (freeds_of l.freeds) (freeds_left l.r-iterator) l.fn.self.sums.now l.self.sums.now
    × (all_of (freed_ok (non_zero_u64_get l.bucket_sectors)) (freeds_left l.r-iterator) ≡ true)
    × (l.self.next ≡ 0)
    × (l.self.sums.ghost_name ≡ l.fn.self.sums.ghost_name)
