-- The loop of `put_deletions`: the deletions of the pieces that are left are still to be put.
use Rattle.std.proofs.Common.{◌≡◌, true, map}
use Rattle.wire.specs.Output.{with_bytes}
use Rattle.wire.specs.Positions.{backpointer_at}
use Rattle.calls.specs.Lists.{all_of}
use Rattle.calls.specs.Release.{freed_ok}
use Rattle.calls.specs.Trees.{deletion}
use Rattle.change_fields.specs.FieldBytes.{keys_bytes}
use Rattle.release_sums.specs.FreedsOf.{freeds_left}
use Rattle.release_keys.specs.Given.{requests_in}
use Rattle.release_keys.proofs.backpointers.put_deletions.Given as goal

abbrev pub invariant-loop-r : goal.invariant-loop-r
invariant-loop-r l =
    (all_of (freed_ok l.table.read.head.bucket_sectors) (freeds_left l.r-iterator) ≡ true)
    × (with_bytes l.out (keys_bytes 13 (map (λ x. deletion (backpointer_at x.first)) (freeds_left l.r-iterator)))
    ≡ with_bytes l.fn.out (keys_bytes 13 (map (λ x. deletion (backpointer_at x.first)) (requests_in l.table.read))))
