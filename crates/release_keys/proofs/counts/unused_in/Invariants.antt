-- The loop of `unused_in`: the sums of the buckets that are left are still to be added.
use Rattle.std.proofs.Common.{◌≡◌, ◌≤◌, ◌+◌, ◌*◌, length}
use Rattle.calls.specs.Lists.{total}
use Rattle.release_keys.specs.Counting.{row_added, row_removed}
use Rattle.release_keys.specs.HeldOf.{held_left, LeftOf}
use Rattle.release_keys.proofs.counts.unused_in.Given as goal

abbrev pub invariant-loop-h : goal.invariant-loop-h
invariant-loop-h l =
    LeftOf l.table l.h-iterator
    × (l.u.added + 65535 * length (held_left l.h-iterator) ≤ 65535 * length l.table.freed.buckets.now)
    × (l.u.removed + 65535 * length (held_left l.h-iterator) ≤ 65535 * length l.table.freed.buckets.now)
    × (l.u.added + total (row_added l.table.freed.read.alloc.list.now) (held_left l.h-iterator) ≡ total (row_added l.table.freed.read.alloc.list.now) l.table.freed.buckets.now)
    × (l.u.removed + total (row_removed l.table.freed.read.alloc.list.now l.table.freed.read.head.bucket_sectors) (held_left l.h-iterator)
    ≡ total (row_removed l.table.freed.read.alloc.list.now l.table.freed.read.head.bucket_sectors) l.table.freed.buckets.now)
