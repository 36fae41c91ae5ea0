-- The loop of `find_emptied`: emptied buckets are listed, and those among the buckets that are left are still to be.
use Rattle.std.proofs.Common.{◌≡◌, ◌≤◌, ◌+◌, ◌++◌, map, length}
use Rattle.calls.specs.Lists.{those}
use Rattle.release_keys.specs.HeldOf.{held_left, LeftOf}
use Rattle.release_keys.specs.Tables.{row_emptied, row_gen}
use Rattle.release_keys.proofs.freed_buckets.find_emptied.Given as goal

abbrev pub invariant-loop-h : goal.invariant-loop-h
invariant-loop-h l =
    LeftOf l.table l.h-iterator
    × (length l.emptied.items + length (held_left l.h-iterator) ≤ length l.table.freed.buckets.now)
    × (l.emptied.items ++ map (row_gen l.table.freed.read.alloc.list.now) (those (row_emptied l.table.freed.read.alloc.list.now) (held_left l.h-iterator))
    ≡ map (row_gen l.table.freed.read.alloc.list.now) (those (row_emptied l.table.freed.read.alloc.list.now) l.table.freed.buckets.now))
