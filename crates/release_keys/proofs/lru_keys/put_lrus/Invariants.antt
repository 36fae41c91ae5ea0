-- The loop of `put_lrus`: the keys of the buckets that are left are still to be put.
use Rattle.std.proofs.Common.{◌≡◌}
use mathlib.Core.List.{flat_map}
use Rattle.wire.specs.Output.{with_bytes}
use Rattle.change_fields.specs.FieldBytes.{keys_bytes}
use Rattle.release_keys.specs.HeldOf.{held_left, LeftOf}
use Rattle.release_keys.specs.Tables.{row_lru}
use Rattle.release_keys.proofs.lru_keys.put_lrus.Given as goal

abbrev pub invariant-loop-h : goal.invariant-loop-h
invariant-loop-h l =
    LeftOf l.table l.h-iterator
    × (with_bytes l.out (keys_bytes 10 (flat_map (row_lru l.table.freed.read.head.bucket_sectors l.table.freed.read.alloc.list.now) (held_left l.h-iterator)))
    ≡ with_bytes l.fn.out (keys_bytes 10 (flat_map (row_lru l.table.freed.read.head.bucket_sectors l.table.freed.read.alloc.list.now) l.table.freed.buckets.now)))
