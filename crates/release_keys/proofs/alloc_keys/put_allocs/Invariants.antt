-- The loop of `put_allocs`: the keys of the buckets that are left are still to be put.
use Rattle.std.proofs.Common.{◌≡◌, map}
use Rattle.wire.specs.Output.{with_bytes}
use Rattle.change_fields.specs.FieldBytes.{keys_bytes}
use Rattle.release_keys.specs.HeldOf.{held_left, LeftOf}
use Rattle.release_keys.specs.Tables.{freed_key}
use Rattle.release_keys.proofs.alloc_keys.put_allocs.Given as goal

abbrev pub invariant-loop-h : goal.invariant-loop-h
invariant-loop-h l =
    LeftOf l.table l.h-iterator
    × (with_bytes l.out (keys_bytes 4 (map (freed_key l.table.freed.read.head.journal l.table.freed.read.alloc.list.now) (held_left l.h-iterator)))
    ≡ with_bytes l.fn.out (keys_bytes 4 (map (freed_key l.table.freed.read.head.journal l.table.freed.read.alloc.list.now) l.table.freed.buckets.now)))
