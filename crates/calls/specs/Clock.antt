-- FORMAT.md, "Alloc value": the clock is the largest word at 32 of type 27 keys of any inode with 40 bytes or more, else 1.
use Rattle.std.specs.Prelude.{ℕ, List, map, ◌&&◌, cond, length, leb, eqb}
use Rattle.wire.specs.Keys.{Key}
use Rattle.format.specs.Packing.{get}
use Rattle.format.specs.AllocV4.{io_time_write}
use Rattle.calls.specs.Lists.{those, largest, is_empty}

-- the keys that have a clock
unfoldable pub clocked : List Key → List Key
clocked alloc = those (λ k. eqb k.type 27 && leb 40 (length k.value)) alloc

-- the default stands only where no key has one
unfoldable pub clock_of : List Key → ℕ
clock_of alloc = cond (is_empty (clocked alloc)) 1 (largest (map (λ k. get io_time_write k.value) (clocked alloc)))
