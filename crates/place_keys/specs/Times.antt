-- The clock of a key.
use Rattle.std.specs.Prelude.{ℕ, ◌&&◌, cond, length, leb, eqb, Option, Some, None}
use Rattle.wire.specs.Keys.{Key}
use Rattle.format.specs.Packing.{get}
use Rattle.format.specs.AllocV4.{io_time_write}

-- a key of type 27 with 40 bytes or more has one
unfoldable pub time_of : Key → Option ℕ
time_of k = cond (eqb k.type 27 && leb 40 (length k.value)) (Some (get io_time_write k.value)) None
