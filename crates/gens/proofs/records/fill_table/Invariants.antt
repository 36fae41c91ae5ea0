-- The loop's invariant: the table is that of the keys that are done with, the last ones.
use Rattle.std.proofs.Common.{◌≡◌, List, ◌++◌, ℕ}
use Rattle.reader.specs.KeyHere.{keys_here}
use Rattle.gens.specs.Records.{RecordsFound}
use Rattle.gens.proofs.records.fill_table.Given as goal

abbrev pub invariant-loop-key : goal.invariant-loop-key
invariant-loop-key l =
    (noted : List ℕ)
    × (l.key-iterator.iter.keys.places.now ++ noted ≡ l.fn.gens.places.now)
    × (l.key-iterator.iter.keys.list.now ≡ l.fn.gens.list.now)
    × RecordsFound l.fn.gens.list.now (keys_here l.fn.gens.list.now noted) l.table
