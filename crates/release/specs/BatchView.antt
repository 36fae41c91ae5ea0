-- The batch of a release, as its change list.
use Rattle.std.specs.Prelude.{ℕ, List}
use Rattle.release.specs.Given.{change_of}
use Rattle.release.specs.Outcomes.{BatchTables}
use Rattle.release.specs.declared.batch.ReleaseBatch.TheInside.{Inside}

abbrev pub batch_view : Inside → List ℕ
batch_view b = change_of b.held.freed.read

-- its tables are filled
abbrev pub IsBatch : Inside → Type 0
IsBatch b = BatchTables b.held b.records.now b.emptied.now
