-- The changes of a discard, as their bytes.
use Rattle.std.specs.Prelude.{ℕ, List}
use Rattle.std.specs.Int.NonZero.{non_zero_u32_get}
use Rattle.reader.specs.ListedKeys.{keys_listed}
use Rattle.discard.specs.Emitted.{changes_from}
use Rattle.discard.specs.declared.changes.Changes.TheInside.{Inside}

abbrev pub changes_view : Inside → List ℕ
changes_view c = changes_from c.discarded.waiting.now (non_zero_u32_get c.size) (keys_listed c.discarded.keys)
