-- A key of a section at its place, and a step over the keys of a section.
use Rattle.std.specs.Prelude.{◌≡◌, ℕ, ◌+◌, List, [], Option, Some, None, take, drop}
use Rattle.wire.specs.Fields.{fields}
use Rattle.wire.specs.Keys.{Key}
use Rattle.sorting.specs.Entries.{entries}
use Rattle.sorting.specs.EntryPlaces.{size_at, entry_from, EntryHere}
use Rattle.sorting.specs.declared.entries.Entry.{Entry}
use Rattle.sorting.specs.declared.entries.Entries.{Entries}

-- the key at its place
abbrev pub entry_listed : Entry → Key
entry_listed k = entry_from k.section k.list.now k.at

-- its body
abbrev pub entry_body : Entry → List ℕ
entry_body k = take (size_at k.list.now k.at) (drop k.at k.list.now)

-- a key is of a section of a list
pub record EntryOf (t : ℕ) (s : List ℕ) (k : Entry) : Type 0 where
  pub section : k.section ≡ t
  pub list : k.list.now ≡ s

-- a key is the next, and its end is the place then; the list and the section stay
pub record EntryFound (before : Entries) (k : Entry) (after : Entries) : Type 0 where
  pub of : EntryOf before.section before.fields.list.now k
  pub here : EntryHere before.fields.list.now before.fields.at before.section k.at (size_at before.fields.list.now k.at)
  pub list : after.fields.list.now ≡ before.fields.list.now
  pub section : after.section ≡ before.section
  pub at : after.fields.at ≡ k.at + size_at before.fields.list.now k.at

-- the next key is given, or none is left
abbrev pub EntryStepped : Entries → Option Entry → Entries → Type 0
EntryStepped before (Some k) after = EntryFound before k after
EntryStepped before None after = entries before.section (fields (drop before.fields.at before.fields.list.now)) ≡ []
