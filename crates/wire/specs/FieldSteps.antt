-- A step over the fields of a list.
use Rattle.std.specs.Prelude.{◌≡◌, ℕ, ◌+◌, Option, Some, None, length}
use Rattle.wire.specs.FieldsFound.{FieldGiven}
use Rattle.wire.specs.declared.fields.Field as code
use Rattle.wire.specs.declared.fields.Fields.{Fields}

-- where a field ends, or the place where none stands
abbrev pub field_end : ℕ → Option code.Field → ℕ
field_end at (Some f) = f.start + length f.body.now
field_end at None = at

-- the field at the place is given, and its end is the place then; the list stays
pub record FieldStepped (before : Fields) (field : Option code.Field) (after : Fields) : Type 0 where
  pub here : FieldGiven before.list.now before.at field
  pub list : after.list.now ≡ before.list.now
  pub at : after.at ≡ field_end before.at field
