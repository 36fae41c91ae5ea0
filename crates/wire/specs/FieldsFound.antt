-- A whole field as the code finds it in a list.
use Rattle.std.specs.Prelude.{◌≡◌, ℕ, List, Option, Some, None, length, take, drop}
use Rattle.wire.specs.Fields.{Field, FieldPlace, step_of}
use Rattle.wire.specs.declared.fields.Field as code

-- the field that the code holds, and its place
abbrev pub field_in : code.Field → Field
field_in f = record { tag = f.tag; body = f.body.now }

abbrev pub place_in : code.Field → FieldPlace
place_in f = record { tag = f.tag; start = f.start; len = length f.body.now }

-- a field f stands at place at of s, and its body is what stands there
pub record FieldFound (s : List ℕ) (at : ℕ) (f : code.Field) : Type 0 where
  pub place : Some (place_in f) ≡ step_of at (drop at s)
  pub body : f.body.now ≡ take (length f.body.now) (drop f.start s)

-- the whole field at a place is given, or none stands there
abbrev pub FieldGiven : List ℕ → ℕ → Option code.Field → Type 0
FieldGiven s at (Some f) = FieldFound s at f
FieldGiven s at None = None ≡ step_of at (drop at s)
