-- The pass over a list at its start: where no order is told, and where field 1 stands first.
use Prim.Native.Nat.{ℕ, ◌+◌}
use mathlib.Core.Path.{refl, sym, ◌∙◌, ap}
use mathlib.Core.Logic.{inr}
use Rattle.std.proofs.Common.{Option, Some, None}
use mathlib.Core.List.{List, []}
use mathlib.Core.Bool.{Bool}
use lib.ListN.{length}
use native.Mathlib.Omega.{arith}
use Rattle.wire.specs.Fields.{Field}
use Rattle.wire.specs.FieldsFound.{field_in}
use Rattle.wire.specs.declared.fields.Field as code
use Rattle.wire.proofs.FieldLaws.{FieldAt, field-at}
use Rattle.reader.specs.CallFields.{head_field_ok}
use Rattle.reader.specs.Table.{Fits, Unfilled}
use Rattle.reader.specs.Surveyed.{HeadAt}
use Rattle.reader.specs.declared.table.PlaceTable.{PlaceTable}
use Rattle.reader.proofs.SurveyLaws.{Going, going_start, goes-head}

-- where no order is told
abbrev pub no_order : Field
no_order = record { tag = 255; body = [] }

pub loosen : {s : List ℕ} {call : ℕ} {any : Bool} {at : ℕ} {head : Option ℕ} {last : Field} {table : PlaceTable}
    → Going s call any at head last table → Going s call any at head no_order table
loosen g =
    record {
      walked = g.walked;
      heads = g.heads;
      inside = g.inside;
      fine = g.fine;
      kept = inr (omega arith);
      order = λ n. absurd (n refl);
      fits = g.fits;
      many = g.many;
      limits = g.limits;
    }

abbrev first_field : Field
first_field = record { tag = 1; body = [] }

pub any-going : (s : List ℕ) (call : ℕ) (any : Bool) (table : PlaceTable) → Fits s table.index.now → Unfilled table
    → Going s call any 0 None no_order table
any-going s call any table w e = loosen (going_start s call any first_field table refl w e)

-- field 1 stands first

module _ {s : List ℕ} {call : ℕ} {any : Bool} {f : code.Field} (h : HeadAt call any s f) where
  pub first-found : FieldAt s 0 f.tag f.start (length f.body.now)
  first-found = field-at s 0 f.tag f.start (length f.body.now) (sym h.found.place)

  pub first-going : (table : PlaceTable) → Fits s table.index.now → Unfilled table
      → Going s call any (f.start + length f.body.now) (Some f.start) (field_in f) table
  first-going table w e =
      goes-head s call any 0 None (field_in f) table (going_start s call any (field_in f) table h.tag w e) f.tag f.start (length f.body.now)
      first-found h.tag refl (ap (head_field_ok call any) (sym h.found.body) ∙ h.ok)
