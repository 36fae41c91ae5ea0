-- A step over what is left of the fields of a list s.
use mathlib.Core.Path.{◌≡◌, sym, ◌∙◌, ap}
use mathlib.Core.List.{List, []}
use Prim.Native.Nat.{ℕ, ◌≤◌}
use mathlib.Core.Bool.{Bool, true}
use native.Mathlib.Omega.{arith}
use borrow.Author.Tests.{eqb-true}
use lib.Dec.{eqb}
use lib.ListN.{length, drop}
use Rattle.std.proofs.Common.{Some, None}
use Rattle.wire.specs.Fields.{fields, field_at, step_of, found}
use Rattle.wire.specs.FieldsFound.{field_in}
use Rattle.wire.specs.FieldSteps.{FieldStepped}
use Rattle.wire.specs.declared.fields.Field as code
use Rattle.wire.specs.declared.fields.Fields.{Fields}
use Rattle.wire.proofs.FieldLaws.{FieldAt, field-at, stop-at}

module _ {s : List ℕ} {left next : Fields} (o : left.list.now ≡ s) where
  module _ {f : code.Field} (w : FieldStepped left (Some f) next) where
    pub steps-to : step_of left.at (drop left.at s) ≡ found f.tag f.start (length f.body.now)
    steps-to = sym (rw o at w.here.place)

    pub field-found : FieldAt s left.at f.tag f.start (length f.body.now)
    field-found = field-at s left.at f.tag f.start (length f.body.now) steps-to

    pub list-stays : next.list.now ≡ s
    list-stays = w.list ∙ o

    -- it is the list's field at that place
    pub field-is : field_in f ≡ field_at s f.tag f.start (length f.body.now)
    field-is = ap (λ (b : List ℕ). record { tag = f.tag; body = b }) (rw o at w.here.body)

  module _ (w : FieldStepped left None next) where
    pub steps-nowhere : step_of left.at (drop left.at s) ≡ None
    steps-nowhere = sym (rw o at w.here)

    -- where no field is left, the place tells whether the list ends there
    pub ended : {t : Bool} → t ≡ eqb next.at (length next.list.now) → eqb left.at (length s) ≡ t
    ended e = sym (rw (w.at, w.list ∙ o) at e)

    pub to-the-end : true ≡ eqb next.at (length next.list.now) → length s ≤ left.at
    to-the-end e = omega (arith, eqb-true left.at (length s) (ended e))

    -- no field is left there
    pub none-here : fields (drop left.at s) ≡ []
    none-here = stop-at (drop left.at s) left.at steps-nowhere
