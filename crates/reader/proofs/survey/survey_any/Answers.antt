use Rattle.std.proofs.Common.{sym, ◌∙◌, refl, ap, false, rules}
use Rattle.calls.proofs.lists.BoolLaws.{clash}
use Rattle.wire.proofs.FieldStepLaws.{field-found, field-is, list-stays, steps-to, steps-nowhere, ended, to-the-end}
use Rattle.wire.specs.Fields.{Field}
use Rattle.reader.specs.CallFields.{call_field_ok, head_field_ok}
use Rattle.reader.proofs.SurveyLaws.{breaks, second, bad-head, goes-head, bad-beside, next-within, next-free, goes_on}
use Rattle.reader.proofs.SurveyStartLaws.{loosen, any-going}
use Rattle.reader.proofs.SurveyEndLaws.{no-head, ends_found, broken-found, laid-found}
use Rattle.reader.proofs.survey.survey_any.Goals.{then-field-number-via-then-field-number, then-field-number-via-else-field-number+then-is_some, then-field-number-via-else-field-number+else-is_some+then-not-head_field_ok}
use Rattle.reader.proofs.survey.survey_any.Goals as goal

pub loop-field-init : goal.loop-field-init
loop-field-init c =
    let o = c.of-fields.ensures in
    let t = c.new-table.ensures in
    (o.0, rw o.1 (any-going _ _ _ _ (rw t.same_entries c.requires) t.unfilled), refl)

pub note_field-requires : goal.note_field-requires
note_field-requires c =
    let same = c.from-named.ensures in
    let w = c.in-Some.ensures.steps in
    let i = c.loop-field.invariant in
    let ok = ap (call_field_ok _) (sym (field-is i.0 w)) ∙ sym (rw (same, c.call.ensures) at c.may_stand.ensures) ∙ c.if-may_stand.true in
    rw same
    (next-within _ _ _ _ _ _ _ i.1 _ _ _ (field-found i.0 w) ok, next-free _ _ _ _ _ _ _ i.1 _ _ _ (steps-to i.0 w) ok)

pub loop-field-preserved-then-may_stand : goal.loop-field-preserved-then-may_stand
loop-field-preserved-then-may_stand c =
    let same = c.from-named.ensures in
    let w = c.in-Some.ensures.steps in
    let i = c.loop-field.invariant in
    let is = field-is i.0 w in
    let ok = ap (call_field_ok _) (sym is) ∙ sym (rw (same, c.call.ensures) at c.may_stand.ensures) ∙ c.if-may_stand.true in (
      list-stays i.0 w,
      rw w.at (loosen (goes_on _ _ _ _ _ _ _ i.1 _ _ _ (steps-to i.0 w) ok _ _ refl (rw (same, is) at c.note_field.ensures))),
      c.note_field.ensures.same ∙ i.2,
    )

pub returns-then-field-number : goal.returns-then-field-number
returns-then-field-number c =
    let same = c.from-named.ensures in
    let i = c.loop-field.invariant in
    let w = c.in-Some.ensures.steps in
    let f = field-found i.0 w in
    let is = field-is i.0 w in
    broken-found
    (elim c.then-field-number.branch [
      | then-field-number-via-then-field-number w ↦
          bad-beside _ _ _ _ _ _ _ i.1 _ _ _ f (λ e. w.if-field-number.true (e ∙ sym c.number.ensures)) (ap (call_field_ok _) (sym is) ∙ sym (rw (same, c.call.ensures) at c.may_stand.ensures) ∙ c.if-may_stand.false)
      | then-field-number-via-else-field-number+then-is_some w ↦ second _ _ _ _ _ _ _ i.1 _ _ _ f (w.if-field-number.false ∙ c.number.ensures) (sym w.is_some.ensures ∙ w.if-is_some.true)
      | then-field-number-via-else-field-number+else-is_some+then-not-head_field_ok w ↦
          bad-head _ _ _ _ _ _ _ i.1 _ _ _ f (w.if-field-number.false ∙ c.number.ensures) (ap (head_field_ok _ _) (sym (ap (λ (f : Field). f.body) is)) ∙ sym w.head_field_ok.ensures ∙ w.if-not-head_field_ok.true)
    ])

pub loop-field-preserved : goal.loop-field-preserved
loop-field-preserved c =
    let w = c.in-Some.ensures.steps in
    let i = c.loop-field.invariant in (
      list-stays i.0 w,
      rw w.at
          (goes-head _ _ _ _ _ _ _ i.1 _ _ _ (field-found i.0 w) (c.if-field-number.false ∙ c.number.ensures) (sym c.is_some.ensures ∙ c.if-is_some.false)
          (ap (head_field_ok _ _) (sym (ap (λ (f : Field). f.body) (field-is i.0 w))) ∙ sym c.head_field_ok.ensures ∙ c.if-not-head_field_ok.false)),
      i.2,
    )

pub returns-then-not-at_end : goal.returns-then-not-at_end
returns-then-not-at_end c =
    let i = c.loop-field.invariant in
    let w = c.in_default.ensures.steps in
    broken-found (breaks _ _ _ _ _ _ _ i.1 (steps-nowhere i.0 w) (ended i.0 w c.if-not-at_end.ensures))

pub returns-in_err-head : goal.returns-in_err-head
returns-in_err-head c =
    let i = c.loop-field.invariant in
    let e = to-the-end i.0 c.in_default.ensures.steps c.if-not-at_end.ensures in
    rw c.from_residual.ensures (broken-found (no-head _ _ _ _ _ _ _ i.1 e c.in_err-head.was))

pub returns : goal.returns
returns c =
    let i = c.loop-field.invariant in
    let e = to-the-end i.0 c.in_default.ensures.steps c.if-not-at_end.ensures in
    let same = sym c.new-table.ensures.same_reference ∙ sym i.2 in
    let laid = laid-found (ends_found _ _ _ _ _ _ _ i.1 e _ c.in_ok-head.was false (λ z. absurd (clash z refl))) in
    search (same, laid, rules)
