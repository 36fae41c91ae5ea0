use Rattle.std.proofs.Common.{sym, ◌∙◌, refl, ap, arith, true, rules}
use Rattle.wire.proofs.FieldStepLaws.{field-found, field-is, list-stays, steps-to, to-the-end}
use Rattle.reader.specs.CallFields.{call_field_ok, follows}
use Rattle.reader.proofs.SurveyLaws.{next-within, last_within, next-free, next-below, goes_after}
use Rattle.reader.proofs.SurveyStartLaws.{first-found, first-going}
use Rattle.reader.proofs.SurveyEndLaws.{ends_found, ordered-found}
use Rattle.reader.proofs.survey.survey_ordered.Goals as goal

pub overflow_add-head_field : goal.overflow_add-head_field
overflow_add-head_field c = omega (arith, (first-found (c.head_first.ensures _ c.in_ok-head_field.was)).within)

pub from_place-fields-requires : goal.from_place-fields-requires
from_place-fields-requires c = (first-found (c.head_first.ensures _ c.in_ok-head_field.was)).within

pub loop-field-init : goal.loop-field-init
loop-field-init c =
    let o = c.from_place-fields.ensures in
    let t = c.new-table.ensures in
    let h = c.head_first.ensures _ c.in_ok-head_field.was in
    (o.0, rw o.1 (first-going h _ (rw t.same_entries c.requires) t.unfilled), λ z. omega (arith, h.tag), refl)

pub follows-requires : goal.follows-requires
follows-requires c =
    let same = c.from-named.ensures in
    let i = c.loop-field.invariant in
    let w = c.in-Some.ensures.steps in
    let f = field-found i.0 w in
    let ok = ap (call_field_ok _) (sym (field-is i.0 w)) ∙ sym (rw (same, c.call.ensures) at c.may_stand.ensures) ∙ c.if-not-may_stand.false in
    rw same (last_within _ _ _ _ _ _ _ i.1 _ _ _ f ok, next-within _ _ _ _ _ _ _ i.1 _ _ _ f ok)

pub note_field-requires : goal.note_field-requires
note_field-requires c =
    let same = c.from-named.ensures in
    let w = c.in-Some.ensures.steps in
    let i = c.loop-field.invariant in
    let ok = ap (call_field_ok _) (sym (field-is i.0 w)) ∙ sym (rw (same, c.call.ensures) at c.may_stand.ensures) ∙ c.if-not-may_stand.false in
    rw same (next-within _ _ _ _ _ _ _ i.1 _ _ _ (field-found i.0 w) ok, next-free _ _ _ _ _ _ _ i.1 _ _ _ (steps-to i.0 w) ok)

pub loop-field-preserved : goal.loop-field-preserved
loop-field-preserved c =
    let same = c.from-named.ensures in
    let w = c.in-Some.ensures.steps in
    let i = c.loop-field.invariant in
    let is = field-is i.0 w in
    let ok = ap (call_field_ok _) (sym is) ∙ sym (rw (same, c.call.ensures) at c.may_stand.ensures) ∙ c.if-not-may_stand.false in
    let order = ap (follows _) (sym is) ∙ sym (rw same at c.follows.ensures) ∙ c.if-not-follows.false in (
      list-stays i.0 w,
      rw (w.at, is) (goes_after _ _ _ _ _ _ _ i.1 _ _ _ (steps-to i.0 w) ok _ order (rw (same, is) at c.note_field.ensures)),
      next-below _ _ _ _ _ _ _ i.1 _ _ _ (field-found i.0 w) ok,
      c.note_field.ensures.same ∙ i.3,
    )

pub returns : goal.returns
returns c =
    let i = c.loop-field.invariant in
    let e = to-the-end i.0 c.in_default.ensures.steps c.if-not-at_end.ensures in
    let same = sym c.new-table.ensures.same_reference ∙ sym i.3 in
    let laid = ordered-found i.1.fits (ends_found _ _ _ _ _ _ _ i.1 e _ refl true (λ z. i.2)) refl in
    search (same, laid, rules)
