use Rattle.std.proofs.Common.{sym, ◌∙◌, ap}
use Rattle.wire.proofs.FieldStepLaws.{field-found, field-is, list-stays, steps-nowhere, ended}
use Rattle.reader.specs.Bodies.{change_field_ok}
use Rattle.reader.proofs.ChangeLaws.{start, ends, bad, back, goes_on}
use Rattle.reader.proofs.change.check_change.Goals.{then-not-change_field_ok-via-then-not-change_field_ok, then-not-change_field_ok-via-else-not-change_field_ok+then-not-tag_after}
use Rattle.reader.proofs.change.check_change.Goals as goal

pub loop-field-init : goal.loop-field-init
loop-field-init c = let o = c.of-fields.ensures in (o.0, rw (o.1, c.number-last.ensures) (start _))

pub returns-then-not-change_field_ok : goal.returns-then-not-change_field_ok
returns-then-not-change_field_ok c =
    let s = c.in-Some.ensures.steps in
    let f = field-found c.loop-field.invariant.0 s in
    elim c.then-not-change_field_ok.branch [
      | then-not-change_field_ok-via-then-not-change_field_ok w ↦
          sym (bad _ _ _ c.loop-field.invariant.1 _ _ _ f (ap change_field_ok (sym (field-is c.loop-field.invariant.0 s)) ∙ sym c.change_field_ok.ensures ∙ w.if-not-change_field_ok.true))
      | then-not-change_field_ok-via-else-not-change_field_ok+then-not-tag_after w ↦
          sym (back _ _ _ c.loop-field.invariant.1 _ _ _ f (sym w.tag_after.ensures ∙ w.if-not-tag_after.true))
    ]

pub loop-field-preserved : goal.loop-field-preserved
loop-field-preserved c =
    let w = c.in-Some.ensures.steps in
    let f = field-found c.loop-field.invariant.0 w in (
      list-stays c.loop-field.invariant.0 w,
      rw w.at
          (goes_on _ _ _ c.loop-field.invariant.1 _ _ _ f (ap change_field_ok (sym (field-is c.loop-field.invariant.0 w)) ∙ sym c.change_field_ok.ensures ∙ c.if-not-change_field_ok.false)
          (sym c.tag_after.ensures ∙ c.if-not-tag_after.false)),
    )

pub returns-then-at_end : goal.returns-then-at_end
returns-then-at_end c =
    let i = c.loop-field.invariant in
    let w = c.in_default.ensures.steps in
    rw c.number.ensures (ends _ _ _ i.1 (steps-nowhere i.0 w) (ended i.0 w c.if-at_end.ensures))

pub returns-else-at_end : goal.returns-else-at_end
returns-else-at_end c =
    let i = c.loop-field.invariant in
    let w = c.in_default.ensures.steps in
    c.if-at_end.false ∙ ends _ _ _ i.1 (steps-nowhere i.0 w) (ended i.0 w c.if-at_end.ensures)
