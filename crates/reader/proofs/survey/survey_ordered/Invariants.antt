-- Field 1 stands first, the fields passed are in order, what is left of the list decides its layout, and no limit was passed yet or one was.
use Rattle.std.proofs.Common.{◌≡◌, length, Some, ◌-◌}
use Rattle.wire.specs.FieldsFound.{field_in}
use Rattle.reader.specs.Asked.{call_asked, any_asked}
use Rattle.reader.proofs.SurveyLaws.{Going}
use Rattle.reader.proofs.survey.survey_ordered.Given as goal

abbrev pub invariant-loop-field : goal.invariant-loop-field
invariant-loop-field l =
    (l.fields.list.now ≡ l.s)
    × Going l.s (call_asked l.fn.asked) (any_asked l.fn.asked) l.fields.at (Some l.head_field.start) (field_in l.last) l.table
    × (l.last.tag ≡ 255 → ⊥) × (l.table.index.ghost_name ≡ l.initial.table.index.ghost_name)

abbrev pub decreases-loop-field : goal.decreases-loop-field
decreases-loop-field l = length l.fields.list.now - l.fields.at
