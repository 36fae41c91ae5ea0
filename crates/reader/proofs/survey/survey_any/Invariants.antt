-- What is left of the list decides its layout, no limit was passed yet or one was, and no order is told.
use Rattle.std.proofs.Common.{◌≡◌, length, ◌-◌}
use Rattle.reader.specs.Asked.{call_asked, any_asked}
use Rattle.reader.proofs.SurveyLaws.{Going}
use Rattle.reader.proofs.SurveyStartLaws.{no_order}
use Rattle.reader.proofs.survey.survey_any.Given as goal

abbrev pub invariant-loop-field : goal.invariant-loop-field
invariant-loop-field l =
    (l.fields.list.now ≡ l.s) × Going l.s (call_asked l.asked) (any_asked l.asked) l.fields.at l.head no_order l.table
    × (l.table.index.ghost_name ≡ l.initial.table.index.ghost_name)

abbrev pub decreases-loop-field : goal.decreases-loop-field
decreases-loop-field l = length l.fields.list.now - l.fields.at
