use Rattle.std.proofs.Common.{◌∙◌, ap}
use Rattle.wire.proofs.FieldStepLaws.{field-found, field-is, list-stays, none-here}
use Rattle.reader.specs.Bodies.{change_field_ok}
use Rattle.lines.proofs.LineLaws.{left-all, field-here, left-more, left-none}
use Rattle.lines.proofs.change_lines.put_lines.Goals as goal

pub loop-field-init : goal.loop-field-init
loop-field-init c =
    let o = c.of-field-items.ensures in
    rw c.into_iter-field-iterator.ensures.into_iter_gives (o.0, rw o.1 (left-all c.args.change.now c.args.out.now c.requires))

pub put_line-requires : goal.put_line-requires
put_line-requires c =
    let i = c.loop-field.invariant in
    let w = c.in-Some.ensures.steps in
    ap change_field_ok (field-is i.0 w) ∙ field-here i.1 (field-found i.0 w)

pub loop-field-preserved : goal.loop-field-preserved
loop-field-preserved c =
    let w = c.in-Some.ensures.steps in
    let i = c.loop-field.invariant in
    (list-stays i.0 w, rw w.at (left-more i.1 (field-found i.0 w) c.put_line.new.out (rw (field-is i.0 w) at c.put_line.ensures)))

pub returns : goal.returns
returns c = let i = c.loop-field.invariant in left-none i.1 (none-here i.0 c.in-None.ensures.steps)
