use Rattle.std.proofs.Common.{sym, ◌∙◌}
use Rattle.calls.specs.ChangeList.{spot_field}
use Rattle.calls.specs.Place.{spot_at}
use Rattle.place_keys.proofs.WalkLaws.{field-put, fields-put}
use Rattle.place_keys.proofs.spots.put_spots.Goals as goal

pub loop-p-preserved : goal.loop-p-preserved
loop-p-preserved c = field-put spot_field spot_at c.loop-p.out c.in-Some.ensures.steps.0 c.put_spot.ensures ∙ c.loop-p.invariant

pub returns : goal.returns
returns c = sym (fields-put spot_field spot_at c.loop-p.out c.in-None.ensures.steps) ∙ c.loop-p.invariant
