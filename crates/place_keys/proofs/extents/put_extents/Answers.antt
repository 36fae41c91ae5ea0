use Rattle.std.proofs.Common.{sym, ◌∙◌}
use Rattle.wire.specs.Encode.{key_field}
use Rattle.calls.specs.Extents.{extent_key}
use Rattle.reader.specs.Heads.{head_in}
use Rattle.place_keys.proofs.WalkLaws.{field-put, fields-put}
use Rattle.place_keys.proofs.extents.put_extents.Goals as goal

pub loop-p-preserved : goal.loop-p-preserved
loop-p-preserved c = field-put (key_field 0) (extent_key (head_in c.args.plan.now.head)) c.loop-p.out c.in-Some.ensures.steps.0 c.put_extent.ensures ∙ c.loop-p.invariant

pub returns : goal.returns
returns c = sym (fields-put (key_field 0) (extent_key (head_in c.args.plan.now.head)) c.loop-p.out c.in-None.ensures.steps) ∙ c.loop-p.invariant
