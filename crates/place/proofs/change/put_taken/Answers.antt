use Rattle.std.proofs.Common.{arith, sym, ◌∙◌}
use lib.ListN.{drop_of_length-le}
use Rattle.wire.specs.Kinds.{no_bucket}
use Rattle.wire.proofs.OutputLaws.{drop-next}
use Rattle.calls.specs.ChangeList.{taken_field}
use Rattle.change_fields.proofs.FieldLists.{fields-next, fields-none}
use Rattle.place_keys.proofs.WalkLaws.{run-put, all-put}
use Rattle.place.proofs.change.put_taken.Goals as goal

pub loop-b-preserved : goal.loop-b-preserved
loop-b-preserved c =
    run-put c.loop-b.out _ _ (fields-next taken_field (drop-next no_bucket c.args.taken.now c.loop-b.b-index (omega arith))) (rw c.number.ensures at c.put_bucket.ensures) ∙ c.loop-b.invariant

pub returns : goal.returns
returns c = sym (all-put c.loop-b.out (fields-none taken_field (drop_of_length-le c.args.taken.now {i = c.loop-b.b-index} (omega arith)))) ∙ c.loop-b.invariant
