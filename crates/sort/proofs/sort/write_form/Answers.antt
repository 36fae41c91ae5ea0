use Rattle.std.proofs.Common.{arith, ◌∙◌}
use Rattle.sort.proofs.OutcomeLaws.{all_placed, form-counted, form-answered}
use Rattle.sort.proofs.sort.write_form.Goals as goal

pub new-form-requires : goal.new-form-requires
new-form-requires c = all_placed c.requires

pub written_of_length-requires : goal.written_of_length-requires
written_of_length-requires c = rw c.new-form.ensures (form-counted c.requires (omega arith))

pub returns : goal.returns
returns c = rw c.new-form.ensures at c.written_of_length.ensures ∙ form-answered c.requires c.args.out.now
