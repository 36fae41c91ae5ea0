-- What the run into no room tells.
use Rattle.std.proofs.Common.{arith, ◌∙◌}
use Rattle.apply.proofs.ResultLaws.{gives-3, gives-rest, run-length}
use Rattle.apply.proofs.lists.NextVolume.write.Goals as goal

pub returns-then-not-put : goal.returns-then-not-put
returns-then-not-put c = gives-3 c.put.ensures c.args.out.now c.if-not-put.true

pub written_of_length-requires : goal.written_of_length-requires
written_of_length-requires c = omega (arith, run-length c.put.ensures c.args.out.now c.new-dry.ensures.front)

pub returns : goal.returns
returns c = c.written_of_length.ensures ∙ gives-rest c.put.ensures c.args.out.now c.if-not-put.false
