use Rattle.std.proofs.Common.{ap, ◌∙◌}
use Rattle.wire.specs.declared.output.Output.{Output}
use Rattle.reader.proofs.AnswerLaws.{counted}
use Rattle.reader.proofs.answer.emitted_length.Goals as goal

pub returns : goal.returns
returns g c = ap (λ (o : Output). o.at) c.emit.ensures ∙ counted _ _ c.new-counted.ensures.front
