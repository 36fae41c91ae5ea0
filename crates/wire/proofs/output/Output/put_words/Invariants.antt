use Rattle.std.proofs.Common.{◌≡◌, drop}
use Rattle.wire.specs.Numbers.{words_bytes}
use Rattle.wire.specs.Output.{with_bytes}
use Rattle.wire.proofs.output.Output.put_words.Given as goal

abbrev pub invariant-loop-x : goal.invariant-loop-x
invariant-loop-x l = with_bytes l.self (words_bytes (drop l.x-index l.words)) ≡ with_bytes l.fn.self (words_bytes l.words)
