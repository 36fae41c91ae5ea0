use Rattle.std.proofs.Common.{◌≡◌, drop}
use Rattle.wire.specs.Numbers.{each}
use Rattle.wire.specs.Output.{with_bytes}
use Rattle.lines.proofs.WordLaws.{number_word}
use Rattle.lines.proofs.blanks.put_numbers.Given as goal

abbrev pub invariant-loop-x : goal.invariant-loop-x
invariant-loop-x l = with_bytes l.out (each number_word (drop l.x-index l.parts)) ≡ with_bytes l.fn.out (each number_word l.parts)
