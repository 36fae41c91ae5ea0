use Rattle.std.proofs.Common.{◌≡◌}
use Rattle.wire.specs.Output.{with_bytes}
use Rattle.lines.proofs.WordLaws.{value_words}
use Rattle.lines.proofs.blanks.put_words.Given as goal

abbrev pub invariant-loop-part : goal.invariant-loop-part
invariant-loop-part l =
    (l.part-iterator.size ≡ 8) × (with_bytes l.out (value_words l.part-iterator.rest.now) ≡ with_bytes l.fn.out (value_words l.value))
