use Rattle.std.proofs.Common.{arith, ap, sym, ◌≡◌, ◌+◌, ◌*◌, length}
use Rattle.wire.specs.Numbers.{words_bytes}
use Rattle.wire.specs.Output.{with_bytes}
use Rattle.wire.proofs.EncodeLaws.{words_count}
use Rattle.wire.proofs.AppendLaws.{with-with, key-parts}
use Rattle.wire.proofs.output.Output.put_words_key.Goals as goal

pub returns : goal.returns
returns c =
    let w = c.args.words.now in
    let n : 37 + 8 * length w ≡ 37 + length (words_bytes w) = omega (arith, words_count w) in
    rw (c.put_words.ensures, c.put_key_start.ensures, c.put_head.ensures, with-with, with-with, n)
    (ap (with_bytes c.args.self.now) (sym (key-parts c.args.tree c.args.h (words_bytes w))))
