use Rattle.std.proofs.Common.{arith, refl, get_or, sym, ap, ◌∙◌, [], length, ◌/◌}
use Rattle.wire.specs.Numbers.{each}
use Rattle.wire.specs.Output.{with_bytes}
use Rattle.wire.proofs.AppendLaws.{loop-turn, loop-end}
use Rattle.wire.proofs.NumberLaws.{bytes-from}
use Rattle.lines.proofs.WordLaws.{number_word, numbers-parts, chunk-bytes, signed-read}
use Rattle.lines.proofs.blanks.put_numbers.Goals as goal

pub loop-x-preserved : goal.loop-x-preserved
unfolding each
loop-x-preserved c =
    let parts = c.as_chunks.result.0.now in
    let s = c.args.s.now in
    let x = get_or parts c.loop-x.x-index [] in
    let bytes = rw (sym c.as_chunks.ensures.front) at (chunk-bytes (length s / 8) s (bytes-from s (λ i. let h = c.type_inv.s i in omega arith)) c.loop-x.x-index) in
    let put = rw (signed-read x c.from_le_bytes.result bytes c.from_le_bytes.ensures) at c.put_next_signed.ensures in
    loop-turn (each number_word) parts c.loop-x.x-index [] _ c.loop-x.out c.put_next_signed.new.out (omega arith) refl put ∙ c.loop-x.invariant

pub returns : goal.returns
unfolding each
returns c =
    let parts = c.as_chunks.result.0.now in
    let s = c.args.s.now in
    sym (loop-end (each number_word) parts c.loop-x.x-index c.loop-x.out (omega arith) refl) ∙ c.loop-x.invariant
    ∙ ap (with_bytes c.args.out.now) (ap (each number_word) c.as_chunks.ensures.front ∙ numbers-parts (length s / 8) s)
