use Rattle.std.proofs.Common.{arith, refl, sym, ◌∙◌}
use Rattle.wire.specs.Numbers.{each, words_bytes}
use Rattle.wire.proofs.AppendLaws.{loop-turn, loop-end}
use Rattle.wire.proofs.output.Output.put_words.Goals as goal

pub loop-x-preserved : goal.loop-x-preserved
unfolding words_bytes each
loop-x-preserved c =
    loop-turn words_bytes c.args.words.now c.loop-x.x-index 0 _ c.loop-x.self c.put_u64.new.self (omega arith) refl c.put_u64.ensures ∙ c.loop-x.invariant

pub returns : goal.returns
unfolding words_bytes each
returns c = sym (loop-end words_bytes c.args.words.now c.loop-x.x-index c.loop-x.self (omega arith) refl) ∙ c.loop-x.invariant
