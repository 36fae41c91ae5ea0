use Rattle.std.proofs.Common.{sym, ap, ◌≡◌, ◌∙◌, ℕ, min, length}
use Rattle.wire.specs.Output.{with_bytes}
use Rattle.wire.proofs.AppendLaws.{with-none}
use Rattle.lines.proofs.WordLaws.{value_words, word-put, words-none}
use Rattle.lines.proofs.blanks.put_words.Goals as goal

pub loop-part-init : goal.loop-part-init
loop-part-init c =
    let it = c.into_iter-part-iterator.result in
    let rest : it.rest.now ≡ c.args.value.now = cc (c.into_iter-part-iterator.ensures.into_iter_gives, c.chunks-part-items.ensures.rest) in
    let size : it.size ≡ 8 = cc (c.into_iter-part-iterator.ensures.into_iter_gives, c.chunks-part-items.ensures.size) in
    (size, ap (with_bytes c.args.out.now) (ap value_words rest))

pub loop-part-preserved : goal.loop-part-preserved
loop-part-preserved c =
    let l = c.loop-part in
    let s = c.in-Some.ensures.steps in
    let v = l.part-iterator.rest.now in
    let n = s.1.1 ∙ ap (λ (k : ℕ). min k (length v)) l.invariant.0 in
    (s.0 ∙ l.invariant.0, word-put l.out c.put_next_word.new.out v c.in-Some.part.now _ _ s.1.0 n s.1.2 c.number_of.ensures c.put_next_word.ensures ∙ l.invariant.1)

pub returns : goal.returns
returns c =
    let l = c.loop-part in
    sym (ap (with_bytes l.out) (words-none l.part-iterator.rest.now c.in-None.ensures.steps.1.0) ∙ with-none l.out) ∙ l.invariant.1
