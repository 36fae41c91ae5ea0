-- A deletion is not written; another key is, as it stands.
use Rattle.std.proofs.Common.{◌≡◌, refl, rules, length, sym, ap, ◌∙◌}
use Rattle.wire.specs.Output.{with_bytes}
use Rattle.wire.proofs.NumberLaws.{bytes-from, body-length}
use Rattle.wire.proofs.AppendLaws.{with-none, with-with}
use Rattle.sorting.specs.EntryPlaces.{size_at}
use Rattle.merge.proofs.MergeLaws.{shown-none, shown-bytes}
use Rattle.merge.proofs.step.put_shown.Goals as goal

pub returns-then-ty-number : goal.returns-then-ty-number
returns-then-ty-number c =
    let k = c.args.key.now in
    let b = rw c.body-body.ensures at (bytes-from c.body-body.result.now (λ i. search rules)) in
    let n : length c.body-body.result.now ≡ size_at k.list.now k.at =
    ap length c.body-body.ensures ∙ body-length k.list.now k.at (size_at k.list.now k.at) k.stands.within in
    rw (c.put_slice.ensures, c.put_head.ensures, n, c.body-body.ensures, with-with)
    (ap (with_bytes c.args.out.now) (shown-bytes b k.stands (λ z. c.if-ty-number.true (c.requires ∙ z ∙ sym c.number.ensures)) refl))

pub returns-else-ty-number : goal.returns-else-ty-number
returns-else-ty-number c =
    sym (ap (with_bytes c.args.out.now) (shown-none c.args.key.now.section _ (sym c.requires ∙ (c.if-ty-number.false ∙ c.number.ensures))) ∙ with-none c.args.out.now)
