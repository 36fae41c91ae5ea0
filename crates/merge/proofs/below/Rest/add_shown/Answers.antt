-- A deletion is not counted.
use Rattle.std.proofs.Common.{refl, sym, ◌∙◌, arith}
use borrow.Author.Tests.{eq-eqb, ne_eqb}
use Rattle.merge.specs.Counts.{count_queued}
use Rattle.merge.proofs.below.Rest.add_shown.Goals as goal

pub returns-then-ty-number : goal.returns-then-ty-number
unfolding count_queued
returns-then-ty-number c =
    rw (← c.self.view_is) (record { section = refl; keys = refl; counted = rw (ne_eqb c.args.ty 0 (λ e. c.if-ty-number.true (e ∙ sym c.number.ensures))) c.add-self-inside.ensures })

pub returns-else-ty-number : goal.returns-else-ty-number
unfolding count_queued
returns-else-ty-number c = record { section = refl; keys = refl; counted = rw (eq-eqb c.args.ty 0 (c.if-ty-number.false ∙ c.number.ensures)) (omega arith) }
