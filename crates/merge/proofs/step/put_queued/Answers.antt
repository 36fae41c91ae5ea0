-- The keys below the queued key, and the key itself.
use Rattle.std.proofs.Common.{ℕ, ap, ◌∙◌}
use Rattle.wire.specs.Output.{with_bytes}
use Rattle.sorting.specs.Entries.{section_bytes}
use Rattle.sorting.specs.EntrySteps.{entry_listed}
use Rattle.merge.specs.Queues.{shown}
use Rattle.merge.proofs.SectionLaws.{put_one}
use Rattle.merge.proofs.step.put_queued.Goals as goal

pub returns : goal.returns
returns c =
    let p = c.pos-pos.ensures in
    let y = c.key_type-ty.ensures in
    let s = c.put_shown.ensures ∙ ap (λ (t : ℕ). with_bytes c.put_below.new.out (section_bytes t (shown (entry_listed c.args.key.now)))) c.requires in
    put_one _ (rw p at c.put_below.ensures) (rw p at c.skip_at.ensures) s (rw (p, y) at c.add_shown.ensures)
