use Rattle.std.proofs.Common.{sym, ◌∙◌}
use Rattle.sorting.proofs.EntryLaws.{key-size, bucket-deleted, bucket-stays, key-type}
use Rattle.sorting.proofs.entries.Entry.key_type.Goals as goal

pub type_at-requires : goal.type_at-requires
type_at-requires c = (key-size c.args.self.now.stands c.if-self-ne-BUCKETS.true).1

pub returns-then-self-ne-BUCKETS : goal.returns-then-self-ne-BUCKETS
returns-then-self-ne-BUCKETS c = c.type_at.ensures ∙ key-type c.args.self.now.stands c.if-self-ne-BUCKETS.true

pub returns-then-tag_at-number : goal.returns-then-tag_at-number
returns-then-tag_at-number c =
    c.number-then-tag_at-number.ensures ∙ bucket-deleted c.args.self.now.stands c.if-self-ne-BUCKETS.false (sym c.tag_at.ensures ∙ c.if-tag_at-number.true ∙ c.number.ensures)

pub returns-else-tag_at-number : goal.returns-else-tag_at-number
returns-else-tag_at-number c = bucket-stays c.args.self.now.stands c.if-self-ne-BUCKETS.false (λ e. c.if-tag_at-number.false (c.tag_at.ensures ∙ e ∙ sym c.number.ensures))
