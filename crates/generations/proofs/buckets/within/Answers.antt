use Rattle.std.proofs.Common.{rules, tests, arith, ◌∙◌, length}
use borrow.Author.Tests.{lt-leb}
use Rattle.generations.proofs.AskedLaws.{too_many, by-last}
use Rattle.generations.proofs.buckets.within.Goals as goal

pub returns-then-buckets-le-MOST_BUCKETS : goal.returns-then-buckets-le-MOST_BUCKETS
returns-then-buckets-le-MOST_BUCKETS c =
    by-last c.args.buckets.now c.last.result c.is_none_or.result c.last.ensures.value c.requires (omega arith)
    (λ e. rw e at c.is_none_or.ensures)
    (λ x e. let p = rw e at c.is_none_or.ensures in search (rules, tests))

pub returns-else-buckets-le-MOST_BUCKETS : goal.returns-else-buckets-le-MOST_BUCKETS
returns-else-buckets-le-MOST_BUCKETS c =
    lt-leb (length c.args.buckets.now) 1024 (omega arith) ∙ too_many c.args.buckets.now (omega arith)
