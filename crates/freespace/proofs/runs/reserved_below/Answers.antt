use Rattle.std.proofs.Common.{rules, tests, arith}
use Rattle.std.proofs.lemmas.List.{length-map}
use Rattle.wire.specs.Kinds.{bucket_below}
use Rattle.reader.specs.BucketHere.{bucket_here}
use Rattle.reader.specs.ListedBuckets.{buckets_listed}
use Rattle.freespace.proofs.RunLaws.{rising}
use Rattle.freespace.proofs.FreeLaws.{count-length, below-walked}
use Rattle.freespace.proofs.runs.reserved_below.Goals as goal

pub skip_while-requires-clause-from_within : goal.skip_while-requires-clause-from_within
skip_while-requires-clause-from_within c =
    omega (
      arith,
      c.requires.1,
      count-length c.args.b (buckets_listed c.args.reserved),
      length-map c.args.reserved.places.now (bucket_here c.args.reserved.list.now),
    )

pub returns : goal.returns
returns c =
    below-walked c.args.b _ (rising _ c.requires.0.order) c.requires.1
    (c.skip_while.ensures (λ x. bucket_below x c.args.b) (λ x r k. search (rules, tests)))
