use Rattle.std.proofs.Common.{rules, tests, sym, ◌∙◌}
use lib.Dec.{ltb}
use Rattle.std.proofs.lemmas.List.Sorted.{answers_always}
use Rattle.wire.specs.Kinds.{bucket_below, bucket_is, buckets_in}
use Rattle.calls.proofs.lists.AdjacentLaws.{adjacent-order}
use Rattle.calls.proofs.lists.OrderLaws.{order-map}
use Rattle.generations.proofs.buckets.ascend.Goals as goal

pub returns : goal.returns
unfolding buckets_in
returns c =
    let ns = c.args.buckets.now in
    adjacent-order ltb ns c.is_sorted_by.result (c.is_sorted_by.ensures.cases ltb (answers_always _ _ _ (λ f a r q k. search (rules, tests))))
    ∙ sym (order-map bucket_below bucket_is ns)
