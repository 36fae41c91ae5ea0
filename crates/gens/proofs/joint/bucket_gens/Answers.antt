use Rattle.std.proofs.Common.{sym, arith, ◌∙◌}
use Rattle.std.proofs.lemmas.List.{length-map}
use borrow.Author.Tests.{eqb-true, eqb-false}
use Rattle.reader.specs.KeyHere.{key_here}
use Rattle.gens.proofs.LookupLaws.{look-found, gen-read}
use Rattle.gens.proofs.LookingLaws.{named-count, named-at, looking-within, looking-known, looking-next, looked-none, looked-some}
use Rattle.gens.proofs.joint.bucket_gens.Goals as goal

pub keys_up_to-k-requires : goal.keys_up_to-k-requires
keys_up_to-k-requires g c =
    let ns = c.args.buckets.now in
    let each = g.met.N.BucketNumber.each_named ns in
    let next = named-at _ ns each c.loop-i.i c.loop-i-test.true c.index-buckets-i.is c.bucket-b.ensures in
    looking-known _ _ c.loop-i.invariant next c.requires.buckets_value.0 (omega (arith, named-count _ ns each, c.loop-i-test.true))

pub loop-i-preserved : goal.loop-i-preserved
loop-i-preserved g c =
    let ns = c.args.buckets.now in
    let each = g.met.N.BucketNumber.each_named ns in
    let count = named-count _ ns each in
    let next = named-at _ ns each c.loop-i.i c.loop-i-test.true c.index-buckets-i.is c.bucket-b.ensures in
    looking-next _ _ c.loop-i.invariant next c.keys_up_to-k.result c.record_gen.result (omega (arith, count, c.loop-i-test.true))
    (omega (arith, count, c.requires.buckets_value.1)) c.keys_up_to-k.ensures
    (c.record_gen.ensures ∙ gen-read _ _ (look-found _ _ c.record_up_to.ensures))

pub returns-then-is_empty : goal.returns-then-is_empty
returns-then-is_empty g c =
    let count = named-count _ c.args.buckets.now (g.met.N.BucketNumber.each_named c.args.buckets.now) in
    looked-none _ _ c.loop-i.invariant c.requires.buckets_value.0 c.requires.keys_value (omega (arith, count, c.loop-i-test.false))
    (count ∙ eqb-true _ 0 (sym c.if-is_empty.ensures))

pub overflow_add-k : goal.overflow_add-k
overflow_add-k g c =
    omega (arith, looking-within _ _ c.loop-i.invariant, length-map c.args.gens.places.now (key_here c.args.gens.list.now))

pub returns-else-is_empty : goal.returns-else-is_empty
returns-else-is_empty g c =
    let count = named-count _ c.args.buckets.now (g.met.N.BucketNumber.each_named c.args.buckets.now) in
    looked-some _ _ c.loop-i.invariant c.requires.buckets_value.0 c.requires.keys_value (omega (arith, count, c.loop-i-test.false))
    (λ none. eqb-false _ 0 (sym c.if-is_empty.ensures) (sym count ∙ none)) (omega (arith, length-map c.args.gens.places.now (key_here c.args.gens.list.now)))
