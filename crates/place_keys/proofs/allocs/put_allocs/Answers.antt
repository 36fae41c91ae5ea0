use Rattle.std.proofs.Common.{arith, sym, ap, ◌≡◌, ◌<◌, ◌+◌, ◌∙◌, map, length, get_or, [], ◌∷◌, ◌++◌, length-append}
use lib.ListN.{drop_of_length-le}
use Rattle.std.proofs.lemmas.Iterator.Consumers.{YieldsList-end}
use Rattle.std.proofs.lemmas.Slice.Zip.{length-zip, get_or-zip}
use Rattle.std.specs.List.{zip}
use Rattle.wire.specs.Encode.{encode_field, key_field}
use Rattle.wire.specs.Kinds.{no_bucket}
use Rattle.wire.specs.Output.{with_bytes}
use Rattle.wire.proofs.OutputLaws.{drop-next}
use Rattle.calls.specs.Answers.{read_call, read_volume}
use Rattle.calls.specs.Place.{placed_of, new_alloc_key}
use Rattle.change_fields.proofs.FieldLists.{fields-next, fields-none}
use Rattle.place_keys.proofs.StepLaws.{bucket-at, gens-length}
use Rattle.place_keys.proofs.BucketLaws.{alloc-key}
use Rattle.place_keys.proofs.WalkLaws.{run-put, all-put}
use Rattle.place_keys.proofs.ZipLaws.{pair-turn, three-slices}
use Rattle.place_keys.proofs.allocs.put_allocs.Goals as goal

pub loop-b-preserved : goal.loop-b-preserved
loop-b-preserved c =
    let i = length c.loop-b.yielded in
    let plan = c.args.counted.now.plan.now in
    let bs = plan.taken.now in
    let gs = plan.gens.now in
    let ds = c.args.counted.now.dirty.now in
    let s = plan.list.now in
    let chain =
    three-slices bs gs ds c.into_iter-b-iterator.ensures.into_iter_gives c.zip-buckets.ensures.first c.zip.ensures.first c.iter.ensures.rest c.zip.ensures.second.0
    c.zip-buckets.ensures.second.0 in
    let turn = pair-turn (zip bs gs) ds chain c.loop-b.yielded c.loop-b.b-iterator c.loop-b.yielded_by c.next.result c.next.new.self _ c.in-Some.is c.next.ensures.steps in
    let low : i < length bs = omega (arith, turn.0, length-zip bs gs) in
    let here = turn.2 (no_bucket, 0) ∙ get_or-zip bs gs i (no_bucket, 0) low (omega (arith, low, gens-length plan.planned)) in
    let b : c.in-Some.b.now ≡ get_or bs i no_bucket = ap (λ p. p.0) here in
    let generation : c.in-Some.generation.now ≡ get_or gs i 0 = ap (λ p. p.1) here in
    let dirty : c.in-Some.dirty.now ≡ get_or ds i 0 = turn.3 0 in
    let more : length (c.loop-b.yielded ++ ((c.in-Some.b, c.in-Some.generation), c.in-Some.dirty) ∷ []) ≡ i + 1 = length-append c.loop-b.yielded _ in
    let k = alloc-key plan.planned i c.requires c.args.counted.now.counted low (bucket-at bs i) in
    rw more
    (run-put c.loop-b.out _ _ (fields-next (key_field 4) (ap (map (new_alloc_key (read_volume s) (placed_of (read_call s)))) (drop-next no_bucket bs i low)))
    ((rw (b, generation, dirty) at c.put_alloc.ensures) ∙ ap (λ x. with_bytes c.loop-b.out (encode_field (key_field 4 x))) k)
    ∙ c.loop-b.invariant)

pub returns : goal.returns
returns c =
    let plan = c.args.counted.now.plan.now in
    let bs = plan.taken.now in
    let gs = plan.gens.now in
    let ds = c.args.counted.now.dirty.now in
    let s = plan.list.now in
    let chain =
    three-slices bs gs ds c.into_iter-b-iterator.ensures.into_iter_gives c.zip-buckets.ensures.first c.zip.ensures.first c.iter.ensures.rest c.zip.ensures.second.0
    c.zip-buckets.ensures.second.0 in
    let end = YieldsList-end chain c.loop-b.yielded c.loop-b.b-iterator c.loop-b.yielded_by c.next.result c.next.new.self c.in-None.is c.next.ensures.steps in
    let none = drop_of_length-le bs {i = length c.loop-b.yielded} (omega (arith, end.1, length-zip (zip bs gs) ds, length-zip bs gs, gens-length plan.planned, c.args.counted.now.counted.long)) in
    sym (all-put c.loop-b.out (fields-none (key_field 4) (ap (map (new_alloc_key (read_volume s) (placed_of (read_call s)))) none)))
    ∙ c.loop-b.invariant
