use Rattle.std.proofs.Common.{arith, sym, ap, ◌∙◌, map, drop, get_or, Bool, ℕ, ◌≡◌, ◌||◌, ◌+◌, length, [], ◌∷◌, ◌++◌, length-append}
use lib.ListN.{drop_of_length-le}
use Rattle.std.proofs.lemmas.Iterator.Consumers.{YieldsList-end}
use Rattle.std.proofs.lemmas.Slice.Zip.{length-zip}
use Rattle.std.specs.Int.NonZero.{non_zero_u64_get}
use Rattle.wire.specs.Encode.{key_field}
use Rattle.wire.specs.Kinds.{no_bucket}
use Rattle.wire.specs.declared.kinds.Bucket.{Bucket}
use Rattle.wire.specs.Output.{with_bytes}
use Rattle.wire.proofs.OutputLaws.{drop-next}
use Rattle.calls.specs.Lru.{part_filled, lru_keys, lru_wanted}
use Rattle.calls.specs.Place.{dirty_in}
use Rattle.change_fields.specs.FieldBytes.{keys_bytes}
use Rattle.change_fields.proofs.FieldLists.{flat-next, flat-none}
use Rattle.place_keys.proofs.StepLaws.{bucket-at}
use Rattle.place_keys.proofs.RootLaws.{wanted-next, wanted-none}
use Rattle.place_keys.proofs.WalkLaws.{run-put, all-put}
use Rattle.place_keys.proofs.ZipLaws.{pair-turn, two-slices}
use Rattle.place_keys.proofs.lru.put_lrus.Goals as goal

pub loop-b-preserved : goal.loop-b-preserved
loop-b-preserved c = λ ps d.
    let i = length c.loop-b.yielded in
    let bs = c.args.taken.now in
    let n = non_zero_u64_get c.args.sectors in
    let b = get_or bs i no_bucket in
    let ds = c.args.dirty.now in
    let chain = two-slices bs ds c.into_iter-b-iterator.ensures.into_iter_gives c.zip-b-items.ensures.first c.iter.ensures.rest c.zip-b-items.ensures.second.0 in
    let turn = pair-turn bs ds chain c.loop-b.yielded c.loop-b.b-iterator c.loop-b.yielded_by c.next.result c.next.new.self _ c.in-Some.is c.next.ensures.steps in
    let next = drop-next no_bucket bs i turn.0 in
    let more : length (c.loop-b.yielded ++ (c.in-Some.b, c.in-Some.stored) ∷ []) ≡ i + 1 = length-append c.loop-b.yielded _ in
    let e : c.in-Some.stored.now ≡ dirty_in ps b = turn.3 0 ∙ d.at i turn.0 ∙ ap (dirty_in ps) (sym (bucket-at bs i)) in
    let q = c.loop-b.invariant ps d in
    rw more (
      run-put c.loop-b.out _ _ (flat-next (key_field 10) (λ a. lru_keys n a (dirty_in ps a)) next)
          (c.put_lru-root_wanted.ensures.0 ∙ ap (λ (y : Bucket). with_bytes c.loop-b.out (keys_bytes 10 (lru_keys n y c.in-Some.stored.now))) (turn.2 no_bucket) ∙ ap (λ (z : ℕ). with_bytes c.loop-b.out (keys_bytes 10 (lru_keys n b z))) e)
          ∙ q.0,
      ap (λ (t : Bool). (c.loop-b.root_wanted || t) || lru_wanted n (map (dirty_in ps) (drop (i + 1) bs))) (c.put_lru-root_wanted.ensures.1 ∙ ap (part_filled n) e)
          ∙ wanted-next n (dirty_in ps) c.loop-b.root_wanted next q.1,
    )

-- where the loop ends, no bucket is left
pub returns-clause-keys : goal.returns-clause-keys
returns-clause-keys c = λ ps d.
    let bs = c.args.taken.now in
    let ds = c.args.dirty.now in
    let chain = two-slices bs ds c.into_iter-b-iterator.ensures.into_iter_gives c.zip-b-items.ensures.first c.iter.ensures.rest c.zip-b-items.ensures.second.0 in
    let end = YieldsList-end chain c.loop-b.yielded c.loop-b.b-iterator c.loop-b.yielded_by c.next.result c.next.new.self c.in-None.is c.next.ensures.steps in
    let none = drop_of_length-le bs {i = length c.loop-b.yielded} (omega (arith, end.1, length-zip bs ds, d.long)) in
    sym (all-put c.loop-b.out (flat-none (key_field 10) (λ b. lru_keys (non_zero_u64_get c.args.sectors) b (dirty_in ps b)) none)) ∙ (c.loop-b.invariant ps d).0

pub returns-clause-root : goal.returns-clause-root
returns-clause-root c = λ ps d.
    let bs = c.args.taken.now in
    let ds = c.args.dirty.now in
    let chain = two-slices bs ds c.into_iter-b-iterator.ensures.into_iter_gives c.zip-b-items.ensures.first c.iter.ensures.rest c.zip-b-items.ensures.second.0 in
    let end = YieldsList-end chain c.loop-b.yielded c.loop-b.b-iterator c.loop-b.yielded_by c.next.result c.next.new.self c.in-None.is c.next.ensures.steps in
    let none = drop_of_length-le bs {i = length c.loop-b.yielded} (omega (arith, end.1, length-zip bs ds, d.long)) in
    wanted-none (non_zero_u64_get c.args.sectors) (dirty_in ps) c.loop-b.root_wanted none (c.loop-b.invariant ps d).1
