use Rattle.std.proofs.Common.{arith, sym, ap, ◌∙◌, ◌≡◌, take, length, length-take}
use Rattle.wire.specs.Encode.{key_field}
use Rattle.wire.specs.Output.{with_bytes}
use Rattle.change_fields.proofs.FieldLists.{fields-none}
use Rattle.reader.specs.ListedKeys.{key_listed, keys_listed}
use Rattle.reader.specs.declared.listed_keys.Keys.{Keys}
use Rattle.place_keys.proofs.QueueLaws.{queue_bytes, queue_with, passed-turn, queue-is, passed_none}
use Rattle.place_keys.proofs.WalkLaws.{all-put}
use Rattle.place_keys.proofs.queue.put_queue.Goals as goal

pub loop-key-init : goal.loop-key-init
loop-key-init c =
    let n = c.args.walked.passed in
    let ks = c.args.runs.now in
    let k = c.in-Some.ensures.steps in
    let places : c.iter-before.result.keys.places.now ≡ take n ks.places.now = ap (λ (x : Keys). x.places.now) c.iter-before.ensures ∙ c.up_to.ensures.1 in
    let list : c.iter-before.result.keys.list.now ≡ ks.list.now = ap (λ (x : Keys). x.list.now) c.iter-before.ensures ∙ c.up_to.ensures.0 in
    rw (c.into_iter-key-iterator.ensures.into_iter_gives, k.same, k.list, list)
    (ap (λ l. with_bytes c.args.out.now (queue_bytes l)) (sym (queue-is ks.list.now ks.places.now _ _ n c.args.walked.left c.requires (sym places ∙ k.places))))

pub loop-key-preserved : goal.loop-key-preserved
loop-key-preserved c =
    passed-turn c.loop-key.out (key_listed c.in-Some.last) c.args.walked.left c.in-Some-key.ensures.steps.keys c.put_passed.ensures ∙ c.loop-key.invariant

pub returns : goal.returns
returns c =
    let left = c.args.walked.left in
    c.put_passed-2.ensures
    ∙ sym (ap (λ ks. with_bytes c.loop-key.out (queue_bytes (queue_with ks (key_listed c.in-Some.last) left))) c.in-None.ensures.steps)
    ∙ c.loop-key.invariant

pub returns-in_default : goal.returns-in_default
returns-in_default c =
    let n = c.args.walked.passed in
    let ks = c.args.runs.now in
    let places : c.iter-before.result.keys.places.now ≡ take n ks.places.now = ap (λ (x : Keys). x.places.now) c.iter-before.ensures ∙ c.up_to.ensures.1 in
    let none = sym places ∙ c.in_default.ensures.steps in
    sym (all-put c.args.out.now (fields-none (key_field 11) (passed_none (keys_listed ks) c.args.walked.left (omega (arith, ap length none, c.requires, length-take n ks.places.now)))))
