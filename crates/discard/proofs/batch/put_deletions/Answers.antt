use mathlib.Core.List.{flat_map}
use Rattle.std.proofs.Common.{ℕ, List, refl, ◌∙◌}
use Rattle.wire.specs.Encode.{key_field}
use Rattle.wire.specs.Keys.{Key}
use Rattle.calls.specs.Discard.{waiting_deletions}
use Rattle.change_fields.specs.FieldBytes.{keys_bytes}
use Rattle.change_fields.proofs.FieldLists.{flat-next, flat-none}
use Rattle.discard.specs.Emitted.{buckets_of}
use Rattle.discard.proofs.EmitLaws.{walk-turn, walk-end, shown-all, shown-here, shown-left}
use Rattle.discard.proofs.batch.put_deletions.Goals as goal

abbrev bytes : List Key → List Key → List ℕ
bytes needs ks = keys_bytes 12 (flat_map (waiting_deletions needs) (buckets_of ks))

pub loop-key-init : goal.loop-key-init
loop-key-init c = rw (c.into_iter-key-iterator.ensures.into_iter_gives, c.iter-key-items.ensures) (shown-all c.args.d.now.shown, refl)

pub put_waiting-requires : goal.put_waiting-requires
put_waiting-requires c = shown-here c.in-Some.ensures.steps.keys c.loop-key.invariant.0

pub loop-key-preserved : goal.loop-key-preserved
loop-key-preserved c =
    let needs = c.args.d.now.waiting.now in
    let i = c.loop-key.invariant in
    let s = c.in-Some.ensures.steps.keys in
    (shown-left s i.0, walk-turn (bytes needs) _ c.loop-key.out c.put_waiting.new.out s (flat-next (key_field 12) (waiting_deletions needs) refl) c.put_waiting.ensures ∙ i.1)

pub returns : goal.returns
returns c =
    let needs = c.args.d.now.waiting.now in
    walk-end (bytes needs) c.loop-key.out c.in-None.ensures.steps (flat-none (key_field 12) (waiting_deletions needs) refl) ∙ c.loop-key.invariant.1
