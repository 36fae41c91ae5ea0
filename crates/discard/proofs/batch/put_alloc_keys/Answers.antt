use Rattle.std.proofs.Common.{ℕ, List, refl, ◌∙◌}
use Rattle.std.specs.Prelude.{map}
use Rattle.wire.specs.Keys.{Key}
use Rattle.wire.proofs.EncodeLaws.{encode-none, encode-next}
use Rattle.change_fields.specs.FieldBytes.{keys_bytes}
use Rattle.discard.specs.Emitted.{discarded_key}
use Rattle.discard.proofs.EmitLaws.{walk-turn, walk-end, shown-all, shown-here, shown-left}
use Rattle.discard.proofs.batch.put_alloc_keys.Goals as goal

abbrev bytes : List Key → List ℕ
bytes ks = keys_bytes 4 (map discarded_key ks)

pub loop-key-init : goal.loop-key-init
loop-key-init c = rw (c.into_iter-key-iterator.ensures.into_iter_gives, c.iter-key-items.ensures) (shown-all c.args.d.now.shown, refl)

pub put_alloc_key-requires : goal.put_alloc_key-requires
put_alloc_key-requires c = shown-here c.in-Some.ensures.steps.keys c.loop-key.invariant.0

pub loop-key-preserved : goal.loop-key-preserved
loop-key-preserved c =
    let i = c.loop-key.invariant in
    let s = c.in-Some.ensures.steps.keys in
    (shown-left s i.0, walk-turn bytes _ c.loop-key.out c.put_alloc_key.new.out s (encode-next _ _) c.put_alloc_key.ensures ∙ i.1)

pub returns : goal.returns
returns c = walk-end bytes c.loop-key.out c.in-None.ensures.steps encode-none ∙ c.loop-key.invariant.1
