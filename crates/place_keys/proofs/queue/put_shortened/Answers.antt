use Rattle.std.proofs.Common.{◌≡◌, ap, refl, ◌∙◌}
use Rattle.wire.specs.Keys.{Key}
use Rattle.wire.specs.Held.{key_in}
use Rattle.calls.specs.Freespace.{shortened}
use Rattle.wire.specs.Encode.{encode_field, key_field}
use Rattle.wire.specs.Output.{with_bytes}
use Rattle.reader.specs.ListedKeys.{key_listed}
use Rattle.place_keys.proofs.QueueLaws.{kept, deleted}
use Rattle.place_keys.proofs.queue.put_shortened.Goals as goal

pub returns-then-left-eq0 : goal.returns-then-left-eq0
returns-then-left-eq0 c =
    rw (c.put_deletion.ensures, c.tag.ensures, c.pos.ensures, deleted (key_listed c.args.run.now) c.if-left-eq0.true) refl

pub returns : goal.returns
returns c =
    let e : record (key_in c.key-k.result) { size = c.args.left } ≡ shortened (key_listed c.args.run.now) c.args.left =
    ap (λ (k : Key). record k { size = c.args.left }) c.key-k.ensures ∙ kept (key_listed c.args.run.now) c.if-left-eq0.false in
    rw c.tag-2.ensures at c.put_key.ensures ∙ ap (λ x. with_bytes c.args.out.now (encode_field (key_field 11 x))) e
