use Rattle.std.proofs.Common.{sym, ap, ◌∙◌}
use Rattle.wire.specs.Encode.{key_field}
use Rattle.wire.specs.Output.{with_bytes}
use Rattle.wire.proofs.EncodeLaws.{encode_one}
use Rattle.reader.specs.ListedKeys.{key_listed}
use Rattle.change_fields.proofs.FieldLists.{fields-none}
use Rattle.place_keys.proofs.QueueLaws.{queue_bytes, passed-run, passed-other}
use Rattle.place_keys.proofs.WalkLaws.{all-put}
use Rattle.place_keys.proofs.queue.put_passed.Goals as goal

pub returns-then-is_run : goal.returns-then-is_run
returns-then-is_run c =
    let e = passed-run (key_listed c.args.key.now) c.args.left (sym c.is_run.ensures ∙ c.if-is_run.true) in
    c.put_shortened.ensures ∙ ap (with_bytes c.args.out.now) (sym (ap queue_bytes e ∙ encode_one _))

pub returns-else-is_run : goal.returns-else-is_run
returns-else-is_run c =
    sym (all-put c.args.out.now (fields-none (key_field 11) (passed-other (key_listed c.args.key.now) c.args.left (sym c.is_run.ensures ∙ c.if-is_run.false))))
