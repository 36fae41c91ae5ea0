use Rattle.std.proofs.Common.{sym}
use Rattle.wire.specs.Positions.{bucket_in}
use Rattle.wire.proofs.AppendLaws.{with-none}
use Rattle.reader.specs.ListedKeys.{key_listed}
use Rattle.discard.proofs.EmitLaws.{no-deletion, one-deletion}
use Rattle.discard.proofs.batch.put_waiting.Goals as goal

pub returns-in-Some : goal.returns-in-Some
returns-in-Some c =
    let w = rw c.bucket.ensures at c.waiting_at.ensures in
    rw (← one-deletion c.args.waiting.now (bucket_in (key_listed c.args.key.now).pos) w c.in-Some.is) (rw c.tag.ensures at c.put_deletion.ensures)

pub returns-in_default : goal.returns-in_default
returns-in_default c =
    let w = rw c.bucket.ensures at c.waiting_at.ensures in
    rw (no-deletion c.args.waiting.now (bucket_in (key_listed c.args.key.now).pos) w c.in_default.is) (sym (with-none c.args.out.now))
