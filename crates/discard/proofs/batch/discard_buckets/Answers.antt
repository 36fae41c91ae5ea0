use Rattle.std.proofs.Common.{append_assoc, sym, ◌∙◌}
use lib.ListN.{length-map}
use Rattle.wire.proofs.AppendLaws.{with-with}
use Rattle.reader.specs.KeyHere.{key_here}
use Rattle.reader.specs.ListedKeys.{keys_listed}
use Rattle.discard.proofs.EmitLaws.{batch-is}
use Rattle.discard.proofs.batch.discard_buckets.Goals as goal

pub returns : goal.returns
returns c =
    let d = c.args.d.now in
    simp (
      c.put_end.ensures,
      c.put_unreserved.ensures,
      c.put_rows.ensures,
      c.put_deletions.ensures,
      c.put_runs.ensures,
      c.put_alloc_keys.ensures,
      with-with,
      append_assoc,
      batch-is d.waiting.now (keys_listed d.keys) (c.len.ensures ∙ sym (length-map d.keys.places.now (key_here d.keys.list.now))),
    )
