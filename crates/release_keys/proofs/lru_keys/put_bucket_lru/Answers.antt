use Rattle.std.proofs.Common.{◌-◌, sym}
use Rattle.std.specs.Int.NonZero.{non_zero_u64_get}
use Rattle.wire.proofs.AppendLaws.{with-with}
use Rattle.calls.specs.Lru.{lru_keys, lru_deletions}
use Rattle.release_keys.specs.Tables.{row_dirty, row_emptied}
use Rattle.release_keys.proofs.KeyLaws.{lru-emptied, lru-left}
use Rattle.release_keys.proofs.lru_keys.put_bucket_lru.Goals as goal

pub returns-then-not-is_emptied : goal.returns-then-not-is_emptied
returns-then-not-is_emptied c =
    let h = c.args.h in
    let d = row_dirty h.list.now h.freed in
    rw (
      c.put_lru_key.ensures,
      c.put_lru_deletion.ensures,
      c.dirty-dirty.ensures,
      lru-left (lru_deletions (non_zero_u64_get h.bucket_sectors) h.freed.bucket d) (lru_keys (non_zero_u64_get h.bucket_sectors) h.freed.bucket (d - h.freed.sectors)) (row_emptied h.list.now h.freed) (sym c.if-not-is_emptied.ensures),
      with-with,
    )

pub returns-else-not-is_emptied : goal.returns-else-not-is_emptied
returns-else-not-is_emptied c =
    let h = c.args.h in
    let d = row_dirty h.list.now h.freed in
    rw (
      c.put_lru_deletion.ensures,
      c.dirty-dirty.ensures,
      lru-emptied (lru_deletions (non_zero_u64_get h.bucket_sectors) h.freed.bucket d) (lru_keys (non_zero_u64_get h.bucket_sectors) h.freed.bucket (d - h.freed.sectors)) (row_emptied h.list.now h.freed) (sym c.if-not-is_emptied.ensures),
    )
