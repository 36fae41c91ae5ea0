-- The sums that a release's rows are made of.
use Rattle.std.specs.Prelude.{◌≡◌, ℕ, ◌-◌, cond, List}
use Rattle.wire.specs.declared.kinds.Bucket.{Bucket}
use Rattle.calls.specs.CallList.{Volume, Freed}
use Rattle.calls.specs.Lists.{total}
use Rattle.calls.specs.Release.{freed_in, dirty_at, is_emptied}
use Rattle.release_keys.specs.declared.table.FreedBucket.{FreedBucket}
use Rattle.release_keys.specs.Tables.{row_dirty, row_emptied}
use Rattle.release_keys.specs.declared.counts.UnusedChange.{UnusedChange}

-- of a bucket: the sectors freed of it if it stays, and its unused ones if it is emptied
abbrev pub added_of : Volume → List Freed → Bucket → ℕ
added_of v rs b = cond (is_emptied v rs b) 0 (freed_in v.head.bucket_sectors rs b)

abbrev pub removed_of : Volume → List Freed → Bucket → ℕ
removed_of v rs b = cond (is_emptied v rs b) (v.head.bucket_sectors - dirty_at v.trees b) 0

-- the same of a row
abbrev pub row_added : List ℕ → FreedBucket → ℕ
row_added s f = cond (row_emptied s f) 0 f.sectors

abbrev pub row_removed : List ℕ → ℕ → FreedBucket → ℕ
row_removed s sectors f = cond (row_emptied s f) (sectors - row_dirty s f) 0

-- the two sums over a list of buckets
pub record UnusedChangeOf (v : Volume) (rs : List Freed) (bs : List Bucket) (u : UnusedChange) : Type 0 where
  pub added : u.added ≡ total (added_of v rs) bs
  pub removed : u.removed ≡ total (removed_of v rs) bs
