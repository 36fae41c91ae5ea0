-- What the limits show of keys: the buckets that they name are within the limit.
use Rattle.std.specs.Prelude.{◌≤◌, ◌≡◌, true, length}
use Rattle.wire.specs.Keys.{Key}
use Rattle.wire.specs.Kinds.{bucket_in_range}
use Rattle.wire.specs.Positions.{bucket_in}

-- an alloc key: at inode 0 its bucket is within the limit
pub record AllocKept (k : Key) : Type 0 where
  pub below : k.pos.inode ≡ 0 → bucket_in_range (bucket_in k.pos) ≡ true

-- a need-discard key: of type 25 its bucket is within the limit
pub record NeedKept (k : Key) : Type 0 where
  pub below : k.type ≡ 25 → bucket_in_range (bucket_in k.pos) ≡ true

-- an alloc key that is discarded: its bucket is within the limit, and its value is 56 bytes or more
pub record DiscardedKept (k : Key) : Type 0 where
  pub below : bucket_in_range (bucket_in k.pos) ≡ true
  pub valued : 56 ≤ length k.value
