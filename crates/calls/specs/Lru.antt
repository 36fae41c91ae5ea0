-- FORMAT.md, "LRU and need-discard keys".
use Rattle.std.specs.Prelude.{ℕ, List, [], ◌∷◌, Bool, cond, ltb}
use Rattle.wire.specs.Keys.{Key}
use Rattle.wire.specs.Positions.{lru_at, need_discard_at}
use Rattle.wire.specs.declared.kinds.Bucket.{Bucket}
use Rattle.format.specs.Lru.{fragmentation}
use Rattle.calls.specs.Lists.{any_of}
use Rattle.calls.specs.Trees.{new_key, deletion}

-- a bucket is part filled where its dirty sectors are below bucket sectors
abbrev pub part_filled : ℕ → ℕ → Bool
part_filled sectors dirty = ltb dirty sectors

-- an LRU key, where the bucket is part filled
unfoldable pub lru_keys : ℕ → Bucket → ℕ → List Key
lru_keys sectors b dirty = cond (part_filled sectors dirty) (new_key 25 0 (lru_at (fragmentation dirty sectors) b) [] ∷ []) []

-- the deletion of such a key
unfoldable pub lru_deletions : ℕ → Bucket → ℕ → List Key
lru_deletions sectors b dirty = cond (part_filled sectors dirty) (deletion (lru_at (fragmentation dirty sectors) b) ∷ []) []

-- the LRU root is wanted when a bucket taken is left part filled, by the dirty sectors of the buckets taken
unfoldable pub lru_wanted : ℕ → List ℕ → Bool
lru_wanted sectors dirty = any_of (part_filled sectors) dirty

-- a bucket that waits for discard: type 25 at (journal number, bucket)
unfoldable pub need_discard_key : ℕ → Bucket → Key
need_discard_key journal b = new_key 25 0 (need_discard_at journal b) []
