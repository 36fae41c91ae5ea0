-- What is emitted for some alloc keys: runs while they are made, and batches.
use Rattle.std.specs.Prelude.{ℕ, ◌+◌, List, [], ◌∷◌, map, cond, length}
use Rattle.wire.specs.Keys.{Key}
use Rattle.wire.specs.Kinds.{same_bucket, next_bucket}
use Rattle.wire.specs.Positions.{run_at, bucket_in}
use Rattle.wire.specs.Encode.{encode}
use Rattle.wire.specs.declared.kinds.Bucket.{Bucket}
use Rattle.format.specs.AllocV4.{discarded}
use Rattle.calls.specs.ChangeList.{Batch, batch_fields, change_bytes}
use Rattle.calls.specs.Discard.{chunks, discard_batch}
use Rattle.calls.specs.Trees.{new_key, with_value}
use Rattle.need_discard.specs.Chosen.{need_trees}
use Rattle.discard.specs.declared.runs.FreedRun.{FreedRun}

-- an alloc key with its value discarded
abbrev pub discarded_key : Key → Key
discarded_key k = with_value k (discarded k.value)

-- the buckets that some keys name
abbrev pub buckets_of : List Key → List Bucket
buckets_of ks = map (λ k. bucket_in k.pos) ks

-- the key of a run
abbrev pub freed_key : FreedRun → Key
freed_key r = new_key 25 r.size (run_at r.end) []

-- the run before a bucket, unless the bucket joins it
abbrev pub ended_run : FreedRun → Bucket → List Key
ended_run r b = cond (same_bucket r.end b) [] (freed_key r ∷ [])

-- the run that a bucket joins, or begins
abbrev pub with_bucket : FreedRun → Bucket → FreedRun
with_bucket r b = record { end = next_bucket b; size = cond (same_bucket r.end b) (r.size + 1) 1 }

-- the batch of some alloc keys
abbrev pub batch_bytes : List Key → List Key → List ℕ
batch_bytes needs ks = encode (batch_fields (discard_batch (need_trees needs) ks))

-- all batches of some alloc keys, so many to a batch
abbrev pub batches_from : List Key → ℕ → List Key → List Batch
batches_from needs size ks = map (discard_batch (need_trees needs)) (chunks (length ks) size ks)

abbrev pub changes_from : List Key → ℕ → List Key → List ℕ
changes_from needs size ks = change_bytes (batches_from needs size ks)
