-- A run as the code holds it, and the reserved buckets below one.
use Rattle.std.specs.Prelude.{ℕ, Bool, ◌&&◌, cond, Option, None, Some, List, length}
use Rattle.wire.specs.Keys.{Key}
use Rattle.wire.specs.Kinds.{bucket_below, began_before}
use Rattle.wire.specs.declared.kinds.Bucket.{Bucket}
use Rattle.calls.specs.Lists.{those}
use Rattle.calls.specs.Limits.{is_run}
use Rattle.calls.specs.Freespace.{start_of, end_of}
use Rattle.freespace.specs.declared.runs.Run.{Run}

-- a run that began before bucket 0
unfoldable pub began_early : Key → Bool
began_early k = is_run k && began_before (end_of k) k.size

-- the run that a key is, an empty one too: none where it is no run
unfoldable pub run_in : Key → Option Run
run_in k = cond (is_run k) (Some (record { start = start_of k; end = end_of k })) None

-- the run that a key is, where it covers a bucket: none where it is no run, or an empty one
unfoldable pub covering_in : Key → Option Run
covering_in k =
    cond (is_run k && bucket_below (start_of k) (end_of k)) (Some (record { start = start_of k; end = end_of k })) None

-- how many of a list's buckets are below one
unfoldable pub count_below : Bucket → List Bucket → ℕ
count_below b bs = length (those (λ c. bucket_below c b) bs)
