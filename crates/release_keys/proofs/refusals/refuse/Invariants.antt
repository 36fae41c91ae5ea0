-- The loop of `refuse`: no bucket below the index refuses.
use Rattle.std.proofs.Common.{◌≡◌, drop, map}
use Rattle.calls.specs.Refusals.{verdict}
use Rattle.calls.specs.Release.{bucket_refusal}
use Rattle.release_keys.specs.Given.{volume_in, requests_in}
use Rattle.release_keys.specs.Tables.{row_buckets}
use Rattle.release_keys.proofs.refusals.refuse.Given as goal

abbrev pub invariant-loop-f : goal.invariant-loop-f
invariant-loop-f l =
    verdict (map (bucket_refusal (volume_in l.table.read) (requests_in l.table.read)) (row_buckets (drop l.f-index l.table.buckets.now)))
    ≡ verdict (map (bucket_refusal (volume_in l.table.read) (requests_in l.table.read)) (row_buckets l.table.buckets.now))
