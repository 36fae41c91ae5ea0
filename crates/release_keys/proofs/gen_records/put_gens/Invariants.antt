-- The loop of `gen_records::put_gens`.
use Rattle.std.proofs.Common.{◌≡◌, map, ℕ}
use Rattle.wire.specs.declared.kinds.Bucket.{Bucket}
use Rattle.reader.specs.ListedKeys.{keys_listed}
use Rattle.release_keys.specs.Emptied.{emptied_row, emptied_buckets}
use Rattle.release_keys.proofs.GenRecordLaws.{Queue}
use Rattle.release_keys.proofs.gen_records.put_gens.Given as goal

abbrev pub invariant-loop-e : goal.invariant-loop-e
invariant-loop-e l =
    (generation_of : Bucket → ℕ) → l.emptied ≡ map (emptied_row generation_of) (emptied_buckets l.emptied)
    → Queue (keys_listed l.records.gens) generation_of l.emptied l.fn.out l.out l.e-index l.last
