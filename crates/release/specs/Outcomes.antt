-- The answer of a release to a list that was read.
use Rattle.std.specs.Prelude.{◌≡◌, ℕ, List, [], ◌∷◌, map}
use Rattle.calls.specs.CallList.{Volume, Freed}
use Rattle.calls.specs.Lists.{those}
use Rattle.calls.specs.Refusals.{verdict}
use Rattle.calls.specs.Release.{freed_buckets, is_emptied, bucket_refusal, emptied_gen}
use Rattle.reader.specs.ListedKeys.{keys_listed}
use Rattle.gens.specs.declared.records.Records.{Records}
use Rattle.release_keys.specs.Emptied.{emptied_row}
use Rattle.release_keys.specs.Given.{volume_in, requests_in}
use Rattle.release_keys.specs.declared.freed_buckets.EmptiedBucket.{EmptiedBucket}
use Rattle.release_keys.specs.declared.table.HeldTable.{HeldTable}

-- 15 to 19
abbrev pub bucket_tests : Volume → List Freed → List ℕ
bucket_tests v rs = verdict (map (bucket_refusal v rs) (freed_buckets v.head.bucket_sectors rs)) ∷ []

-- the volume's generation records, and the buckets that are emptied
pub record BatchTables (t : HeldTable) (records : Records) (emptied : List EmptiedBucket) : Type 0 where
  pub recorded : keys_listed records.gens ≡ keys_listed t.freed.read.gens
  pub chosen :
      emptied
      ≡ map (emptied_row (emptied_gen (volume_in t.freed.read).trees))
      (those (is_emptied (volume_in t.freed.read) (requests_in t.freed.read)) (freed_buckets t.freed.read.head.bucket_sectors (requests_in t.freed.read)))
