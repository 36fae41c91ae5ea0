-- The buckets of a table that holds their numbers: how many, and the one at an index.
use mathlib.Core.Path.{◌≡◌}
use mathlib.Core.List.{List}
use Prim.Native.Nat.{ℕ}
use lib.ListN.{length, get_or, length-map, get_or-map}
use Rattle.wire.specs.Kinds.{bucket_is, buckets_in, no_bucket}

pub table-length : (ns : List ℕ) → length (buckets_in ns) ≡ length ns
unfolding buckets_in
table-length ns = length-map ns bucket_is

pub table_at : (ns : List ℕ) (i : ℕ) → get_or (buckets_in ns) i no_bucket ≡ bucket_is (get_or ns i 0)
unfolding buckets_in
table_at ns i = get_or-map bucket_is ns i 0
