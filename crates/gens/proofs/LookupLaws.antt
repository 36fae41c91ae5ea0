-- A bucket's generation, by its record.
use mathlib.Core.Path.{◌≡◌, ap}
use mathlib.Core.List.{List}
use mathlib.Core.Option.{Option}
use Rattle.wire.specs.Keys.{Key}
use Rattle.wire.specs.declared.kinds.Bucket.{Bucket}
use Rattle.calls.specs.Generations.{gen_record, found_in, gen_lookup, or_zero, gen_of, GenFound}

-- a tree tells of a bucket what the bucket's record there does
pub look-found : (gens : List Key) (b : Bucket) {k : Option Key} → k ≡ gen_record gens b → found_in b k ≡ gen_lookup gens b
unfolding gen_lookup
look-found gens b e = ap (found_in b) e

-- its generation, and 0 where none is found
pub gen-read : (gens : List Key) (b : Bucket) {l : GenFound} → l ≡ gen_lookup gens b → or_zero l ≡ gen_of gens b
unfolding gen_of
gen-read gens b e = ap or_zero e
