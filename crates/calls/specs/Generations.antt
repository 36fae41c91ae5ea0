-- FORMAT.md, "Generation record": tree 14, type 30, inode 0, offset b div 256; byte b mod 256 is bucket b's generation.
use Rattle.std.specs.Prelude.{ℕ, List, Bool, true, false, cond, eqb}
use Rattle.std.proofs.Math.Option.{Option, none, some}
use Rattle.wire.specs.Keys.{Key}
use Rattle.wire.specs.Positions.{gens_at}
use Rattle.wire.specs.declared.kinds.Bucket.{Bucket}
use Rattle.format.specs.Gens.{gen_in, with_gen, no_gens}
use Rattle.calls.specs.Lists.{from_option}
use Rattle.calls.specs.Trees.{lookup, new_key, with_value}

-- another type at that place counts as missing
abbrev pub of_type30 : Option Key → Option Key
of_type30 none = none
of_type30 (some k) = cond (eqb k.type 30) (some k) none

-- the record that holds a bucket's generation
unfoldable pub gen_record : List Key → Bucket → Option Key
gen_record gens b = of_type30 (lookup (gens_at b) gens)

-- a bucket's generation in its record
pub data GenFound : Type 0 where
  found : ℕ → GenFound
  no_record : GenFound
  too_short : GenFound

abbrev pub found_in : Bucket → Option Key → GenFound
found_in b = from_option no_record (λ k. from_option too_short found (gen_in k.value b))

unfoldable pub gen_lookup : List Key → Bucket → GenFound
gen_lookup gens b = found_in b (gen_record gens b)

-- missing record or byte: 0
abbrev pub or_zero : GenFound → ℕ
or_zero (found g) = g
or_zero no_record = 0
or_zero too_short = 0

unfoldable pub gen_of : List Key → Bucket → ℕ
gen_of gens b = or_zero (gen_lookup gens b)

-- refusal 19: the record is too short for the bucket's byte
abbrev pub is_short : GenFound → Bool
is_short (found g) = false
is_short no_record = false
is_short too_short = true

unfoldable pub gen_short : List Key → Bucket → Bool
gen_short gens b = is_short (gen_lookup gens b)

-- release starts a missing record as 256 zeros
unfoldable pub gen_key : List Key → Bucket → Key
gen_key gens b = from_option (new_key 30 0 (gens_at b) no_gens) (λ k. k) (gen_record gens b)

-- the record with a bucket's new generation
unfoldable pub gen_queued : List Key → Bucket → ℕ → Key
gen_queued gens b generation = with_value (gen_key gens b) (with_gen b generation (gen_key gens b).value)
