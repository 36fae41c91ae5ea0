-- struct bch_bucket_gens: 256 one-byte generations. FORMAT.md, "Generation record": byte b mod 256 is bucket b's generation.
use Rattle.std.specs.Prelude.{ℕ, cond, List, [], ◌∷◌, length, replicate, nat_lt, slice_index}
use Rattle.std.proofs.Math.Option.{Option, none, some}
use Rattle.wire.specs.Output.{put}
use Rattle.wire.specs.Positions.{gens_byte}
use Rattle.wire.specs.declared.kinds.Bucket.{Bucket}

-- the generation in a record, or none where the record is too short for its byte
unfoldable pub gen_in : List ℕ → Bucket → Option ℕ
gen_in v b = cond (nat_lt (gens_byte b) (length v)) (some (slice_index v (gens_byte b))) none

-- the record with a bucket's generation
unfoldable pub with_gen : Bucket → ℕ → List ℕ → List ℕ
with_gen b generation v = put v (gens_byte b) (generation ∷ [])

-- release starts a missing record as 256 zeros
unfoldable pub no_gens : List ℕ
no_gens = replicate 256 0
