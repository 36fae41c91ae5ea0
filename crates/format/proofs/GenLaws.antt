-- FORMAT.md, "Generation record": byte b mod 256 is bucket b's generation.
use Rattle.std.proofs.Common.{◌≡◌, ℕ, ◌<◌, List, length, get_or, arith, length-set, get_or-set_other, get_or-set_same, lt-ltb}
use mathlib.Core.Option.{some}
use lib.ListN.{get_or-replicate}
use Rattle.wire.specs.Output.{put}
use Rattle.wire.specs.Positions.{gens_byte}
use Rattle.wire.specs.declared.kinds.Bucket.{Bucket}
use Rattle.format.specs.Gens.{gen_in, with_gen, no_gens}

module _ (b : Bucket) (generation : ℕ) (v : List ℕ) where
  -- a record keeps its length
  pub gens-length : length (with_gen b generation v) ≡ length v
  unfolding with_gen put
  gens-length = length-set v (gens_byte b) generation

  -- "byte b mod 256 is bucket b's generation": the one that was set
  pub gen-there : gens_byte b < length v → gen_in (with_gen b generation v) b ≡ some generation
  unfolding gen_in with_gen put
  gen-there h = simp (length-set, lt-ltb (gens_byte b) (length v) h, get_or-set_same v (gens_byte b) generation 0 h)

  -- "A record already queued in the same release is continued": every other byte is as it was
  pub gens-kept : (i : ℕ) → (i ≡ gens_byte b → ⊥) → get_or (with_gen b generation v) i 0 ≡ get_or v i 0
  unfolding with_gen put
  gens-kept i h = get_or-set_other v (gens_byte b) i generation 0 h

  -- and so is the generation of a bucket that has another byte
  pub gen-elsewhere : (a : Bucket) → (gens_byte a ≡ gens_byte b → ⊥) → gen_in (with_gen b generation v) a ≡ gen_in v a
  unfolding gen_in
  gen-elsewhere a h = simp (gens-length, gens-kept (gens_byte a) h)

-- "release starts a missing record as 256 zeros"
pub gen-started : (b : Bucket) → gen_in no_gens b ≡ some 0
unfolding gen_in no_gens
gen-started b =
    let h : gens_byte b < 256 = omega arith in
    simp (lt-ltb (gens_byte b) 256 h, get_or-replicate {A = ℕ} 256 (gens_byte b) 0 0 h)
