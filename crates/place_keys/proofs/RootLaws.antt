-- Which buckets want the LRU root: those from an index on.
use mathlib.Core.Path.{◌≡◌, sym, ◌∙◌}
use mathlib.Core.Bool.{Bool, ◌||◌, or_assoc, or-false}
use mathlib.Core.List.{List, [], ◌∷◌, map}
use Prim.Native.Nat.{ℕ}
use Rattle.wire.specs.declared.kinds.Bucket.{Bucket}
use Rattle.calls.specs.Lists.{any_of}
use Rattle.calls.specs.Lru.{part_filled, lru_wanted}

module _ (sectors : ℕ) (dirty : Bucket → ℕ) {all : Bool} {l : List Bucket} where
  -- by those before it, or by the next one, or by those after it
  pub wanted-next : (t : Bool) {b : Bucket} {rest : List Bucket} → l ≡ b ∷ rest → (t || lru_wanted sectors (map dirty l)) ≡ all
      → ((t || part_filled sectors (dirty b)) || lru_wanted sectors (map dirty rest)) ≡ all
  unfolding lru_wanted any_of
  wanted-next t {b} {rest} e h = or_assoc t (part_filled sectors (dirty b)) (lru_wanted sectors (map dirty rest)) ∙ rw e at h

  -- and where none is left, by those before
  pub wanted-none : (t : Bool) → l ≡ [] → (t || lru_wanted sectors (map dirty l)) ≡ all → t ≡ all
  unfolding lru_wanted any_of
  wanted-none t e h = sym (or-false t) ∙ rw e at h
