-- What a reader finds in the alloc values that the calls write.
use mathlib.Core.Path.{◌≡◌, refl, ap, ◌∙◌}
use mathlib.Core.Bool.{true}
use mathlib.Core.List.{List, [], ◌∷◌}
use Prim.Native.Nat.{ℕ, ◌^◌, ◌≤◌, ◌<◌}
use native.Mathlib.Omega.{arith}
use lib.ListN.{length, get_or}
use Rattle.wire.specs.Numbers.{le_bytes}
use Rattle.wire.proofs.NumberLaws.{le-le_bytes}
use Rattle.format.specs.Packing.{struct_bytes, Member, get}
use Rattle.format.specs.AllocV4.{flags, gen, oldest_gen, data_type, stripe_redundancy, dirty_sectors, journal_seq_empty, new_alloc, with_dirty, next_gen, emptied_flags, emptied, discarded}
use Rattle.format.proofs.StructLaws.{apart, clear, reads, stores, get_other, get-store, get-stores}
use Rattle.format.proofs.AllocLaws.{emptied-low, next_low, discarded-decodes}

-- a bucket that data is placed in
module _ (journal generation dirty clock : ℕ) where
  pub new-gen : generation < 256 → get gen (new_alloc journal generation dirty clock) ≡ generation
  unfolding new_alloc struct_bytes get le_bytes
  new-gen h = le-le_bytes 1 generation _ (omega arith)

  pub new-dirty : dirty < 2 ^ 32 → get dirty_sectors (new_alloc journal generation dirty clock) ≡ dirty
  unfolding new_alloc struct_bytes get le_bytes
  new-dirty h = le-le_bytes 4 dirty _ (omega arith)

  pub new-kind : get data_type (new_alloc journal generation dirty clock) ≡ 4
  unfolding new_alloc struct_bytes get le_bytes
  new-kind = le-le_bytes 1 4 _ (omega arith)

-- a part of a bucket is freed
module _ (d : ℕ) (v : List ℕ) where
  pub part-gen : get gen (with_dirty d v) ≡ get gen v
  unfolding with_dirty
  part-gen = get_other dirty_sectors d v gen refl

  pub part-kind : get data_type (with_dirty d v) ≡ get data_type v
  unfolding with_dirty
  part-kind = get_other dirty_sectors d v data_type refl

  pub part-dirty : d < 2 ^ 32 → 20 ≤ length v → get dirty_sectors (with_dirty d v) ≡ d
  unfolding with_dirty
  part-dirty f h = get-store dirty_sectors d v (omega arith) (omega arith)

-- a bucket is emptied
module _ (journal : ℕ) (v : List ℕ) where
  abbrev changes : List (Member × ℕ)
  changes =
      (flags, emptied_flags (get flags v)) ∷ (gen, next_gen (get gen v)) ∷ (oldest_gen, next_gen (get gen v)) ∷ (data_type, 9)
      ∷ (stripe_redundancy, 0) ∷ (dirty_sectors, 0) ∷ []

  -- a member other than the journal number
  after : (m : Member) → apart m journal_seq_empty ≡ true → clear m changes ≡ true → 56 ≤ length v → get m (emptied journal v) ≡ reads m (get m v) changes
  unfolding emptied
  after m a c h =
      get_other journal_seq_empty journal (stores changes v) m a
      ∙ get-stores changes m v c (omega (arith, emptied-low (get flags v), next_low (get gen v)))

  pub emptied-gen : 56 ≤ length v → get gen (emptied journal v) ≡ next_gen (get gen v)
  emptied-gen h = after gen refl refl h

  pub emptied-kind : 56 ≤ length v → get data_type (emptied journal v) ≡ 9
  emptied-kind h = after data_type refl refl h

  pub emptied-dirty : 56 ≤ length v → get dirty_sectors (emptied journal v) ≡ 0
  emptied-dirty h = after dirty_sectors refl refl h

-- a bucket is discarded
module _ (v : List ℕ) (long : 56 ≤ length v) where
  pub discarded-gen : get gen (discarded v) ≡ get gen v
  discarded-gen = ap (λ l. get_or l 2 0) (discarded-decodes v long)

  pub discarded-kind : get data_type (discarded v) ≡ 0
  discarded-kind = ap (λ l. get_or l 4 0) (discarded-decodes v long)

  pub discarded-dirty : get dirty_sectors (discarded v) ≡ get dirty_sectors v
  discarded-dirty = ap (λ l. get_or l 6 0) (discarded-decodes v long)
