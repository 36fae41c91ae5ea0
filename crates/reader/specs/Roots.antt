-- FORMAT.md, "Call list": the roots of field 1, by the id of their trees, and a bit for each.
use Rattle.std.specs.Prelude.{◌≡◌, Bool, false, ◌||◌, cond, ℕ, ◌+◌, ◌/◌, ◌%◌, ◌^◌, Result, Ok, Err, eqb}
use Rattle.calls.specs.Apply.{root_bit}
use Rattle.reader.specs.declared.roots.Root.{Root}
use Rattle.reader.specs.declared.roots.UnknownRoot.{UnknownRoot}
use Rattle.reader.specs.declared.roots.Root.TheVariants.{Lru, NeedDiscard, BucketGens}

-- the id of a root
abbrev pub root_id : Root → ℕ
root_id Lru = 10
root_id NeedDiscard = 12
root_id BucketGens = 14

unfoldable pub is_root : ℕ → Bool
is_root id = eqb id 10 || (eqb id 12 || eqb id 14)

-- an id names a root, or none
abbrev pub RootNamed : ℕ → Result Root UnknownRoot → Type 0
RootNamed id (Ok r) = id ≡ root_id r
RootNamed id (Err e) = (e.0 ≡ id) × (is_root id ≡ false)

-- a bit set, unless it is
unfoldable pub with_root_bit : ℕ → ℕ → ℕ
with_root_bit roots bit = cond (eqb (roots / bit % 2) 0) (roots + bit) roots

-- the bit of a root set
unfoldable pub with_root : ℕ → ℕ → ℕ
with_root roots id = with_root_bit roots (2 ^ root_bit id)
