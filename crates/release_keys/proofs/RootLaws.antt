-- The roots that emptied buckets want.
use mathlib.Core.Path.{◌≡◌}
use mathlib.Core.Bool.{Bool, true, false, ◌&&◌}
use mathlib.Core.List.{[], ◌++◌}
use Prim.Native.Nat.{ℕ}
use Rattle.wire.proofs.EncodeLaws.{encode-none}
use Rattle.calls.specs.ChangeList.{root_field}
use Rattle.calls.specs.Place.{root_missing, roots_if}
use Rattle.change_fields.specs.FieldBytes.{roots_bytes}
use Rattle.change_fields.proofs.FieldLists.{fields-append}

pub roots-idle : (wanted : Bool) (roots : ℕ) → wanted ≡ false → roots_bytes (roots_if (wanted && root_missing roots 1) 12 ++ roots_if (wanted && root_missing roots 2) 14) ≡ []
roots-idle wanted roots e = rw e encode-none

pub roots-both : (wanted : Bool) (roots : ℕ) → wanted ≡ true
    → roots_bytes (roots_if (wanted && root_missing roots 1) 12 ++ roots_if (wanted && root_missing roots 2) 14)
    ≡ roots_bytes (roots_if (root_missing roots 1) 12) ++ roots_bytes (roots_if (root_missing roots 2) 14)
roots-both wanted roots e = rw e (fields-append root_field (roots_if (root_missing roots 1) 12) (roots_if (root_missing roots 2) 14))
