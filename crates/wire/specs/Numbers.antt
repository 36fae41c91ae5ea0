-- FORMAT.md, "Fields": numbers are little-endian.
use Rattle.std.specs.Prelude.{ℕ, zero, suc, ◌+◌, ◌*◌, ◌/◌, ◌%◌, List, [], ◌∷◌, ◌++◌}

-- the number in the first n bytes, the lowest first; a byte that is missing counts as 0
unfoldable pub le : ℕ → List ℕ → ℕ
le zero s = 0
le (suc n) [] = 0
le (suc n) (b ∷ s) = b + 256 * le n s

-- x in n bytes, the lowest first
unfoldable pub le_bytes : ℕ → ℕ → List ℕ
le_bytes zero x = []
le_bytes (suc n) x = x % 256 ∷ le_bytes n (x / 256)

-- f of each element, one after the other
unfoldable pub each : {A : Type 0} → (A → List ℕ) → List A → List ℕ
each f [] = []
each f (x ∷ xs) = f x ++ each f xs

-- words of eight bytes
unfoldable pub words_bytes : List ℕ → List ℕ
words_bytes ws = each (le_bytes 8) ws
