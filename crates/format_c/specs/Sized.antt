-- Values are changed where they are as long as `format` asks for.
use Rattle.std.specs.Prelude.{ℕ, ◌&&◌, cond, List, length, leb}

-- f of a value of lo to hi bytes; any other as it was
unfoldable pub where_sized : ℕ → ℕ → (List ℕ → List ℕ) → List ℕ → List ℕ
where_sized lo hi f v = cond (leb lo (length v) && leb (length v) hi) (f v) v
