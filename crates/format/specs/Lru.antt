-- The index of fragmentation (`alloc_lru_idx_fragmentation`): dirty × 2^31 div bucket sectors. The key's inode is 2^61 plus it (wire, `lru_at`).
use Rattle.std.specs.Prelude.{ℕ, ◌*◌, ◌/◌, ◌^◌}

unfoldable pub fragmentation : ℕ → ℕ → ℕ
fragmentation dirty sectors = dirty * 2 ^ 31 / sectors
