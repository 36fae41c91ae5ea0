-- The backpointer's struct as words.
use Rattle.std.proofs.Common.{◌≡◌, ℕ, ◌+◌, ◌*◌, ◌^◌, ◌<◌, List, [], ◌∷◌, ◌++◌, length, arith}
use Rattle.wire.specs.Numbers.{le_bytes, each, words_bytes}
use Rattle.wire.specs.declared.bpos.Bpos.{Bpos}
use Rattle.format.specs.Packing.{struct_bytes, read_struct}
use Rattle.format.specs.Backpointer.{backpointer}
use Rattle.wire.proofs.NumberLaws.{le_join}
use Rattle.format.proofs.StructLaws.{read_whole, struct-length}

module _ (generation stored : ℕ) (extent : Bpos) (g : generation < 256) (l : stored < 2 ^ 32) where
  first : (s : List ℕ) → le_bytes 1 0 ++ (le_bytes 1 0 ++ (le_bytes 1 4 ++ (le_bytes 1 generation ++ (le_bytes 4 0 ++ s)))) ≡ le_bytes 8 (4 * 2 ^ 16 + generation * 2 ^ 24) ++ s
  first s =
      let e : 0 + 256 ^ 1 * (0 + 256 ^ 1 * (4 + 256 ^ 1 * (generation + 256 ^ 1 * 0))) ≡ 4 * 2 ^ 16 + generation * 2 ^ 24 = omega arith in
      rw (
        le_join 1 4 generation 0 s g,
        le_join 1 5 4 (generation + 256 ^ 1 * 0) s (omega arith),
        le_join 1 6 0 (4 + 256 ^ 1 * (generation + 256 ^ 1 * 0)) s (omega arith),
        le_join 1 7 0 (0 + 256 ^ 1 * (4 + 256 ^ 1 * (generation + 256 ^ 1 * 0))) s (omega arith),
        e,
      )

  second : (s : List ℕ) → le_bytes 4 stored ++ (le_bytes 4 extent.snapshot ++ s) ≡ le_bytes 8 (stored + extent.snapshot * 2 ^ 32) ++ s
  second s =
      let e : stored + 256 ^ 4 * extent.snapshot ≡ stored + extent.snapshot * 2 ^ 32 = omega arith in
      rw (le_join 4 4 stored extent.snapshot s l, e)

  pub backpointer-words : words_bytes ((4 * 2 ^ 16 + generation * 2 ^ 24) ∷ (stored + extent.snapshot * 2 ^ 32) ∷ extent.offset ∷ extent.inode ∷ []) ≡ backpointer generation stored extent
  unfolding words_bytes each backpointer struct_bytes
  backpointer-words = rw (first _, second _)

-- struct bch_backpointer, packed; FORMAT.md, "Pieces and extents": a backpointer's value, 32 bytes
pub backpointer-length : (generation stored : ℕ) (extent : Bpos) → length (backpointer generation stored extent) ≡ 32
unfolding backpointer
backpointer-length generation stored extent = struct-length _

-- its members: btree_id, level, data_type, bucket_gen, pad, bucket_len, and pos, which is snapshot, offset, inode
pub backpointer-decodes : (generation stored : ℕ) (extent : Bpos) → generation < 256 → stored < 2 ^ 32 → extent.snapshot < 2 ^ 32
    → extent.offset < 2 ^ 64 → extent.inode < 2 ^ 64
    → read_struct (1 ∷ 1 ∷ 1 ∷ 1 ∷ 4 ∷ 4 ∷ 4 ∷ 8 ∷ 8 ∷ []) (backpointer generation stored extent) ≡ 0 ∷ 0 ∷ 4 ∷ generation ∷ 0 ∷ stored ∷ extent.snapshot ∷ extent.offset ∷ extent.inode ∷ []
unfolding backpointer
backpointer-decodes generation stored extent g l s o i =
    read_whole
    ((1, 0) ∷ (1, 0) ∷ (1, 4) ∷ (1, generation) ∷ (4, 0) ∷ (4, stored) ∷ (4, extent.snapshot) ∷ (8, extent.offset) ∷ (8, extent.inode) ∷ [])
    (omega arith)
