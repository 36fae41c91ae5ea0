-- struct bch_backpointer, packed, 32 bytes, as the headers after 6.12 have it: in 6.12 bytes 3 to 7 are one 40-bit bucket_offset.
use Rattle.std.specs.Prelude.{ℕ, List, [], ◌∷◌}
use Rattle.wire.specs.declared.bpos.Bpos.{Bpos}
use Rattle.format.specs.Packing.{struct_bytes}
use Rattle.format.specs.AllocV4.{user}

-- btree_id (extents), level, data_type, bucket_gen, pad, bucket_len; pos, a bpos: snapshot, offset, inode
unfoldable pub backpointer : ℕ → ℕ → Bpos → List ℕ
backpointer generation stored extent =
    struct_bytes
    ((1, 0) ∷ (1, 0) ∷ (1, user) ∷ (1, generation) ∷ (4, 0) ∷ (4, stored) ∷ (4, extent.snapshot) ∷ (8, extent.offset) ∷ (8, extent.inode) ∷ [])
