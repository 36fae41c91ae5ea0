-- Field 1 is written and read back, and what was read of it is written again.
use mathlib.Core.Path.{◌≡◌, refl}
use mathlib.Core.List.{List, []}
use Prim.Native.Nat.{ℕ, ◌^◌, ◌<◌}
use native.Mathlib.Omega.{arith}
use lib.ListN.{length}
use lib.Seq.{take_all}
use Rattle.wire.specs.Numbers.{le_bytes}
use Rattle.wire.specs.Bytes.{Bytes}
use Rattle.wire.proofs.NumberLaws.{all_append, all_drop, bytes_le, le-bound, le-le_bytes}
use Rattle.wire.proofs.RoundTrip.{next-again}
use Rattle.calls.specs.CallList.{Head, head_of, head_body}

-- each number fits its bytes
pub record HeadFits (h : Head) : Type 0 where
  pub call : h.call < 2 ^ 8
  pub bucket_sectors : h.bucket_sectors < 2 ^ 16
  pub block_sectors : h.block_sectors < 2 ^ 16
  pub option : h.option < 2 ^ 8
  pub roots : h.roots < 2 ^ 8
  pub reserve : h.reserve < 2 ^ 32
  pub batch : h.batch < 2 ^ 32
  pub journal : h.journal < 2 ^ 64
  pub inode : h.inode < 2 ^ 64
  pub base : h.base.0 < 2 ^ 64

-- heads are equal by their parts
pub head-equal :
    (a b : Head) → a.call ≡ b.call → a.bucket_sectors ≡ b.bucket_sectors → a.block_sectors ≡ b.block_sectors → a.option ≡ b.option
    → a.roots ≡ b.roots
    → a.reserve ≡ b.reserve
    → a.batch ≡ b.batch
    → a.journal ≡ b.journal
    → a.inode ≡ b.inode
    → a.base.0 ≡ b.base.0
    → a ≡ b
head-equal a b c s k o r e n j d f =
    λ i.
    record {
      call = c i;
      bucket_sectors = s i;
      block_sectors = k i;
      option = o i;
      roots = r i;
      reserve = e i;
      batch = n i;
      journal = j i;
      inode = d i;
      base = record { 0 = f i };
    }

-- what is written is read back
pub head-back : {h : Head} → HeadFits h → head_of (head_body h) ≡ h
unfolding head_of head_body le_bytes
head-back {h} f =
    head-equal
    (head_of (head_body h))
    h
    (le-le_bytes 1 h.call _ f.call)
    (le-le_bytes 2 h.bucket_sectors _ f.bucket_sectors)
    (le-le_bytes 2 h.block_sectors _ f.block_sectors)
    (le-le_bytes 1 h.option _ f.option)
    (le-le_bytes 1 h.roots _ f.roots)
    (le-le_bytes 4 h.reserve _ f.reserve)
    (le-le_bytes 4 h.batch _ f.batch)
    (le-le_bytes 8 h.journal _ f.journal)
    (le-le_bytes 8 h.inode _ f.inode)
    (le-le_bytes 8 h.base.0 [] f.base)

-- 39 bytes
pub head-length : (h : Head) → length (head_body h) ≡ 39
unfolding head_body le_bytes
head-length h = refl

pub head_bytes_lem : (h : Head) → Bytes (head_body h)
unfolding head_body
head_bytes_lem h =
    search (all_append, bytes_le) depth 12

-- what is read fits, and is written again
pub head-fits : {b : List ℕ} → Bytes b → HeadFits (head_of b)
unfolding head_of
head-fits r =
    record {
      call = le-bound 1 r;
      bucket_sectors = le-bound 2 (all_drop 1 r);
      block_sectors = le-bound 2 (all_drop 3 r);
      option = le-bound 1 (all_drop 5 r);
      roots = le-bound 1 (all_drop 6 r);
      reserve = le-bound 4 (all_drop 7 r);
      batch = le-bound 4 (all_drop 11 r);
      journal = le-bound 8 (all_drop 15 r);
      inode = le-bound 8 (all_drop 23 r);
      base = le-bound 8 (all_drop 31 r);
    }

pub head-again : {b : List ℕ} → Bytes b → length b ≡ 39 → head_body (head_of b) ≡ b
unfolding head_of head_body
head-again {b} r e =
    rw (
      next-again r 0 1 (omega arith),
      next-again r 1 2 (omega arith),
      next-again r 3 2 (omega arith),
      next-again r 5 1 (omega arith),
      next-again r 6 1 (omega arith),
      next-again r 7 4 (omega arith),
      next-again r 11 4 (omega arith),
      next-again r 15 8 (omega arith),
      next-again r 23 8 (omega arith),
      next-again r 31 8 (omega arith),
    ) (take_all 39 b (omega arith))
