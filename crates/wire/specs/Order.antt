-- FORMAT.md, "Call list": keys of a tree ascend strictly by (inode, offset, snapshot).
use Prim.Native.Nat.{compare, Ordering}
use Rattle.std.specs.Prelude.{Bool, true, false}
use Rattle.std.proofs.Math.Dec.{compare_is_eq}
use Rattle.wire.specs.declared.bpos.Bpos.{Bpos}

-- a comparison, and another where the first finds both equal
abbrev pub or_then : Ordering → Ordering → Ordering
or_then Ordering.lt o = Ordering.lt
or_then Ordering.eq o = o
or_then Ordering.gt o = Ordering.gt

-- by inode, then by offset, then by snapshot
unfoldable pub cmp : Bpos → Bpos → Ordering
cmp a b =
    or_then (compare a.inode b.inode) (or_then (compare a.offset b.offset) (compare a.snapshot b.snapshot))

abbrev pub is_less : Ordering → Bool
is_less Ordering.lt = true
is_less Ordering.eq = false
is_less Ordering.gt = false

-- a stands before b
unfoldable pub pos_less : Bpos → Bpos → Bool
pos_less a b = is_less (cmp a b)

unfoldable pub pos_same : Bpos → Bpos → Bool
pos_same a b = compare_is_eq (cmp a b)
