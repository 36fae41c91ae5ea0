-- Reading released pieces, and tests over all of them.
use mathlib.Core.Path.{◌≡◌, ap}
use mathlib.Core.Bool.{true, ◌&&◌}
use Prim.Native.Nat.{ℕ, ◌+◌, ◌≤◌, ◌<◌}
use native.Mathlib.Nat.{add-zero}
use native.Mathlib.Omega.{arith}
use mathlib.Core.List.{List, ◌∷◌}
use lib.ListN.{take, drop}
use lib.Dec.{leb}
use borrow.Author.Tests.{leb-true, ltb-true}
use Rattle.wire.specs.Numbers.{le}
use Rattle.wire.specs.Kinds.{bucket_of, offset_in, bucket_in_range}
use Rattle.wire.specs.declared.kinds.Bucket.{Bucket}
use Rattle.wire.proofs.NumberLaws.{body-le}
use Rattle.calls.specs.CallList.{Freed, freed_of}
use Rattle.calls.specs.Lists.{all_of}
use Rattle.calls.specs.Release.{freed_ok}
use Rattle.calls.proofs.lists.BoolLaws.{parts}

-- a piece, each part read at its own place
pub freed_read : (s : List ℕ) (at d n : ℕ) → d ≡ le 8 (drop at s) → n ≡ le 2 (drop (at + 8) s)
    → ◌≡◌ {A = Freed} (record { first = record { 0 = d }; sectors = n }) (freed_of (take 10 (drop at s)))
unfolding freed_of
freed_read s at d n p q =
    let a : le 8 (take 10 (drop at s)) ≡ le 8 (drop at s) = rw add-zero at (body-le s at 10 8 0 (omega arith)) in
    rw (p, q, a, body-le s at 10 2 8 (omega arith))

-- what refusal 14 shows of a piece
pub record FreedWithin (sectors : ℕ) (r : Freed) : Type 0 where
  pub some-sectors : 1 ≤ r.sectors
  pub few : r.sectors ≤ 128
  pub inside : offset_in r.first sectors + r.sectors ≤ sectors
  pub low : (bucket_of r.first sectors).0 < 65536

pub within : (sectors : ℕ) (r : Freed) → freed_ok sectors r ≡ true → FreedWithin sectors r
unfolding freed_ok
within sectors r e =
    let a = parts (leb 1 r.sectors && leb r.sectors 128) (leb (offset_in r.first sectors + r.sectors) sectors && bucket_in_range (bucket_of r.first sectors)) e in
    let b = parts (leb 1 r.sectors) (leb r.sectors 128) a.0 in
    let c = parts (leb (offset_in r.first sectors + r.sectors) sectors) (bucket_in_range (bucket_of r.first sectors)) a.1 in
    record {
      some-sectors = leb-true 1 r.sectors b.0;
      few = leb-true r.sectors 128 b.1;
      inside = leb-true (offset_in r.first sectors + r.sectors) sectors c.0;
      low = ltb-true (bucket_of r.first sectors).0 65536 c.1;
    }

-- the first of the pieces that are left, which refusal 14 passed
module _ (sectors : ℕ) {l : List Freed} {r : Freed} {rest : List Freed} (ok : all_of (freed_ok sectors) l ≡ true) (e : l ≡ r ∷ rest) where
  both : (freed_ok sectors r && all_of (freed_ok sectors) rest) ≡ true
  unfolding all_of
  both = rw e at ok

  pub first-within : FreedWithin sectors r
  first-within = within sectors r (parts (freed_ok sectors r) (all_of (freed_ok sectors) rest) both).0

  pub rest-ok : all_of (freed_ok sectors) rest ≡ true
  rest-ok = (parts (freed_ok sectors r) (all_of (freed_ok sectors) rest) both).1

  pub bucket_low : {b : Bucket} → b ≡ bucket_of r.first sectors → b.0 < 65536
  bucket_low f = omega (arith, ap (λ (x : Bucket). x.0) f, first-within.low)
