-- The invariant of a history: a phase for each bucket, over what is seen of a volume and its live pieces.
use mathlib.Core.Path.{◌≡◌, refl, sym}
use mathlib.Core.Bool.{Bool, true, false, not, ◌&&◌, ◌||◌, cond}
use mathlib.Core.List.{List, [], ◌∷◌, Memᴰ}
use mathlib.Core.Option.{Option, none, some}
use Prim.Native.Nat.{ℕ, ◌+◌, ◌/◌, ◌%◌, ◌≤◌, ◌<◌}
use native.Mathlib.Omega.{arith}
use native.Mathlib.Nat.{zero-add}
use lib.Dec.{leb, ltb, eqb}
use borrow.Author.Tests.{lt-ltb, eq-eqb}
use Rattle.wire.specs.Bytes.{All, more}
use Rattle.calls.specs.Lists.{any_of, total, one}
use Rattle.calls.specs.History.{Live}
use Rattle.calls.proofs.lists.AllLaws.{all-imp}
use Rattle.calls.proofs.lists.TotalLaws.{total-mem}

-- ---- pieces
-- the number of the bucket that a piece begins in
abbrev pub in_bucket : ℕ → Live → ℕ
in_bucket B p = p.first.0 / B

-- 1 where the piece occupies sector x
abbrev pub occ : ℕ → Live → ℕ
occ x p = one (leb p.first.0 x && ltb x (p.first.0 + p.length))

-- the piece's sectors where it lies in bucket b, else 0
abbrev pub len_on : ℕ → ℕ → Live → ℕ
len_on B b p = cond (eqb (in_bucket B p) b) p.length 0

-- some piece lies in bucket b
abbrev pub some_on : ℕ → ℕ → List Live → Bool
some_on B b ps = any_of (λ p. eqb (in_bucket B p) b) ps

-- it is not empty, and lies inside its bucket
abbrev pub LiesIn : ℕ → Live → Type 0
LiesIn B p = (0 < p.length) × (p.first.0 % B + p.length ≤ B)

-- ---- state
pub record Alloc : Type 0 where
  pub gen : ℕ
  pub dirty : ℕ
  pub kind : ℕ

-- what the invariant sees of a volume and its live pieces
pub record Seen : Type 0 where
  pub alloc : ℕ → Option Alloc
  pub waits : ℕ → Bool
  pub cover : ℕ → ℕ
  pub kept : ℕ → Bool
  pub live : List Live

abbrev pub alloc_gen : Option Alloc → Option ℕ
alloc_gen none = none
alloc_gen (some a) = some a.gen

abbrev pub alloc_dirty : Option Alloc → ℕ
alloc_dirty none = 0
alloc_dirty (some a) = a.dirty

abbrev pub alloc_kind : Option Alloc → ℕ
alloc_kind none = 0
alloc_kind (some a) = a.kind

abbrev pub free_by : ℕ → Bool → Bool
free_by c k = ltb 0 c && not k

abbrev pub wait_by : Option Alloc → Bool → Bool
wait_by a w = eqb (alloc_kind a) 9 && w

-- ---- the invariant
pub data Phase (off : Bool) (c : ℕ) (k : Bool) (n : ℕ) (a : Option Alloc) (w : Bool) : Type 0 where
  idle : off ≡ false → free_by c k ≡ false → n ≡ 0 → a ≡ none → Phase off c k n a w
  free : off ≡ true → c ≡ 1 → k ≡ false → n ≡ 0 → alloc_kind a ≡ 0 → alloc_dirty a ≡ 0 → Phase off c k n a w
  used : off ≡ true → c ≡ 0 → k ≡ true → 0 < n → alloc_kind a ≡ 4 → alloc_dirty a ≡ n → Phase off c k n a w
  wait : off ≡ true → c ≡ 0 → k ≡ true → n ≡ 0 → alloc_kind a ≡ 9 → alloc_dirty a ≡ 0 → w ≡ true → Phase off c k n a w

abbrev pub PhaseAt : ℕ → (ℕ → Bool) → Seen → ℕ → Type 0
PhaseAt B offered s b = Phase (offered b) (s.cover b) (s.kept b) (total (len_on B b) s.live) (s.alloc b) (s.waits b)

pub record Good (B : ℕ) (offered : ℕ → Bool) (s : Seen) : Type 0 where
  pub once : (x : ℕ) → total (occ x) s.live ≤ 1
  pub placed : All (λ (p : Live). LiesIn B p × (alloc_gen (s.alloc (in_bucket B p)) ≡ some p.generation)) s.live
  pub phase : (b : ℕ) → PhaseAt B offered s b

-- ---- what follows of it
on_some : (B b : ℕ) (l : List Live) → All (λ (p : Live). 0 < p.length) l → some_on B b l ≡ ltb 0 (total (len_on B b) l)
unfolding any_of total
on_some B b [] h = refl
on_some B b (p ∷ ps) (more h r) = go (eqb (in_bucket B p) b) (on_some B b ps r)
  where
    go : (t : Bool) → some_on B b ps ≡ ltb 0 (total (len_on B b) ps) → (t || some_on B b ps) ≡ ltb 0 (cond t p.length 0 + total (len_on B b) ps)
    go true e = sym (lt-ltb 0 (p.length + total (len_on B b) ps) (omega arith))
    go false e = rw zero-add e

one-phase : (c : ℕ) (k : Bool) (n : ℕ) (a : Option Alloc) (w off : Bool) → off ≡ true → Phase off c k n a w → one (free_by c k) + one (ltb 0 n) + one (wait_by a w) ≡ 1
one-phase c k n a w off o (idle f e1 e2 e3) = cc
one-phase c k n a w off o (free f e1 e2 e3 e4 e5) = rw (e1, e2, e3, e4)
one-phase c k n a w off o (used f e1 e2 e3 e4 e5) = rw (e1, e4, lt-ltb 0 n e3)
one-phase c k n a w off o (wait f e1 e2 e3 e4 e5 e6) = rw (e1, e3, e4, e6)

pub dirty-phase : (c : ℕ) (k : Bool) (n : ℕ) (a : Option Alloc) (w off : Bool) → Phase off c k n a w → alloc_dirty a ≡ n
dirty-phase c k n a w off (idle f e1 e2 e3) = rw (e3, e2)
dirty-phase c k n a w off (free f e1 e2 e3 e4 e5) = cc
dirty-phase c k n a w off (used f e1 e2 e3 e4 e5) = e5
dirty-phase c k n a w off (wait f e1 e2 e3 e4 e5 e6) = cc

module _ (B : ℕ) (offered : ℕ → Bool) (s : Seen) (g : Good B offered s) (b : ℕ) where
  -- each dirty count is the sum of the pieces
  pub counted : alloc_dirty (s.alloc b) ≡ total (len_on B b) s.live
  counted = dirty-phase (s.cover b) (s.kept b) (total (len_on B b) s.live) (s.alloc b) (s.waits b) (offered b) (g.phase b)

  -- an offered bucket is free, in use or waiting, and just one of them
  pub one_of : offered b ≡ true → one (free_by (s.cover b) (s.kept b)) + one (some_on B b s.live) + one (wait_by (s.alloc b) (s.waits b)) ≡ 1
  one_of o =
      rw (on_some B b s.live (all-imp (λ p h. h.0.0) g.placed))
      (one-phase (s.cover b) (s.kept b) (total (len_on B b) s.live) (s.alloc b) (s.waits b) (offered b) o (g.phase b))

-- a piece is part of its bucket's sum
pub mem-own : (B : ℕ) (p : Live) (l : List Live) → Memᴰ p l → p.length ≤ total (len_on B (in_bucket B p)) l
mem-own B p l m =
    let o : len_on B (in_bucket B p) p ≡ p.length = rw (eq-eqb (in_bucket B p) (in_bucket B p) refl) in
    omega (arith, total-mem (len_on B (in_bucket B p)) p l m)
