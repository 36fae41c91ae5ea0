-- A placement keeps the invariant: the buckets taken were free and hold the new pieces.
use mathlib.Core.Path.{◌≡◌, refl, ◌∙◌}
use mathlib.Core.Bool.{Bool, true, false, ◌&&◌, ◌||◌, and-false}
use mathlib.Core.List.{List, [], ◌∷◌, ◌++◌, Memᴰ}
use mathlib.Core.Option.{Option, some}
use Prim.Native.Nat.{ℕ, ◌+◌, ◌*◌, ◌/◌, ◌%◌, ◌≤◌, ◌<◌}
use native.Mathlib.Omega.{arith}
use native.Mathlib.Nat.{add-zero, suc-mul, div-add-mod', div-eq_of_lt-le}
use native.Mathlib.Numerals.{add-one}
use lib.Dec.{leb, ltb}
use borrow.Author.Tests.{ltb-true, leb-true, eq-eqb, ne_eqb}
use Rattle.wire.specs.Bytes.{All, more}
use Rattle.wire.proofs.NumberLaws.{all_append}
use Rattle.calls.specs.Lists.{total, one}
use Rattle.calls.specs.History.{Live}
use Rattle.calls.proofs.lists.AllLaws.{all-at, all-of, all-imp}
use Rattle.calls.proofs.lists.BoolLaws.{clash}
use Rattle.calls.proofs.history.Phases.{in_bucket, occ, len_on, LiesIn, Alloc, Seen, alloc_gen, alloc_dirty, alloc_kind, free_by, Phase, idle, free, used, wait, PhaseAt, Good, mem-own}
use Rattle.calls.proofs.lists.TotalLaws.{total-append, total-le}

-- a piece occupies sectors of its own bucket only
same-bucket : (B f n x : ℕ) → f % B + n ≤ B → f ≤ x → x < f + n → x / B ≡ f / B
same-bucket B f n x h l u =
    let e : f / B * B + f % B ≡ f = div-add-mod' f B in
    let m : (f / B + 1) * B ≡ f / B * B + B = rw (add-one, suc-mul) in
    div-eq_of_lt-le {k = f / B} B (omega arith) (omega arith)

occ-on : (B x : ℕ) (p : Live) → LiesIn B p → occ x p ≤ len_on B (x / B) p
occ-on B x p i = go (leb p.first.0 x) refl (ltb x (p.first.0 + p.length)) refl
  where
    go : (t : Bool) → leb p.first.0 x ≡ t → (u : Bool) → ltb x (p.first.0 + p.length) ≡ u → one (t && u) ≤ len_on B (x / B) p
    go false e u d = omega arith
    go true e false d = omega arith
    go true e true d =
        rw (same-bucket B p.first.0 p.length x i.1 (leb-true _ _ e) (ltb-true _ _ d), eq-eqb (p.first.0 / B) (p.first.0 / B) refl) i.0

-- what a placement does to what is seen: the buckets taken, and the new pieces
pub record PlacedPhases (B : ℕ) (s s' : Seen) (taken : ℕ → Bool) (ps : List Live) : Type 0 where
  pub was_free : (b : ℕ) → taken b ≡ true → free_by (s.cover b) (s.kept b) ≡ true
  pub cover-taken : (b : ℕ) → taken b ≡ true → s'.cover b ≡ 0
  pub cover-same : (b : ℕ) → taken b ≡ false → s.kept b ≡ false → s'.cover b ≡ s.cover b
  pub cover-le : (b : ℕ) → s'.cover b ≤ s.cover b
  pub kept : (b : ℕ) → s'.kept b ≡ (taken b || s.kept b)
  pub alloc-taken : (b : ℕ) → taken b ≡ true → (alloc_kind (s'.alloc b) ≡ 4) × (alloc_dirty (s'.alloc b) ≡ total (len_on B b) ps)
  pub alloc_same : (b : ℕ) → taken b ≡ false → s'.alloc b ≡ s.alloc b
  pub waits-same : (b : ℕ) → s'.waits b ≡ s.waits b
  pub live : s'.live ≡ s.live ++ ps
  pub ps-placed : All (λ (p : Live). LiesIn B p × (alloc_gen (s'.alloc (in_bucket B p)) ≡ some p.generation)) ps
  pub ps-taken : All (λ (p : Live). taken (in_bucket B p) ≡ true) ps
  pub ps-once : (x : ℕ) → total (occ x) ps ≤ 1
  pub ps-some : (b : ℕ) → taken b ≡ true → 0 < total (len_on B b) ps

-- nothing lies in a bucket that no piece names
none-on : (B b : ℕ) (ps : List Live) → All (λ (p : Live). in_bucket B p ≡ b → ⊥) ps → total (len_on B b) ps ≡ 0
unfolding total
none-on B b [] h = refl
none-on B b (p ∷ ps) (more h r) = rw (ne_eqb (in_bucket B p) b h, none-on B b ps r)

occ-le : (B x : ℕ) (l : List Live) → All (λ (p : Live). LiesIn B p) l → total (occ x) l ≤ total (len_on B (x / B)) l
occ-le B x l a = total-le (occ x) (len_on B (x / B)) (all-imp (occ-on B x) a)

module _ (off : Bool) (c : ℕ) (k : Bool) (n : ℕ) (a : Option Alloc) (w : Bool) where
  -- a bucket that is free holds nothing
  pub free-empty : Phase off c k n a w → free_by c k ≡ true → (off ≡ true) × (n ≡ 0) × (c ≡ 1)
  free-empty (idle f e1 e2 e3) t = absurd (clash t e1)
  free-empty (free f e1 e2 e3 e4 e5) t = (f, e3, e1)
  free-empty (used f e1 e2 e3 e4 e5) t = absurd (clash t (rw e1))
  free-empty (wait f e1 e2 e3 e4 e5 e6) t = absurd (clash t (rw e1))

  phase-shrunk : (c' : ℕ) → Phase off c k n a w → c' ≤ c → (k ≡ false → c' ≡ c) → Phase off c' k n a w
  phase-shrunk c' (idle f e1 e2 e3) l u = idle f (go k refl) e2 e3
    where
      go : (t : Bool) → k ≡ t → free_by c' t ≡ false
      go true e = and-false (ltb 0 c')
      go false e = rw (u e) (rw e at e1)
  phase-shrunk c' (free f e1 e2 e3 e4 e5) l u = free f (u e2 ∙ e1) e2 e3 e4 e5
  phase-shrunk c' (used f e1 e2 e3 e4 e5) l u = used f (omega arith) e2 e3 e4 e5
  phase-shrunk c' (wait f e1 e2 e3 e4 e5 e6) l u = wait f (omega arith) e2 e3 e4 e5 e6

module _ (B : ℕ) (offered : ℕ → Bool) (s s' : Seen) (g : Good B offered s) (taken : ℕ → Bool) (ps : List Live) (h : PlacedPhases B s s' taken ps) where
  no-new : (b : ℕ) → taken b ≡ false → total (len_on B b) ps ≡ 0
  no-new b e = none-on B b ps (all-imp (λ p t q. clash t (rw q e)) h.ps-taken)

  no_old : (b : ℕ) → taken b ≡ true → total (len_on B b) s.live ≡ 0
  no_old b e = (free-empty _ _ _ _ _ _ (g.phase b) (h.was_free b e)).1

  sum-live : (b : ℕ) → total (len_on B b) s'.live ≡ total (len_on B b) s.live + total (len_on B b) ps
  sum-live b = rw h.live (total-append (len_on B b) s.live ps)

  stays : (p : Live) → Memᴰ p s.live → 0 < p.length → taken (in_bucket B p) ≡ false
  stays p m i = go (taken (in_bucket B p)) refl
    where
      go : (t : Bool) → taken (in_bucket B p) ≡ t → t ≡ false
      go true e = absurd (omega (arith, no_old (in_bucket B p) e, mem-own B p s.live m))
      go false e = refl

  place-once : (x : ℕ) → total (occ x) s'.live ≤ 1
  place-once x = rw (h.live, total-append (occ x) s.live ps) (go (taken (x / B)) refl)
    where
      go : (t : Bool) → taken (x / B) ≡ t → total (occ x) s.live + total (occ x) ps ≤ 1
      go true e = omega (arith, no_old (x / B) e, h.ps-once x, occ-le B x s.live (all-imp (λ p i. i.0) g.placed))
      go false e = omega (arith, no-new (x / B) e, g.once x, occ-le B x ps (all-imp (λ p i. i.0) h.ps-placed))

  place-phase : (b : ℕ) → PhaseAt B offered s' b
  place-phase b = go (taken b) refl
    where
      go : (t : Bool) → taken b ≡ t → PhaseAt B offered s' b
      go true e =
          used (free-empty _ _ _ _ _ _ (g.phase b) (h.was_free b e)).0
          (h.cover-taken b e) (rw (h.kept b, e)) (omega (arith, sum-live b, h.ps-some b e)) (h.alloc-taken b e).0
          (omega (arith, sum-live b, no_old b e, (h.alloc-taken b e).1))
      go false e =
          rw (h.kept b, e, h.alloc_same b e, h.waits-same b, sum-live b, no-new b e, add-zero)
          (phase-shrunk _ _ _ _ _ _ (s'.cover b) (g.phase b) (h.cover-le b) (h.cover-same b e))

  pub place-good : Good B offered s'
  unfolding total
  place-good = record {
    once = place-once;
    placed = rw h.live
        (all_append
        (all-of s.live (λ p m. let i = all-at g.placed m in (i.0, rw (h.alloc_same (in_bucket B p) (stays p m i.0.0)) i.1)))
        h.ps-placed);
    phase = place-phase;
  }
