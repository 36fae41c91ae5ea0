-- A discard keeps the invariant: the buckets that it takes waited, and are free.
use mathlib.Core.Path.{◌≡◌, refl, ◌∙◌}
use mathlib.Core.Bool.{Bool, true, false, not, ◌&&◌, and-false, and-true}
use mathlib.Core.Option.{Option}
use Prim.Native.Nat.{ℕ, ◌+◌, ◌<◌}
use native.Mathlib.Omega.{arith}
use native.Mathlib.Nat.{add-zero}
use Rattle.calls.specs.Lists.{total, one}
use Rattle.calls.proofs.lists.AllLaws.{all-at, all-of}
use Rattle.calls.proofs.history.Phases.{in_bucket, len_on, Alloc, Seen, alloc_dirty, alloc_kind, Phase, idle, free, used, wait, PhaseAt, Good, mem-own}

-- what a discard does to what is seen: the buckets that it takes
pub record Discarding (s s' : Seen) (in_batch : ℕ → Bool) : Type 0 where
  pub live : s'.live ≡ s.live
  pub cover : (b : ℕ) → s'.cover b ≡ s.cover b + one (in_batch b)
  pub kept : (b : ℕ) → s'.kept b ≡ (s.kept b && not (in_batch b))
  pub waited : (b : ℕ) → in_batch b ≡ true → alloc_kind (s.alloc b) ≡ 9
  pub cleared : (b : ℕ) → in_batch b ≡ true → (alloc_kind (s'.alloc b) ≡ 0) × (alloc_dirty (s'.alloc b) ≡ alloc_dirty (s.alloc b))
  pub same : (b : ℕ) → in_batch b ≡ false → (s'.alloc b ≡ s.alloc b) × (s'.waits b ≡ s.waits b)

module _ (off : Bool) (c : ℕ) (k : Bool) (n : ℕ) (a : Option Alloc) (w : Bool) where
  phase-discard : (c' : ℕ) (k' : Bool) (a' : Option Alloc) (w' : Bool) → Phase off c k n a w → alloc_kind a ≡ 9 → c' ≡ c + 1 → k' ≡ false → alloc_kind a' ≡ 0 → alloc_dirty a' ≡ alloc_dirty a → Phase off c' k' n a' w'
  phase-discard c' k' a' w' (idle f e1 e2 e3) l u v x y = let z : alloc_kind a ≡ 0 = rw e3 in absurd (omega arith)
  phase-discard c' k' a' w' (free f e1 e2 e3 e4 e5) l u v x y = absurd (omega arith)
  phase-discard c' k' a' w' (used f e1 e2 e3 e4 e5) l u v x y = absurd (omega arith)
  phase-discard c' k' a' w' (wait f e1 e2 e3 e4 e5 e6) l u v x y = free f (omega arith) v e3 x (y ∙ e5)

  -- no run covers a bucket that waits
  pub wait-cover : Phase off c k n a w → alloc_kind a ≡ 9 → c ≡ 0
  wait-cover (idle f e1 e2 e3) h = let z : alloc_kind a ≡ 0 = rw e3 in absurd (omega arith)
  wait-cover (free f e1 e2 e3 e4 e5) h = absurd (omega arith)
  wait-cover (used f e1 e2 e3 e4 e5) h = e1
  wait-cover (wait f e1 e2 e3 e4 e5 e6) h = e1

  not-waiting : Phase off c k n a w → 0 < n → alloc_kind a ≡ 9 → ⊥
  not-waiting (idle f e1 e2 e3) l u = omega arith
  not-waiting (free f e1 e2 e3 e4 e5) l u = omega arith
  not-waiting (used f e1 e2 e3 e4 e5) l u = omega arith
  not-waiting (wait f e1 e2 e3 e4 e5 e6) l u = omega arith

module _ (B : ℕ) (offered : ℕ → Bool) (s s' : Seen) (g : Good B offered s) (in_batch : ℕ → Bool) (h : Discarding s s' in_batch) where
  discard-phase : (b : ℕ) → PhaseAt B offered s' b
  discard-phase b = rw h.live (go (in_batch b) refl)
    where
      go : (t : Bool) → in_batch b ≡ t → Phase (offered b) (s'.cover b) (s'.kept b) (total (len_on B b) s.live) (s'.alloc b) (s'.waits b)
      go true e =
          phase-discard _ _ _ _ _ _ (s'.cover b) (s'.kept b) (s'.alloc b) (s'.waits b) (g.phase b) (h.waited b e)
          (rw (h.cover b, e)) (rw (h.kept b, e) (and-false (s.kept b))) (h.cleared b e).0 (h.cleared b e).1
      go false e = rw (h.cover b, h.kept b, e, (h.same b e).0, (h.same b e).1, add-zero, and-true) (g.phase b)

  stays_put : (b : ℕ) → 0 < total (len_on B b) s.live → in_batch b ≡ false
  stays_put b l = go (in_batch b) refl
    where
      go : (t : Bool) → in_batch b ≡ t → t ≡ false
      go true e = absurd (not-waiting _ _ _ _ _ _ (g.phase b) l (h.waited b e))
      go false e = refl

  pub discard-good : Good B offered s'
  unfolding total
  discard-good = record {
    once = λ x. rw h.live (g.once x);
    placed = rw h.live (all-of s.live (λ p m.
        let i = all-at g.placed m in
        (i.0, rw (h.same (in_bucket B p) (stays_put (in_bucket B p) (omega (arith, i.0.0, mem-own B p s.live m)))).0 i.1)));
    phase = discard-phase;
  }
