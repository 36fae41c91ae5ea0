-- A release keeps the invariant: it takes out live pieces, none twice.
use mathlib.Core.Path.{◌≡◌, refl, sym, ◌∙◌}
use mathlib.Core.Bool.{Bool, true, false, cond}
use mathlib.Core.List.{List, [], ◌∷◌, Memᴰ}
use mathlib.Core.Option.{Option, none, some, none-ne-some, some-injective}
use Prim.Native.Nat.{ℕ, ◌+◌, ◌-◌, ◌/◌, ◌≤◌, ◌<◌}
use native.Mathlib.Omega.{arith}
use lib.Dec.{ltb, eqb}
use borrow.Author.Tests.{ltb-true, ltb-false, eqb-true}
use Rattle.wire.specs.Kinds.{same_sector}
use Rattle.calls.specs.Lists.{total}
use Rattle.calls.specs.CallList.{Freed}
use Rattle.calls.specs.History.{Live, names, with_first, take_out, and_then, take_all}
use Rattle.calls.proofs.lists.AllLaws.{all-at, all-of}
use Rattle.calls.proofs.lists.BoolLaws.{parts}
use Rattle.calls.proofs.history.Phases.{in_bucket, occ, len_on, Alloc, Seen, alloc_gen, alloc_dirty, alloc_kind, Phase, idle, free, used, wait, PhaseAt, Good, mem-own, counted}

-- the sectors that a request frees in bucket b
abbrev pub ask_on : ℕ → ℕ → Freed → ℕ
ask_on B b r = cond (eqb (r.first.0 / B) b) r.sectors 0

-- what taking one out does
pub record Out (r : Freed) (l l' : List Live) : Type 0 where
  pub piece : Live
  pub first : piece.first.0 ≡ r.first.0
  pub len : piece.length ≡ r.sectors
  pub sum : (f : Live → ℕ) → total f l ≡ f piece + total f l'
  pub rest : (p : Live) → Memᴰ p l' → Memᴰ p l

mem-under : {A : Type 0} (x p : A) (l l' : List A) → (Memᴰ p l' → Memᴰ p l) → Memᴰ p (x ∷ l') → Memᴰ p (x ∷ l)
mem-under x p l l' f (Memᴰ.head e) = Memᴰ.head e
mem-under x p l l' f (Memᴰ.tail m) = Memᴰ.tail (f m)

take_out_lem : (r : Freed) (l l' : List Live) → take_out r l ≡ some l' → Out r l l'
unfolding take_out total
take_out_lem r [] l' e = absurd (none-ne-some l' e)
take_out_lem r (p ∷ ps) l' e = go (names r p) refl (take_out r ps) (λ l'' q. take_out_lem r ps l'' q) e
  where
    go : (t : Bool) → names r p ≡ t → (o : Option (List Live)) → ((l'' : List Live) → o ≡ some l'' → Out r ps l'')
        → cond t (some ps) (with_first p o) ≡ some l' → Out r (p ∷ ps) l'
    go true d o ih q =
        let b = parts (same_sector r.first p.first) (eqb r.sectors p.length) d in
        rw (← some-injective ps l' q) (record {
          piece = p;
          first = sym (eqb-true r.first.0 p.first.0 b.0);
          len = sym (eqb-true r.sectors p.length b.1);
          sum = λ f. refl;
          rest = λ x m. Memᴰ.tail m;
        })
    go false d none ih q = absurd (none-ne-some l' q)
    go false d (some l'') ih q =
        let o = ih l'' refl in
        rw (← some-injective (p ∷ l'') l' q) (record {
          piece = o.piece;
          first = o.first;
          len = o.len;
          sum = λ f. omega (arith, o.sum f);
          rest = λ x m. mem-under p x ps l'' (o.rest x) m;
        })

-- what taking them all out does
pub record Outs (B : ℕ) (rs : List Freed) (l l' : List Live) : Type 0 where
  pub on : (b : ℕ) → total (len_on B b) l ≡ total (ask_on B b) rs + total (len_on B b) l'
  pub less : (f : Live → ℕ) → total f l' ≤ total f l
  pub rest : (p : Live) → Memᴰ p l' → Memᴰ p l

take_all_lem : (B : ℕ) (rs : List Freed) (l l' : List Live) → take_all rs l ≡ some l' → Outs B rs l l'
unfolding take_all total
take_all_lem B [] l l' e = rw (some-injective l l' e) (record { on = λ b. omega arith; less = λ f. omega arith; rest = λ p m. m })
take_all_lem B (r ∷ rs) l l' e = go (take_out r l) refl (λ m q. take_all_lem B rs m l' q) e
  where
    go : (o : Option (List Live)) → take_out r l ≡ o → ((m : List Live) → take_all rs m ≡ some l' → Outs B rs m l') → and_then o (take_all rs) ≡ some l' → Outs B (r ∷ rs) l l'
    go none d ih q = absurd (none-ne-some l' q)
    go (some m) d ih q =
        let o = take_out_lem r l m d in
        let t = ih m q in
        record {
          on = λ b.
              let e1 : len_on B b o.piece ≡ ask_on B b r = rw (o.first, o.len) in
              omega (arith, o.sum (len_on B b), t.on b);
          less = λ f. omega (arith, o.sum f, t.less f);
          rest = λ p h. o.rest p (t.rest p h);
        }

-- what a release does to what is seen, by the sectors that its requests free in each bucket
pub record Releasing (B : ℕ) (s s' : Seen) (rs : List Freed) : Type 0 where
  pub live : take_all rs s.live ≡ some s'.live
  pub cover : (b : ℕ) → s'.cover b ≡ s.cover b
  pub kept : (b : ℕ) → s'.kept b ≡ s.kept b
  pub waits : (b : ℕ) → s.waits b ≡ true → s'.waits b ≡ true
  pub held : (b : ℕ) → total (ask_on B b) rs ≤ alloc_dirty (s.alloc b)
  pub same : (b : ℕ) → total (ask_on B b) rs ≡ 0 → s'.alloc b ≡ s.alloc b
  pub part : (b : ℕ) → 0 < total (ask_on B b) rs → total (ask_on B b) rs < alloc_dirty (s.alloc b)
      → (alloc_gen (s'.alloc b) ≡ alloc_gen (s.alloc b)) × (alloc_kind (s'.alloc b) ≡ alloc_kind (s.alloc b)) × (alloc_dirty (s'.alloc b) ≡ alloc_dirty (s.alloc b) - total (ask_on B b) rs)
  pub emptied : (b : ℕ) → 0 < total (ask_on B b) rs → total (ask_on B b) rs ≡ alloc_dirty (s.alloc b)
      → (alloc_kind (s'.alloc b) ≡ 9) × (alloc_dirty (s'.alloc b) ≡ 0) × (s'.waits b ≡ true)

module _ (off : Bool) (c : ℕ) (k : Bool) (n : ℕ) (a : Option Alloc) (w : Bool) (w' : Bool) where
  phase-later : Phase off c k n a w → (w ≡ true → w' ≡ true) → Phase off c k n a w'
  phase-later (idle f e1 e2 e3) u = idle f e1 e2 e3
  phase-later (free f e1 e2 e3 e4 e5) u = free f e1 e2 e3 e4 e5
  phase-later (used f e1 e2 e3 e4 e5) u = used f e1 e2 e3 e4 e5
  phase-later (wait f e1 e2 e3 e4 e5 e6) u = wait f e1 e2 e3 e4 e5 (u e6)

  module _ (n' fr : ℕ) (a' : Option Alloc) (sum : n ≡ fr + n') (some-freed : 0 < fr) where
    phase-part : Phase off c k n a w → fr < alloc_dirty a → alloc_kind a' ≡ alloc_kind a → alloc_dirty a' ≡ alloc_dirty a - fr → Phase off c k n' a' w'
    phase-part (idle f e1 e2 e3) l u v = absurd (omega arith)
    phase-part (free f e1 e2 e3 e4 e5) l u v = absurd (omega arith)
    phase-part (used f e1 e2 e3 e4 e5) l u v = used f e1 e2 (omega arith) (u ∙ e4) (omega arith)
    phase-part (wait f e1 e2 e3 e4 e5 e6) l u v = absurd (omega arith)

    phase-emptied : Phase off c k n a w → fr ≡ alloc_dirty a → alloc_kind a' ≡ 9 → alloc_dirty a' ≡ 0 → w' ≡ true → Phase off c k n' a' w'
    phase-emptied (idle f e1 e2 e3) l u v t = absurd (omega arith)
    phase-emptied (free f e1 e2 e3 e4 e5) l u v t = absurd (omega arith)
    phase-emptied (used f e1 e2 e3 e4 e5) l u v t = wait f e1 e2 (omega arith) u v t
    phase-emptied (wait f e1 e2 e3 e4 e5 e6) l u v t = absurd (omega arith)

module _ (B : ℕ) (offered : ℕ → Bool) (s s' : Seen) (g : Good B offered s) (rs : List Freed) (h : Releasing B s s' rs) where
  outs : Outs B rs s.live s'.live
  outs = take_all_lem B rs s.live s'.live h.live

  freed : ℕ → ℕ
  freed b = total (ask_on B b) rs

  release-phase : (b : ℕ) → PhaseAt B offered s' b
  release-phase b = rw (h.cover b, h.kept b) (go (ltb 0 (total (ask_on B b) rs)) refl (ltb (total (ask_on B b) rs) (alloc_dirty (s.alloc b))) refl)
    where
      go : (t : Bool) → ltb 0 (total (ask_on B b) rs) ≡ t → (u : Bool) → ltb (total (ask_on B b) rs) (alloc_dirty (s.alloc b)) ≡ u
          → Phase (offered b) (s.cover b) (s.kept b) (total (len_on B b) s'.live) (s'.alloc b) (s'.waits b)
      go false e u d =
          let z : total (ask_on B b) rs ≡ 0 = omega (arith, ltb-false 0 (total (ask_on B b) rs) e) in
          let y : total (len_on B b) s'.live ≡ total (len_on B b) s.live = omega (arith, outs.on b) in
          rw (h.same b z, y) (phase-later _ _ _ _ _ _ (s'.waits b) (g.phase b) (h.waits b))
      go true e true d =
          let p = h.part b (ltb-true _ _ e) (ltb-true _ _ d) in
          phase-part _ _ _ _ _ _ (s'.waits b) (total (len_on B b) s'.live) (total (ask_on B b) rs) (s'.alloc b) (outs.on b) (ltb-true _ _ e)
          (g.phase b) (ltb-true _ _ d) p.1 p.2
      go true e false d =
          let q : total (ask_on B b) rs ≡ alloc_dirty (s.alloc b) = omega (arith, ltb-false (total (ask_on B b) rs) (alloc_dirty (s.alloc b)) d, h.held b) in
          let p = h.emptied b (ltb-true _ _ e) q in
          phase-emptied _ _ _ _ _ _ (s'.waits b) (total (len_on B b) s'.live) (total (ask_on B b) rs) (s'.alloc b) (outs.on b) (ltb-true _ _ e)
          (g.phase b) q p.0 p.1 p.2

  gen-stays : (b : ℕ) → 0 < total (len_on B b) s'.live → alloc_gen (s'.alloc b) ≡ alloc_gen (s.alloc b)
  gen-stays b l = go (ltb 0 (total (ask_on B b) rs)) refl
    where
      go : (t : Bool) → ltb 0 (total (ask_on B b) rs) ≡ t → alloc_gen (s'.alloc b) ≡ alloc_gen (s.alloc b)
      go false e = rw (h.same b (omega (arith, ltb-false 0 (total (ask_on B b) rs) e)))
      go true e = (h.part b (ltb-true _ _ e) (omega (arith, counted B offered s g b, outs.on b))).0

  pub release-good : Good B offered s'
  unfolding total
  release-good = record {
    once = λ x. omega (arith, g.once x, outs.less (occ x));
    placed = all-of s'.live (λ p m.
        let i = all-at g.placed (outs.rest p m) in
        (i.0, gen-stays (in_bucket B p) (omega (arith, i.0.0, mem-own B p s'.live m)) ∙ i.1));
    phase = release-phase;
  }
