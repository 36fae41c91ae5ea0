-- The numbers of the sections, in order.
use mathlib.Core.Path.{◌≡◌, refl}
use mathlib.Core.Bool.{Bool, true, false, ◌&&◌, ◌||◌}
use mathlib.Core.List.{List, ◌∷◌}
use mathlib.Core.Logic.{◌⊎◌, inl, inr}
use Prim.Native.Nat.{ℕ, zero, suc, ◌≤◌, ◌<◌}
use native.Mathlib.Omega.{arith}
use lib.Dec.{leb, eqb}
use lib.ListN.{get_or}
use borrow.Author.Tests.{eqb-true, leb-true}
use Rattle.calls.proofs.lists.BoolLaws.{parts}
use Rattle.sorting.specs.Places.{is_tree, is_section}
use Rattle.sorting.specs.Entries.{sections}

tree-range : (t : ℕ) → is_tree t ≡ true → (t ≡ 4) ⊎ ((10 ≤ t) × (t ≤ 14))
unfolding is_tree
tree-range t h = go (eqb t 4) refl h
  where
    go : (u : Bool) → eqb t 4 ≡ u → (u || (leb 10 t && leb t 14)) ≡ true → (t ≡ 4) ⊎ ((10 ≤ t) × (t ≤ 14))
    go true e k = inl (eqb-true t 4 e)
    go false e k = let p = parts (leb 10 t) (leb t 14) k in inr (leb-true 10 t p.0, leb-true t 14 p.1)

pub tree-most : (t : ℕ) → is_tree t ≡ true → t ≤ 14
tree-most t h = go (tree-range t h)
  where
    go : (t ≡ 4) ⊎ ((10 ≤ t) × (t ≤ 14)) → t ≤ 14
    go (inl e) = omega arith
    go (inr p) = p.1

pub tree-least : (t : ℕ) → is_tree t ≡ true → 4 ≤ t
tree-least t h = go (tree-range t h)
  where
    go : (t ≡ 4) ⊎ ((10 ≤ t) × (t ≤ 14)) → 4 ≤ t
    go (inl e) = omega arith
    go (inr p) = omega (arith, p.0)

pub bucket-tree : (t : ℕ) → t ≡ 64 → is_tree t ≡ false
unfolding is_tree
bucket-tree t e = rw e

pub section-range : (t : ℕ) → is_section t ≡ true → (t ≡ 64) ⊎ (is_tree t ≡ true)
unfolding is_section
section-range t h = go (eqb t 64) refl h
  where
    go : (u : Bool) → eqb t 64 ≡ u → (u || is_tree t) ≡ true → (t ≡ 64) ⊎ (is_tree t ≡ true)
    go true e k = inl (eqb-true t 64 e)
    go false e k = inr k

pub section-some : (t : ℕ) → is_section t ≡ true → 0 < t
section-some t h = go (section-range t h)
  where
    tree : (t ≡ 4) ⊎ ((10 ≤ t) × (t ≤ 14)) → 0 < t
    tree (inl e) = omega arith
    tree (inr p) = omega (arith, p.0)

    go : (t ≡ 64) ⊎ (is_tree t ≡ true) → 0 < t
    go (inl e) = omega arith
    go (inr e) = tree (tree-range t e)

-- t is the section after a, or the first of all after 0
pub record Follows (a t : ℕ) : Type 0 where
  pub up : a < t
  pub section : is_section t ≡ true
  pub next : (u : ℕ) → is_section u ≡ true → a < u → t ≤ u

follows : (a t : ℕ) → a < t → t ≤ 64 → is_section t ≡ true → ((u : ℕ) → (u ≡ 4) ⊎ ((10 ≤ u) × (u ≤ 14)) → a < u → t ≤ u) → Follows a t
follows a t h m g f = record { up = h; section = g; next = λ u k. go u (section-range u k) }
  where
    go : (u : ℕ) → (u ≡ 64) ⊎ (is_tree u ≡ true) → a < u → t ≤ u
    go u (inl e) l = omega arith
    go u (inr e) l = f u (tree-range u e) l

pub follows-at : (i : ℕ) → i < 7 → Follows (get_or (0 ∷ sections) i 0) (get_or sections i 0)
unfolding is_section is_tree
follows-at zero h = follows 0 4 (omega arith) (omega arith) refl first
  where
    first : (u : ℕ) → (u ≡ 4) ⊎ ((10 ≤ u) × (u ≤ 14)) → 0 < u → 4 ≤ u
    first u (inl e) l = omega arith
    first u (inr p) l = omega (arith, p.0)
follows-at (suc zero) h = follows 4 10 (omega arith) (omega arith) refl second
  where
    second : (u : ℕ) → (u ≡ 4) ⊎ ((10 ≤ u) × (u ≤ 14)) → 4 < u → 10 ≤ u
    second u (inl e) l = absurd (omega arith)
    second u (inr p) l = p.0
follows-at (suc (suc zero)) h = follows 10 11 (omega arith) (omega arith) refl (λ u r l. l)
follows-at (suc (suc (suc zero))) h = follows 11 12 (omega arith) (omega arith) refl (λ u r l. l)
follows-at (suc (suc (suc (suc zero)))) h = follows 12 13 (omega arith) (omega arith) refl (λ u r l. l)
follows-at (suc (suc (suc (suc (suc zero))))) h = follows 13 14 (omega arith) (omega arith) refl (λ u r l. l)
follows-at (suc (suc (suc (suc (suc (suc zero)))))) h = follows 14 64 (omega arith) (omega arith) refl last
  where
    last : (u : ℕ) → (u ≡ 4) ⊎ ((10 ≤ u) × (u ≤ 14)) → 14 < u → 64 ≤ u
    last u (inl e) l = absurd (omega arith)
    last u (inr p) l = absurd (omega (arith, p.1))
follows-at (suc (suc (suc (suc (suc (suc (suc i))))))) h = absurd (omega arith)

-- the last of seven
pub last-at : (l : List ℕ) (i : ℕ) → i < 7 → 6 ≤ i → get_or l 6 0 ≡ get_or l i 0
last-at l i h k = let e : i ≡ 6 = omega arith in rw e
