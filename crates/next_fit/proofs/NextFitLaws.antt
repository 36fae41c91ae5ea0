-- Laws of next fit.
use mathlib.Core.Path.{◌≡◌, refl, sym, ap}
use mathlib.Core.Bool.{Bool, true, false, cond}
use mathlib.Core.Logic.{◌⊎◌, inl, inr, ⊎_elim}
use mathlib.Core.List.{List, [], ◌∷◌}
use Prim.Native.Nat.{ℕ, suc, ◌+◌, ◌≤◌, ◌<◌}
use native.Mathlib.Omega.{arith}
use lib.Dec.{leb}
use borrow.Author.Tests.{leb-true}
use Rattle.calls.specs.Pieces.{Slot, next_fit}

module _ (B i u z : ℕ) where
  -- the slot of the first piece, and those of the pieces after it
  module _ (t : Slot) (e : next_fit B i u (z ∷ []) ≡ t ∷ []) where
    pub fit_next : (zs : List ℕ) → next_fit B i u (z ∷ zs) ≡ t ∷ next_fit B t.index (t.offset + z) zs
    unfolding next_fit
    fit_next zs =
        let f = leb (u + z) B in
        let h : ◌≡◌ {A = Slot} (record { index = cond f i (suc i); offset = cond f u 0 }) t = cc in
        ap (λ (x : Slot). x ∷ next_fit B x.index (x.offset + z) zs) h

    -- it stays in the open bucket, or opens the next
    pub fit-cases : ((t.index ≡ i) × (t.offset ≡ u) × (u + z ≤ B)) ⊎ ((t.index ≡ i + 1) × (t.offset ≡ 0))
    unfolding next_fit
    fit-cases = go (leb (u + z) B) refl e
      where
        go : (f : Bool) → leb (u + z) B ≡ f → ◌≡◌ {A = List Slot} (record { index = cond f i (suc i); offset = cond f u 0 } ∷ []) (t ∷ [])
            → ((t.index ≡ i) × (t.offset ≡ u) × (u + z ≤ B)) ⊎ ((t.index ≡ i + 1) × (t.offset ≡ 0))
        go true f e =
            let h : ◌≡◌ {A = Slot} (record { index = i; offset = u }) t = cc in
            inl (ap (λ (x : Slot). x.index) (sym h), ap (λ (x : Slot). x.offset) (sym h), leb-true (u + z) B f)
        go false f e =
            let h : ◌≡◌ {A = Slot} (record { index = suc i; offset = 0 }) t = cc in
            inr (let g : t.index ≡ suc i = ap (λ (x : Slot). x.index) (sym h) in omega arith, ap (λ (x : Slot). x.offset) (sym h))

    pub fit-high : t.index ≤ i + 1
    fit-high = ⊎_elim (λ c. omega (arith, c.0)) (λ c. omega (arith, c.0)) fit-cases

    pub fit-used : {n : ℕ} → z < n → B < n → t.offset + z < n
    fit-used h k = ⊎_elim (λ c. omega (arith, c.1, c.2)) (λ c. omega (arith, c.1)) fit-cases

pub fit_none : (B i u : ℕ) → next_fit B i u [] ≡ []
unfolding next_fit
fit_none B i u = refl
