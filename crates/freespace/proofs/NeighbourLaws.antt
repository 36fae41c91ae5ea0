-- What `is_sorted_by` answers at an iterator that gives the elements of a list.
use mathlib.Core.Path.{◌≡◌, refl, sym, ap, subst, ◌∙◌}
use mathlib.Core.Bool.{Bool, true, false, ◌&&◌}
use mathlib.Core.List.{List, [], ◌∷◌}
use denote.Param.Members.{Mut}
use denote.Ref.{Bor}
use Rattle.std.proofs.Common.{inl, inr}
use Rattle.std.proofs.lemmas.Iterator.{YieldsList}
use Rattle.std.specs.Prelude.{Option, None, Some}
use Rattle.std.specs.Fn.{CalledAtTwo}
use Rattle.std.specs.Iterator.{Yields, AlwaysYields}
use Rattle.std.specs.Iterator.Order.{OrderTurn, ChecksNeighbours}
use Rattle.std.specs.List.{FoldsTo}
use Rattle.std.specs.Option.{MatchOption}

-- a test holds of each element of a list and the next, of one before the first too
abbrev pub neighbours_from : {A : Type 0} → (A → A → Bool) → A → List A → Bool
neighbours_from t x [] = true
neighbours_from t x (y ∷ ys) = t x y && neighbours_from t y ys

-- a test holds of each element of a list and the next
abbrev pub neighbours : {A : Type 0} → (A → A → Bool) → List A → Bool
neighbours t [] = true
neighbours t (x ∷ xs) = neighbours_from t x xs

module _ {S A F : Type 0} (steps : S → Option A → S → Type 0) (g : Mut F (Bor A × (Bor A × Unit {0})) Bool) (t : A → A → Bool) (f : F)
    (acts : (x y : A) (b : Bool) (q : F) → CalledAtTwo g f x y b q → (q ≡ f) × (b ≡ t x y)) {r : Bool} where
  -- from an element on, after which so many were passed
  after :
      (xs all : List A) (o : Option A) (x : A) (p : F) (s v u : S) (q : F × A) → p ≡ f → Yields steps s xs v → steps v o u
      → FoldsTo {P = F × A} (OrderTurn g) (p, x) xs q
      → MatchOption o (r ≡ true) (λ y. (r ≡ false) × ((h : F) × CalledAtTwo g q.0 q.1 y false h))
      → AlwaysYields steps (λ z. z) s all
      → r ≡ neighbours_from t x all
  after [] [] None x p s v u q i e h w m a = m
  after [] (z ∷ zs) None x p s v u q i e h w m a = absurd (a.0 u (subst (λ k. steps k None u) (sym e) h))
  after [] [] (Some y) x p s v u q i e h w m a = absurd (a y u (subst (λ k. steps k (Some y) u) (sym e) h))
  after [] (z ∷ zs) (Some y) x p s v u q i e h w m a =
      let same : y ≡ z = (a.1 y u (subst (λ k. steps k (Some y) u) (sym e) h)).0 in
      let at : CalledAtTwo g p x y false m.1.0 = subst (λ (k : F × A). CalledAtTwo g k.0 k.1 y false m.1.0) (sym w) m.1.1 in
      let call : CalledAtTwo g f x z false m.1.0 = subst (λ k. CalledAtTwo g f x k false m.1.0) same (subst (λ k. CalledAtTwo g k x y false m.1.0) i at) in
      m.0 ∙ ap (λ (b : Bool). b && neighbours_from t z zs) (acts x z false m.1.0 call).1
  after (z ∷ zs) [] o x p s v u q i e h w m a = absurd (a z e.0 e.1)
  after (z ∷ zs) (k ∷ ks) o x p s v u q i e h w m a =
      let b = a.1 z e.0 e.1 in
      let call : CalledAtTwo g f x z true w.0.0 = subst (λ l. CalledAtTwo g l x z true w.0.0) i w.1.0 in
      let c = acts x z true w.0.0 call in
      after zs ks o w.0.1 w.0.0 e.0 v u q c.0 e.2 h w.2 m b.1
      ∙ ap (λ l. neighbours_from t l ks) (w.1.1 ∙ b.0)
      ∙ ap (λ (l : Bool). l && neighbours_from t k ks) (c.1 ∙ ap (t x) b.0)

  -- the answer at the whole list
  pub neighbours-checked : (all : List A) {s : S} → ChecksNeighbours g steps s f r → YieldsList steps (λ z. z) s all → r ≡ neighbours t all
  neighbours-checked [] (inl d) y = d.1
  neighbours-checked (z ∷ zs) {s} (inl d) y = absurd (y.runs.0 d.0.0 (subst (λ k. steps k None d.0.0) (sym d.0.1.1) d.0.1.2))
  neighbours-checked [] (inr d) y = absurd (y.runs d.0 d.5.1.0 d.5.1.1)
  neighbours-checked (z ∷ zs) (inr d) y =
      let b = y.runs.1 d.0 d.5.1.0 d.5.1.1 in
      after d.1 zs d.2 d.0 f d.5.1.0 d.5.0 d.3 d.4 refl d.5.1.2 d.5.2 d.6 d.7 b.1 ∙ ap (λ l. neighbours_from t l zs) b.0
