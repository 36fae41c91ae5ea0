-- Loops over lists side by side: what a loop over pairs has at a turn, and two ways to have pairs.
use mathlib.Core.Path.{◌≡◌, ap, ◌∙◌}
use mathlib.Core.List.{List}
use Prim.Native.Nat.{◌<◌}
use native.Mathlib.Omega.{arith}
use lib.ListN.{length, get_or}
use Rattle.std.proofs.Common.{Bor, Iter, Option, Some}
use Rattle.std.specs.declared.iter.Zip.{Zip}
use Rattle.std.specs.Iterator.{Yields, YieldsFirstBy}
use Rattle.std.specs.Iterator.Adapters.{zip_first, zip_second}
use Rattle.std.specs.List.{zip}
use Rattle.std.specs.Slice.Iter.{iter_rest}
use Rattle.std.proofs.iter.Yields.{fronts}
use Rattle.std.proofs.lemmas.Iterator.{YieldsList, zips, YieldsList-from_slice, YieldsList-from_zip}
use Rattle.std.proofs.lemmas.Iterator.Consumers.{YieldsList-from_first, YieldsList-turn}
use Rattle.std.proofs.lemmas.List.{get_or_default}
use Rattle.std.proofs.lemmas.Slice.Zip.{length-zip, get_or-zip}

-- the pair at a turn: both lists have it, at one index
pub pair-turn : {S A C D : Type 0} {steps : S → Option A → S → Type 0} {v : A → C × D} {s : S} (ks : List C) (vs : List D) → YieldsList steps v s (zip ks vs)
    → (xs : List A) (t : S) → Yields steps s xs t → (r : Option A) (u : S) (x : A) → r ≡ Some x → steps t r u
    → (length xs < length ks) × (length xs < length vs) × ((d : C) → (v x).0 ≡ get_or ks (length xs) d) × ((d : D) → (v x).1 ≡ get_or vs (length xs) d)
pair-turn {C = C} {D = D} {v = v} ks vs e xs t y r u x is st =
    let i = length xs in
    let q = YieldsList-turn e xs t y r u x is st in
    let k : i < length ks = omega (arith, q.0, length-zip ks vs) in
    let h : i < length vs = omega (arith, q.0, length-zip ks vs) in
    let g : v x ≡ (get_or ks i (v x).0, get_or vs i (v x).1) = q.1 ∙ get_or-zip ks vs i (v x) k h in (
      k,
      h,
      (λ d. ap (λ (p : C × D). p.0) g ∙ get_or_default ks i (v x).0 d k),
      λ d. ap (λ (p : C × D). p.1) g ∙ get_or_default vs i (v x).1 d h,
    )

-- two slices
pub two-slices : {A B : Type 0} {s z : Zip (Iter A) (Iter B)} {i : Iter A} (ks : List A) (vs : List B) → s ≡ z → zip_first z ≡ i → iter_rest i ≡ ks
    → iter_rest (zip_second z) ≡ vs → YieldsList (zips fronts fronts) (λ (p : Bor A × Bor B). (p.0.now, p.1.now)) s (zip ks vs)
two-slices ks vs e f a b =
    YieldsList-from_zip (YieldsList-from_slice ks (ap (λ x. iter_rest (zip_first x)) e ∙ ap iter_rest f ∙ a))
    (YieldsList-from_slice vs (ap (λ x. iter_rest (zip_second x)) e ∙ b))

-- three slices
pub three-slices : {A B C : Type 0} {s z : Zip (Zip (Iter A) (Iter B)) (Iter C)} {y : Zip (Iter A) (Iter B)} {i : Iter A} (ks : List A) (vs : List B) (ws : List C)
    → s ≡ z → zip_first z ≡ y → zip_first y ≡ i → iter_rest i ≡ ks → iter_rest (zip_second y) ≡ vs → iter_rest (zip_second z) ≡ ws
    → YieldsList (zips (zips fronts fronts) fronts) (λ (p : (Bor A × Bor B) × Bor C). ((p.0.0.now, p.0.1.now), p.1.now)) s (zip (zip ks vs) ws)
three-slices ks vs ws e g f a b c =
    YieldsList-from_zip (two-slices ks vs (ap zip_first e ∙ g) f a b) (YieldsList-from_slice ws (ap (λ x. iter_rest (zip_second x)) e ∙ c))

-- a slice, and an iterator that shows what it has left
pub slice-and-rest : {A T B D : Type 0} {s z : Zip (Iter A) T} {i : Iter A} {j : T} (v : B → D) (rest : T → List D) (ks : List A) (ws : List D)
    → s ≡ z → zip_first z ≡ i → zip_second z ≡ j → iter_rest i ≡ ks → rest j ≡ ws
    → YieldsList (zips fronts (YieldsFirstBy v rest)) (λ (p : Bor A × B). (p.0.now, v p.1)) s (zip ks ws)
slice-and-rest v rest ks ws e f g a b =
    YieldsList-from_zip (YieldsList-from_slice ks (ap (λ x. iter_rest (zip_first x)) e ∙ ap iter_rest f ∙ a))
    (YieldsList-from_first v rest ws (ap (λ x. rest (zip_second x)) e ∙ ap rest g ∙ b))
