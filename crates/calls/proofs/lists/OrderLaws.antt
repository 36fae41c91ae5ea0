-- A relation of each element of a list to the next.
use mathlib.Core.Path.{◌≡◌, refl, ap}
use mathlib.Core.Bool.{Bool, true, ◌&&◌}
use mathlib.Core.List.{List, [], ◌∷◌, map}
use Rattle.calls.specs.Lists.{in_order}
use Rattle.calls.proofs.lists.BoolLaws.{both, parts}

module _ {A : Type 0} where
  pub order-tail : (R : A → A → Bool) (x : A) (l : List A) → in_order R (x ∷ l) ≡ true → in_order R l ≡ true
  unfolding in_order
  order-tail R x [] h = refl
  order-tail R x (y ∷ l) h = (parts (R x y) _ h).1

  -- a relation that follows from another
  pub order-imp : (R Q : A → A → Bool) → ((x y : A) → R x y ≡ true → Q x y ≡ true) → (l : List A) → in_order R l ≡ true → in_order Q l ≡ true
  unfolding in_order
  order-imp R Q f [] h = refl
  order-imp R Q f (x ∷ []) h = refl
  order-imp R Q f (x ∷ y ∷ l) h = let p = parts (R x y) _ h in both (f x y p.0) (order-imp R Q f (y ∷ l) p.1)

  -- a relation that is the same
  pub order_same : (R Q : A → A → Bool) → ((x y : A) → R x y ≡ Q x y) → (l : List A) → in_order R l ≡ in_order Q l
  unfolding in_order
  order_same R Q f [] = refl
  order_same R Q f (x ∷ []) = refl
  order_same R Q f (x ∷ y ∷ l) = λ i. f x y i && order_same R Q f (y ∷ l) i

-- of a list that a function makes
pub order-map : {A B : Type 0} (R : B → B → Bool) (f : A → B) (l : List A) → in_order R (map f l) ≡ in_order (λ x y. R (f x) (f y)) l
unfolding in_order
order-map R f [] = refl
order-map R f (x ∷ []) = refl
order-map R f (x ∷ y ∷ l) = ap (λ (b : Bool). R (f x) (f y) && b) (order-map R f (y ∷ l))
