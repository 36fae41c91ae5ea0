-- `map` beside `take`, `drop`, `set` and `get_or`; a list that is empty.
use mathlib.Core.Path.{◌≡◌, refl, sym, ap, ◌∙◌}
use mathlib.Core.List.{List, [], ◌∷◌, map}
use Prim.Native.Nat.{ℕ, zero, suc, ◌<◌}
use native.Mathlib.Omega.{arith}
use lib.Dec.{eqb}
use lib.ListN.{length, take, drop, get_or, set}
use lib.Seq.{drop-cons, get_or-set_same, drop-set-lt, lt-length-set}
use borrow.Author.Tests.{ne_eqb}
use Rattle.calls.specs.Lists.{is_empty}

pub map-take : {A B : Type 0} (f : A → B) (n : ℕ) (xs : List A) → take n (map f xs) ≡ map f (take n xs)
map-take f zero xs = refl
map-take f (suc n) [] = refl
map-take f (suc n) (x ∷ xs) = ap (λ l. f x ∷ l) (map-take f n xs)

pub map-drop : {A B : Type 0} (f : A → B) (n : ℕ) (xs : List A) → drop n (map f xs) ≡ map f (drop n xs)
map-drop f zero xs = refl
map-drop f (suc n) [] = refl
map-drop f (suc n) (x ∷ xs) = map-drop f n xs

pub drop-set : (l : List ℕ) (i a : ℕ) → i < length l → drop i (set l i a) ≡ a ∷ drop (suc i) l
drop-set l i a h =
    drop-cons (set l i a) i 0 (lt-length-set l i a h)
    ∙ (λ j. get_or-set_same l i a 0 h j ∷ drop-set-lt (suc i) l i a (omega arith) j)

pub empty-length : {A : Type 0} (l : List A) → is_empty l ≡ eqb (length l) 0
empty-length [] = refl
empty-length (x ∷ l) = sym (ne_eqb (suc (length l)) 0 (λ z. omega arith))

-- a number of the element at an index
pub map-got : {A : Type 0} (f : A → ℕ) (xs : List A) (i : ℕ) (d : A) → i < length xs → get_or (map f xs) i 0 ≡ f (get_or xs i d)
map-got f [] i d h = absurd (omega arith)
map-got f (x ∷ xs) zero d h = refl
map-got f (x ∷ xs) (suc i) d h = map-got f xs i d (omega arith)
