-- Tests, choices and sums over a list.
use Rattle.std.specs.Prelude.{ℕ, ◌+◌, max, List, [], ◌∷◌, Bool, true, false, ◌&&◌, ◌||◌, cond}
use Rattle.std.proofs.Math.Option.{Option, none, some}

-- the test holds of every element
unfoldable pub all_of : {A : Type 0} → (A → Bool) → List A → Bool
all_of t [] = true
all_of t (x ∷ xs) = t x && all_of t xs

-- the test holds of some element
unfoldable pub any_of : {A : Type 0} → (A → Bool) → List A → Bool
any_of t [] = false
any_of t (x ∷ xs) = t x || any_of t xs

-- the elements of which the test holds
unfoldable pub those : {A : Type 0} → (A → Bool) → List A → List A
those t [] = []
those t (x ∷ xs) = cond (t x) (x ∷ those t xs) (those t xs)

-- the last element, or another where there is none
unfoldable pub last_or : {A : Type 0} → A → List A → A
last_or d [] = d
last_or d (x ∷ xs) = last_or x xs

-- each element stands in this relation to the next
unfoldable pub in_order : {A : Type 0} → (A → A → Bool) → List A → Bool
in_order before [] = true
in_order before (x ∷ []) = true
in_order before (x ∷ y ∷ xs) = before x y && in_order before (y ∷ xs)

-- the sum of a number of each element
unfoldable pub total : {A : Type 0} → (A → ℕ) → List A → ℕ
total f [] = 0
total f (x ∷ xs) = f x + total f xs

-- 1 where a test holds, else 0
abbrev pub one : Bool → ℕ
one t = cond t 1 0

-- of how many elements the test holds
abbrev pub count : {A : Type 0} → (A → Bool) → List A → ℕ
count t xs = total (λ x. one (t x)) xs

-- the largest number, or 0
unfoldable pub largest : List ℕ → ℕ
largest [] = 0
largest (x ∷ xs) = max x (largest xs)

abbrev pub is_none : {A : Type 0} → Option A → Bool
is_none none = true
is_none (some x) = false

-- a case of an option, and f of the other
abbrev pub from_option : {A B : Type 0} → B → (A → B) → Option A → B
from_option d f none = d
from_option d f (some x) = f x

abbrev pub is_empty : {A : Type 0} → List A → Bool
is_empty [] = true
is_empty (x ∷ xs) = false
