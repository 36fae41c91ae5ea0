-- The walk along a table from an index on, as far as a test holds, and what stands at the places that it comes to.
use mathlib.Core.Path.{◌≡◌, refl, ap}
use mathlib.Core.Bool.{Bool, true, false, cond}
use mathlib.Core.List.{List, [], ◌∷◌, map}
use Prim.Native.Nat.{ℕ, zero, suc, ◌+◌, ◌-◌, ◌≤◌, ◌<◌}
use native.Mathlib.Omega.{arith}
use lib.ListN.{length, take, drop, get_or}
use Rattle.std.specs.List.{prefix_len}
use Rattle.wire.specs.Bytes.{All, none, more}
use Rattle.wire.proofs.NumberLaws.{all_take, all_drop}
use Rattle.calls.proofs.lists.ListedLaws.{all-place}

-- what holds of each element holds of one that the walk comes to
pub all-walked : {A : Type 0} {P : A → Type 0} {l : List A} → All P l → (from k : ℕ) (x : A) → k < length (take (length l - from) (drop from l))
    → x ≡ get_or (take (length l - from) (drop from l)) k x → P x
all-walked {l = l} h from k x i e = all-place (all_take (length l - from) (all_drop from h)) k x i e

-- where a walk from an index that none before stops at ends
pub walk-on : {A : Type 0} (t : A → Bool) (l : List A) (from : ℕ) → from ≤ prefix_len t l → from + prefix_len t (drop from l) ≡ prefix_len t l
walk-on t l zero h = omega arith
walk-on t [] (suc n) h = absurd (omega arith)
walk-on t (x ∷ l) (suc n) h = go (t x) h (walk-on t l n)
  where
    go : (b : Bool) → suc n ≤ cond b (1 + prefix_len t l) 0 → (n ≤ prefix_len t l → n + prefix_len t (drop n l) ≡ prefix_len t l)
        → suc n + prefix_len t (drop n l) ≡ cond b (1 + prefix_len t l) 0
    go true h ih = omega (arith, ih (omega arith))
    go false h ih = absurd (omega arith)

-- a test of a list that a function makes
pub prefix-map : {A B : Type 0} (t : B → Bool) (f : A → B) (l : List A) → prefix_len (λ x. t (f x)) l ≡ prefix_len t (map f l)
prefix-map t f [] = refl
prefix-map t f (x ∷ l) = ap (λ n. cond (t (f x)) (1 + n) 0) (prefix-map t f l)

-- what is known by index
pub all-indexed : {A : Type 0} {P : A → Type 0} (d : A) (l : List A) → ((i : ℕ) → i < length l → P (get_or l i d)) → All P l
all-indexed d [] h = none
all-indexed d (x ∷ l) h = more (h 0 (omega arith)) (all-indexed d l (λ i k. h (suc i) (omega arith)))

pub prefix-within : {A : Type 0} (t : A → Bool) (l : List A) → prefix_len t l ≤ length l
prefix-within t [] = omega arith
prefix-within t (x ∷ l) = go (t x) (prefix-within t l)
  where
    go : (b : Bool) → prefix_len t l ≤ length l → cond b (1 + prefix_len t l) 0 ≤ length (x ∷ l)
    go true h = omega arith
    go false h = omega arith
