-- Totals over a list.
use mathlib.Core.Path.{◌≡◌, refl, ap, sym, ◌∙◌}
use mathlib.Core.Bool.{Bool, true, false, not, ◌&&◌}
use mathlib.Core.List.{List, [], ◌∷◌, ◌++◌, map, Memᴰ}
use Prim.Native.Nat.{ℕ, ◌+◌, ◌*◌, ◌^◌, ◌≤◌, ◌<◌}
use native.Mathlib.Omega.{arith}
use native.Mathlib.Nat.{zero-add, mul-zero}
use lib.Dec.{eqb}
use lib.ListN.{length}
use borrow.Author.Tests.{ne_eqb}
use Rattle.wire.specs.Bytes.{All, none, more}
use Rattle.calls.specs.Lists.{all_of, total, one, count}
use Rattle.calls.proofs.lists.AllLaws.{all-imp}

-- the first element and the rest
module _ {A : Type 0} (f : A → ℕ) where
  pub total-next : {l : List A} {x : A} {rest : List A} → l ≡ x ∷ rest → total f l ≡ f x + total f rest
  unfolding total
  total-next e = ap (total f) e

  pub total-none : {l : List A} → l ≡ [] → total f l ≡ 0
  unfolding total
  total-none e = ap (total f) e

-- lists that are joined or made, and functions that agree
pub total-append : {A : Type 0} (f : A → ℕ) (l m : List A) → total f (l ++ m) ≡ total f l + total f m
unfolding total
total-append f [] m = omega arith
total-append f (x ∷ xs) m = omega (arith, total-append f xs m)

pub total-map : {A C : Type 0} (f : C → ℕ) (g : A → C) (l : List A) → total f (map g l) ≡ total (λ (a : A). f (g a)) l
unfolding total
total-map f g [] = refl
total-map f g (x ∷ xs) = omega (arith, total-map f g xs)

pub total-same : {A : Type 0} (f g : A → ℕ) {l : List A} → All (λ (a : A). f a ≡ g a) l → total f l ≡ total g l
unfolding total
total-same f g none = refl
total-same f g (more h r) = omega (arith, total-same f g r)

pub total-constant : {A : Type 0} (f : A → ℕ) (n : ℕ) → ((a : A) → f a ≡ n) → (l : List A) → total f l ≡ length l * n
unfolding total
total-constant f n h [] = omega arith
total-constant f n h (x ∷ l) = omega (arith, h x, total-constant f n h l)

-- sums of sums
pub total-sum : {A : Type 0} (f g : A → ℕ) (l : List A) → total (λ (a : A). f a + g a) l ≡ total f l + total g l
unfolding total
total-sum f g [] = refl
total-sum f g (x ∷ xs) = omega (arith, total-sum f g xs)

pub total-swap : {A B : Type 0} (f : A → B → ℕ) (l : List A) (m : List B)
    → total (λ (a : A). total (f a) m) l ≡ total (λ (b : B). total (λ (a : A). f a b) l) m
unfolding total
total-swap f [] m = sym (total-constant (λ b. 0) 0 (λ b. refl) m ∙ mul-zero (length m))
total-swap f (x ∷ xs) m =
    ap (λ (n : ℕ). total (f x) m + n) (total-swap f xs m) ∙ sym (total-sum (f x) (λ b. total (λ a. f a b) xs) m)

-- one element's part
pub total-mem : {A : Type 0} (f : A → ℕ) (a : A) (l : List A) → Memᴰ a l → f a ≤ total f l
unfolding total
total-mem f a [] m = elim m [ ]
total-mem f a (x ∷ xs) (Memᴰ.head e) = rw e (omega arith)
total-mem f a (x ∷ xs) (Memᴰ.tail m) = omega (arith, total-mem f a xs m)

pub total-le : {A : Type 0} (f g : A → ℕ) {l : List A} → All (λ (a : A). f a ≤ g a) l → total f l ≤ total g l
unfolding total
total-le f g none = omega arith
total-le f g (more h r) = omega (arith, total-le f g r)

pub total-most : {A : Type 0} (f : A → ℕ) (m : ℕ) {l : List A} → All (λ (a : A). f a ≤ m) l → total f l ≤ length l * m
unfolding total
total-most f m none = omega arith
total-most f m (more h r) = omega (arith, total-most f m r)

-- a sum over 1,024 requests
pub total-small : {A : Type 0} (f : A → ℕ) {l : List A} → All (λ a. f a < 2 ^ 16) l → length l ≤ 1024 → total f l < 2 ^ 26
total-small f h n = omega (arith, total-most f 65535 (all-imp (λ a k. omega arith) h))

-- a test holds of all where it fails of none
pub all-count : {A : Type 0} (t : A → Bool) (l : List A) → all_of t l ≡ eqb (count (λ a. not (t a)) l) 0
unfolding all_of total
all-count t [] = refl
all-count t (x ∷ xs) = go (t x) (all-count t xs)
  where
    go : (b : Bool) → all_of t xs ≡ eqb (count (λ a. not (t a)) xs) 0 → (b && all_of t xs) ≡ eqb (one (not b) + count (λ a. not (t a)) xs) 0
    go true e = rw zero-add e
    go false e = sym (ne_eqb (1 + count (λ a. not (t a)) xs) 0 (λ z. omega arith))
