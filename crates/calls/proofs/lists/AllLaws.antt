-- What holds of each element of a list: `All` beside `all_of`, `those`, `map`, membership and indexes.
use mathlib.Core.Path.{◌≡◌, refl, sym, subst}
use mathlib.Core.Bool.{Bool, true, false, cond}
use mathlib.Core.List.{List, [], ◌∷◌, map, flat_map, Memᴰ}
use Prim.Native.Nat.{ℕ, zero, suc, ◌<◌}
use native.Mathlib.Omega.{arith}
use lib.ListN.{length, drop, get_or}
use Rattle.wire.specs.Bytes.{All, none, more}
use Rattle.wire.proofs.NumberLaws.{all_append}
use Rattle.calls.specs.Lists.{all_of, those}
use Rattle.calls.proofs.lists.BoolLaws.{both, parts}

-- of a list that is not empty
module _ {A : Type 0} {P : A → Type 0} {x : A} {xs : List A} where
  pub first : All P (x ∷ xs) → P x
  first (more h r) = h

  pub all_tail : All P (x ∷ xs) → All P xs
  all_tail (more h r) = r

-- of an element
pub all-at : {A : Type 0} {P : A → Type 0} {l : List A} {a : A} → All P l → Memᴰ a l → P a
all-at none m = elim m [ ]
all-at {P} (more h r) (Memᴰ.head e) = subst P (sym e) h
all-at (more h r) (Memᴰ.tail m) = all-at r m

pub all_any : {A : Type 0} {P : A → Type 0} → ((a : A) → P a) → (l : List A) → All P l
all_any f [] = none
all_any f (x ∷ xs) = more (f x) (all_any f xs)

pub all-of : {A : Type 0} {P : A → Type 0} (l : List A) → ((a : A) → Memᴰ a l → P a) → All P l
all-of [] f = none
all-of (x ∷ xs) f = more (f x (Memᴰ.head refl)) (all-of xs (λ a m. f a (Memᴰ.tail m)))

-- of the element at an index
pub all-nth : {A : Type 0} {P : A → Type 0} (d : A) {s : List A} → All P s → (i : ℕ) → i < length s → P (get_or s i d)
all-nth d none i h = absurd (omega arith)
all-nth d (more p r) zero h = p
all-nth d (more p r) (suc i) h = all-nth d r i (omega arith)

pub all-drop-nth : {A : Type 0} {P : A → Type 0} (d : A) (s : List A) (i : ℕ) → All P (drop i s) → i < length s → P (get_or s i d)
all-drop-nth d [] i r h = absurd (omega arith)
all-drop-nth d (x ∷ s) zero (more p r) h = p
all-drop-nth d (x ∷ s) (suc i) r h = all-drop-nth d s i r (omega arith)

-- what follows from what holds
module _ {A : Type 0} {P Q : A → Type 0} where
  pub all-imp : ((a : A) → P a → Q a) → {s : List A} → All P s → All Q s
  all-imp f none = none
  all-imp f (more {a} h r) = more (f a h) (all-imp f r)

pub all-each : {A : Type 0} {P : A → Type 0} → ((a : A) → P a) → (s : List A) → All P s
all-each f [] = none
all-each f (x ∷ xs) = more (f x) (all-each f xs)

module _ {A : Type 0} {P Q R : A → Type 0} where
  pub all_join : ((a : A) → P a → Q a → R a) → {s : List A} → All P s → All Q s → All R s
  all_join f none none = none
  all_join f (more {a} h r) (more k q) = more (f a h k) (all_join f r q)

pub all-zip : {A : Type 0} {P Q : A → Type 0} {s : List A} → All P s → All Q s → All (λ a. P a × Q a) s
all-zip h k = all_join (λ a p q. (p, q)) h k

-- the elements of a list that a function makes
module _ {A B : Type 0} {P : B → Type 0} (f : A → B) where
  pub all_map : {s : List A} → All (λ a. P (f a)) s → All P (map f s)
  all_map none = none
  all_map (more h r) = more h (all_map r)

module _ {A : Type 0} (t : A → Bool) where
  pub all-test : {s : List A} → All (λ a. t a ≡ true) s → all_of t s ≡ true
  unfolding all_of
  all-test none = refl
  all-test (more h r) = both h (all-test r)

  pub test-all : (s : List A) → all_of t s ≡ true → All (λ a. t a ≡ true) s
  unfolding all_of
  test-all [] h = none
  test-all (x ∷ xs) h = let p = parts (t x) (all_of t xs) h in more p.0 (test-all xs p.1)

module _ {A B : Type 0} {P : B → Type 0} (f : A → List B) where
  pub all-flat : {s : List A} → All (λ a. All P (f a)) s → All P (flat_map f s)
  unfolding flat_map
  all-flat none = none
  all-flat (more h r) = all_append h (all-flat r)

-- those of which a test holds
module _ {A : Type 0} (t : A → Bool) where
  pub all-chosen : {P : A → Type 0} {s : List A} → All P s → All (λ a. (t a ≡ true) × P a) (those t s)
  unfolding those
  all-chosen none = none
  all-chosen {P} (more {a} {s} h r) = go (t a) refl (all-chosen r)
    where
      go : (b : Bool) → t a ≡ b → All (λ a. (t a ≡ true) × P a) (those t s) → All (λ a. (t a ≡ true) × P a) (cond b (a ∷ those t s) (those t s))
      go true e q = more (e, h) q
      go false e q = q

  pub all-those : {P : A → Type 0} {s : List A} → All P s → All P (those t s)
  all-those h = all-imp (λ a k. k.1) (all-chosen h)

-- what one function undoes of another
module _ {A B : Type 0} (w : A → B) (r : B → A) where
  pub map_back : {s : List A} → All (λ a. r (w a) ≡ a) s → map r (map w s) ≡ s
  map_back none = refl
  map_back (more {s} h q) = λ i. h i ∷ map_back q i
