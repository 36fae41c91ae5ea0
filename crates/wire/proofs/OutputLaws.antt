-- Laws of `put` and of what an emitter promises, each with no bound on the place.
use mathlib.Core.Path.{◌≡◌, refl, sym, ap, ◌∙◌}
use Prim.Native.Nat.{ℕ, zero, suc, ◌+◌, ◌*◌, ◌≤◌, ◌<◌}
use native.Mathlib.Nat.{add-zero, zero-mul, suc-mul, add_comm}
use native.Mathlib.Omega.{arith}
use native.Mathlib.Numerals.{add-one}
use mathlib.Core.List.{List, [], ◌∷◌, ◌++◌}
use lib.ListN.{length, length-append, get_or, set, take, drop}
use lib.Seq.{sets, length-sets, set_out, sets-eq, drop-cons}
use Rattle.wire.specs.Numbers.{each}
use Rattle.wire.specs.Output.{put}

pub put-length : (xs : List ℕ) (at : ℕ) (bs : List ℕ) → length (put xs at bs) ≡ length xs
unfolding put
put-length xs at bs = length-sets xs at bs

pub put-nil : (xs : List ℕ) (at : ℕ) → put xs at [] ≡ xs
unfolding put
put-nil xs at = refl

-- one run after another is one run
pub put-put : (xs : List ℕ) (at : ℕ) (us bs : List ℕ) → put (put xs at us) (at + length us) bs ≡ put xs at (us ++ bs)
unfolding put
put-put xs at [] bs = ap (λ (n : ℕ). sets xs n bs) (add-zero at)
put-put xs at (u ∷ us) bs =
    ap (λ (n : ℕ). sets (sets (set xs at u) (suc at) us) n bs) (omega arith)
    ∙ put-put (set xs at u) (suc at) us bs

-- past the end nothing is stored
pub put-out : (bs xs : List ℕ) (at : ℕ) → length xs ≤ at → put xs at bs ≡ xs
unfolding put
put-out [] xs at h = refl
put-out (b ∷ bs) xs at h =
    ap (λ (l : List ℕ). sets l (suc at) bs) (set_out xs at b h) ∙ put-out bs xs (suc at) (omega arith)

-- where there is room: what stood before, the run, what stood after
pub put-eq : (bs xs : List ℕ) (at : ℕ) → at + length bs ≤ length xs → put xs at bs ≡ take at xs ++ bs ++ drop (at + length bs) xs
unfolding put
put-eq bs xs at h = sets-eq bs xs at h

pub set-take : (n i x : ℕ) (l : List ℕ) → take n (set l i x) ≡ set (take n l) i x
set-take zero i x l = refl
set-take (suc n) i x [] = refl
set-take (suc n) zero x (y ∷ l) = refl
set-take (suc n) (suc i) x (y ∷ l) = ap (λ (k : List ℕ). y ∷ k) (set-take n i x l)

-- the first n bytes see a store as the whole does
pub put-take : (n : ℕ) (xs : List ℕ) (at : ℕ) (bs : List ℕ) → take n (put xs at bs) ≡ put (take n xs) at bs
unfolding put
put-take n xs at [] = refl
put-take n xs at (b ∷ bs) = put-take n (set xs at b) (suc at) bs ∙ ap (λ (l : List ℕ). sets l (suc at) bs) (set-take n at b xs)

pub drop-next : {A : Type 0} (d : A) (l : List A) (i : ℕ) → i < length l → drop i l ≡ get_or l i d ∷ drop (i + 1) l
drop-next d l i h = rw (add-one, drop-cons l i d h)

-- f of each element from a first on: f of that one, and of each after it
pub each_next : {A : Type 0} (f : A → List ℕ) {l : List A} {x : A} {rest : List A} → l ≡ x ∷ rest → each f l ≡ f x ++ each f rest
unfolding each
each_next f e = ap (each f) e

pub each_none : {A : Type 0} (f : A → List ℕ) {l : List A} → l ≡ [] → each f l ≡ []
unfolding each
each_none f e = ap (each f) e

-- n elements of k bytes
pub each-length : {A : Type 0} (k : ℕ) (f : A → List ℕ) → ((x : A) → length (f x) ≡ k) → (l : List A) → length (each f l) ≡ length l * k
unfolding each
each-length k f h [] = sym (zero-mul k)
each-length k f h (x ∷ l) = simp (length-append, h, each-length k f h l) (add_comm _ _ ∙ sym (suc-mul _ _))
