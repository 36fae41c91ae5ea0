-- Buckets that ascend strictly, from a number on.
use mathlib.Core.Path.{◌≡◌, refl}
use mathlib.Core.Bool.{Bool, true, false, cond}
use mathlib.Core.List.{List, [], ◌∷◌}
use Prim.Native.Nat.{ℕ, zero, suc, ◌≤◌, ◌<◌}
use native.Mathlib.Omega.{arith}
use lib.Dec.{ltb}
use lib.ListN.{length, get_or}
use borrow.Author.Tests.{lt-ltb, ltb-true, ltb-false, eqb-true, eqb-false}
use Rattle.wire.specs.Bytes.{All, none, more}
use Rattle.wire.specs.Kinds.{same_bucket, bucket_below, no_bucket}
use Rattle.wire.specs.declared.kinds.Bucket.{Bucket}
use Rattle.calls.specs.Lists.{those, last_or, in_order}
use Rattle.calls.specs.Buckets.{insert_bucket}
use Rattle.calls.proofs.lists.BoolLaws.{both, parts}

-- each once and ascending
abbrev pub Up : ℕ → List Bucket → Type 0
Up n [] = Unit {0}
Up n (b ∷ bs) = (n ≤ b.0) × Up (suc b.0) bs

pub order-up : (l : List Bucket) → in_order bucket_below l ≡ true → Up 0 l
unfolding in_order
order-up [] h = tt
order-up (b ∷ bs) h = (omega arith, go b bs h)
  where
    go : (b : Bucket) (bs : List Bucket) → in_order bucket_below (b ∷ bs) ≡ true → Up (suc b.0) bs
    go b [] h = tt
    go b (c ∷ cs) h = let p = parts (bucket_below b c) (in_order bucket_below (c ∷ cs)) h in (ltb-true b.0 c.0 p.0, go c cs p.1)

pub up-order : (n : ℕ) (l : List Bucket) → Up n l → in_order bucket_below l ≡ true
unfolding in_order
up-order n [] h = refl
up-order n (b ∷ []) h = refl
up-order n (b ∷ c ∷ cs) h = both (lt-ltb b.0 c.0 h.1.0) (up-order (suc b.0) (c ∷ cs) h.1)

pub up-weak : (m n : ℕ) (l : List Bucket) → m ≤ n → Up n l → Up m l
up-weak m n [] e h = tt
up-weak m n (b ∷ bs) e h = (omega (arith, h.0), h.1)

pub up-insert : (n : ℕ) (b : Bucket) (l : List Bucket) → n ≤ b.0 → Up n l → Up n (insert_bucket b l)
unfolding insert_bucket
up-insert n b [] e h = (e, tt)
up-insert n b (c ∷ cs) e h = go (bucket_below b c) refl (same_bucket b c) refl (λ l. up-insert (suc c.0) b cs l h.1)
  where
    go : (x : Bool) → bucket_below b c ≡ x → (y : Bool) → same_bucket b c ≡ y
        → (suc c.0 ≤ b.0 → Up (suc c.0) (insert_bucket b cs))
        → Up n (cond x (b ∷ c ∷ cs) (cond y (c ∷ cs) (c ∷ insert_bucket b cs)))
    go true p y q f = (e, (ltb-true b.0 c.0 p, h.1))
    go false p true q f = h
    go false p false q f = (h.0, f (omega (arith, ltb-false b.0 c.0 p, eqb-false b.0 c.0 q)))

pub up-those : (t : Bucket → Bool) (n : ℕ) (l : List Bucket) → Up n l → Up n (those t l)
unfolding those
up-those t n [] h = tt
up-those t n (b ∷ bs) h = go (t b) (up-those t (suc b.0) bs h.1)
  where
    go : (x : Bool) → Up (suc b.0) (those t bs) → Up n (cond x (b ∷ those t bs) (those t bs))
    go true u = (h.0, u)
    go false u = up-weak n (suc b.0) (those t bs) (omega (arith, h.0)) u

-- ---- by index
-- none is below the number, and each is above those before it
pub up_from : (n : ℕ) (l : List Bucket) (i : ℕ) → Up n l → i < length l → n ≤ (get_or l i no_bucket).0
up_from n [] i u h = absurd (omega arith)
up_from n (b ∷ bs) zero u h = u.0
up_from n (b ∷ bs) (suc i) u h = omega (arith, u.0, up_from (suc b.0) bs i u.1 (omega arith))

pub up-before : (n : ℕ) (l : List Bucket) (i j : ℕ) → Up n l → i < j → j < length l → (get_or l i no_bucket).0 < (get_or l j no_bucket).0
up-before n [] i j u l h = absurd (omega arith)
up-before n (b ∷ bs) i zero u l h = absurd (omega arith)
up-before n (b ∷ bs) zero (suc j) u l h = up_from (suc b.0) bs j u.1 (omega arith)
up-before n (b ∷ bs) (suc i) (suc j) u l h = up-before (suc b.0) bs i j u.1 (omega arith) (omega arith)

-- the same bucket stands at one index alone
pub ascend-same : (l : List Bucket) → in_order bucket_below l ≡ true → (i j : ℕ) → i < length l → j < length l
    → same_bucket (get_or l i no_bucket) (get_or l j no_bucket) ≡ true
    → i ≡ j
ascend-same l h i j k m e = go (ltb i j) refl (ltb j i) refl
  where
    u : Up 0 l
    u = order-up l h

    same : (get_or l i no_bucket).0 ≡ (get_or l j no_bucket).0
    same = eqb-true (get_or l i no_bucket).0 (get_or l j no_bucket).0 e

    go : (x : Bool) → ltb i j ≡ x → (y : Bool) → ltb j i ≡ y → i ≡ j
    go true p y q = absurd (omega (arith, up-before 0 l i j u (ltb-true i j p) m, same))
    go false p true q = absurd (omega (arith, up-before 0 l j i u (ltb-true j i q) k, same))
    go false p false q = omega (arith, ltb-false i j p, ltb-false j i q)

-- none is above the last
pub up-last : (n : ℕ) (b : Bucket) (bs : List Bucket) → Up n (b ∷ bs) → All (λ c. c.0 ≤ (last_or b bs).0) (b ∷ bs)
unfolding last_or
up-last n b [] u = more {a = b} (omega arith) none
up-last n b (c ∷ cs) u =
    let r = up-last (suc b.0) c cs u.1 in
    more {a = b} (first r) r
  where
    first : All (λ d. d.0 ≤ (last_or c cs).0) (c ∷ cs) → b.0 ≤ (last_or c cs).0
    first (more h q) = omega (arith, h, u.1.0)
