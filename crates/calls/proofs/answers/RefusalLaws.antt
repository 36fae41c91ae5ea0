-- The first refusal of some tests: the test that holds, the one that fails, and that none fails of an accepted call.
use mathlib.Core.Path.{◌≡◌, refl, sym, ap, ◌∙◌}
use mathlib.Core.Bool.{Bool, true, false, ◌||◌, cond}
use mathlib.Core.List.{List, [], ◌∷◌, ◌++◌, map}
use Prim.Native.Nat.{ℕ, zero, suc, ◌<◌}
use native.Mathlib.Omega.{arith}
use lib.Dec.{eqb}
use lib.ListN.{drop}
use borrow.Author.Tests.{eqb-true, eqb-false, eq-eqb, ne_eqb}
use Rattle.wire.specs.Kinds.{same_bucket}
use Rattle.wire.specs.declared.kinds.Bucket.{Bucket}
use Rattle.calls.specs.Lists.{any_of}
use Rattle.calls.specs.Freespace.{is_in}
use Rattle.calls.specs.Refusals.{test, verdict}
use Rattle.calls.proofs.lists.BoolLaws.{clash}
use Rattle.calls.proofs.freespace.BucketLaws.{same-path}

pub verdict-ok : (n : ℕ) (ns : List ℕ) → verdict (n ∷ ns) ≡ 0 → (n ≡ 0) × (verdict ns ≡ 0)
unfolding verdict
verdict-ok n ns e = go (eqb n 0) refl e
  where
    go : (t : Bool) → eqb n 0 ≡ t → cond t (verdict ns) n ≡ 0 → (n ≡ 0) × (verdict ns ≡ 0)
    go true d q = (eqb-true n 0 d, q)
    go false d q = absurd (eqb-false n 0 d q)

pub test-ok : (n : ℕ) (t : Bool) → 0 < n → test n t ≡ 0 → t ≡ true
test-ok n true p e = refl
test-ok n false p e = absurd (omega arith)

-- a test that holds, and one that fails
pub verdict-next : (n : ℕ) (t : Bool) (ns : List ℕ) → t ≡ true → verdict (test n t ∷ ns) ≡ verdict ns
unfolding verdict
verdict-next n t ns e = rw e

pub verdict-stops : (n : ℕ) (t : Bool) (ns : List ℕ) → 0 < n → t ≡ false → verdict (test n t ∷ ns) ≡ n
unfolding verdict
verdict-stops n t ns p e = rw (e, ne_eqb n 0 (omega arith))

-- tests that all hold, and tests of which one fails
pub verdict-past : (ns ms : List ℕ) → verdict ns ≡ 0 → verdict (ns ++ ms) ≡ verdict ms
unfolding verdict
verdict-past [] ms z = refl
verdict-past (n ∷ ns) ms z =
    let v = verdict-ok n ns z in
    ap (λ (t : Bool). cond t (verdict (ns ++ ms)) n) (eq-eqb n 0 v.0) ∙ verdict-past ns ms v.1

pub verdict-first : (ns ms : List ℕ) → (verdict ns ≡ 0 → ⊥) → verdict (ns ++ ms) ≡ verdict ns
unfolding verdict
verdict-first [] ms p = absurd (p refl)
verdict-first (n ∷ ns) ms p = go (eqb n 0) p (verdict-first ns ms)
  where
    go : (t : Bool) → (cond t (verdict ns) n ≡ 0 → ⊥) → ((verdict ns ≡ 0 → ⊥) → verdict (ns ++ ms) ≡ verdict ns) → cond t (verdict (ns ++ ms)) n ≡ cond t (verdict ns) n
    go true q ih = ih q
    go false q ih = refl

pub verdict-one : (n : ℕ) → verdict (n ∷ []) ≡ n
unfolding verdict
verdict-one n = go (eqb n 0) refl
  where
    go : (t : Bool) → eqb n 0 ≡ t → cond t 0 n ≡ n
    go true e = sym (eqb-true n 0 e)
    go false e = refl

-- the tests before 21
pub verdict-front : (ns ms : List ℕ) → verdict (ns ++ ms) ≡ 0 → verdict ns ≡ 0
unfolding verdict
verdict-front [] ms h = refl
verdict-front (n ∷ ns) ms h = go (eqb n 0) h (verdict-front ns ms)
  where
    go : (t : Bool) → cond t (verdict (ns ++ ms)) n ≡ 0 → (verdict (ns ++ ms) ≡ 0 → verdict ns ≡ 0) → cond t (verdict ns) n ≡ 0
    go true e ih = ih e
    go false e ih = e

-- and the last one
pub verdict-last : (ns : List ℕ) (n : ℕ) → verdict (ns ++ (n ∷ [])) ≡ 0 → n ≡ 0
verdict-last [] n h = (verdict-ok n [] h).0
verdict-last (m ∷ ns) n h = verdict-last ns n (verdict-ok m (ns ++ (n ∷ [])) h).1

-- a number of each element: the first element and the rest
module _ {A : Type 0} (f : A → ℕ) where
  pub verdict-map-next : {l : List A} {x : A} {rest : List A} → l ≡ x ∷ rest → f x ≡ 0 → verdict (map f l) ≡ verdict (map f rest)
  unfolding verdict
  verdict-map-next e z = ap (λ l. verdict (map f l)) e ∙ rw z

  pub verdict-map-stop : {l : List A} {x : A} {rest : List A} → l ≡ x ∷ rest → (f x ≡ 0 → ⊥) → verdict (map f l) ≡ f x
  unfolding verdict
  verdict-map-stop {x = x} e z = ap (λ l. verdict (map f l)) e ∙ rw (ne_eqb (f x) 0 z)

  pub verdict-map-none : {l : List A} → l ≡ [] → verdict (map f l) ≡ 0
  unfolding verdict
  verdict-map-none e = ap (λ l. verdict (map f l)) e

  pub verdict-map-first : {l : List A} {x : A} {rest : List A} → l ≡ x ∷ rest → verdict (map f l) ≡ 0 → f x ≡ 0
  verdict-map-first {x = x} {rest = rest} e h = (verdict-ok (f x) (map f rest) (sym (ap (λ l. verdict (map f l)) e) ∙ h)).0

  pub verdict-map-drop : (i : ℕ) (l : List A) → verdict (map f l) ≡ 0 → verdict (map f (drop i l)) ≡ 0
  verdict-map-drop zero l h = h
  verdict-map-drop (suc i) [] h = h
  verdict-map-drop (suc i) (x ∷ l) h = verdict-map-drop i l (verdict-ok (f x) (map f l) h).1

-- of one of some buckets, where none has a number
pub verdict-map-mem : (f : Bucket → ℕ) (bs : List Bucket) → verdict (map f bs) ≡ 0 → (b : Bucket) → is_in bs b ≡ true → f b ≡ 0
unfolding is_in any_of
verdict-map-mem f [] e b m = absurd (clash m refl)
verdict-map-mem f (c ∷ cs) e b m = let v = verdict-ok (f c) (map f cs) e in go (same_bucket c b) refl m v.0 (λ q. verdict-map-mem f cs v.1 b q)
  where
    go : (t : Bool) → same_bucket c b ≡ t → (t || is_in cs b) ≡ true → f c ≡ 0 → (is_in cs b ≡ true → f b ≡ 0) → f b ≡ 0
    go true d q z ih = rw (← same-path c b d) z
    go false d q z ih = ih q
