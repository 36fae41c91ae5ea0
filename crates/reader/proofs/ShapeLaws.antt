-- Which fields may stand in a list, by their tags.
use Prim.Native.Nat.{ℕ, ◌≤◌, ◌<◌}
use mathlib.Core.Path.{◌≡◌, refl, sym}
use mathlib.Core.Logic.{◌⊎◌, inl, inr, ⊎_elim}
use mathlib.Core.List.{List, [], ◌∷◌}
use mathlib.Core.Bool.{Bool, true, false, ◌&&◌, ◌||◌, cond, or-false, and-true}
use lib.ListN.{length}
use lib.Dec.{leb, eqb}
use borrow.Author.Tests.{eqb-true, eqb-false, leb-true, ne_eqb, le-leb}
use native.Mathlib.Omega.{arith}
use Rattle.wire.specs.Keys.{key_sized}
use Rattle.wire.specs.Fields.{Field}
use Rattle.calls.specs.CallList.{Shape, shaped, volume_shapes, exactly, request_shapes}
use Rattle.calls.specs.Lists.{all_of}
use Rattle.calls.specs.ChangeList.{change_shapes, field_ok}
use Rattle.reader.proofs.BoolLaws.{apart, and_left, and_right}
use Rattle.reader.specs.CallFields.{rest_shapes, call_field_ok}
use Rattle.reader.specs.Bodies.{key_ok, root_ok, change_field_ok}

-- a body of n bytes
pub exact-is : (n m : ℕ) → (leb n m && leb m n) ≡ eqb m n
exact-is n m = go (eqb m n) refl
  where
    go : (q : Bool) → eqb m n ≡ q → (leb n m && leb m n) ≡ q
    go true e = simp (le-leb n m (omega (arith, eqb-true m n e)), le-leb m n (omega (arith, eqb-true m n e)))
    go false e = apart (leb n m) (leb m n) refl refl
      where
        apart : (a b : Bool) → leb n m ≡ a → leb m n ≡ b → (leb n m && leb m n) ≡ false
        apart true true x y = absurd (eqb-false m n e (omega (arith, leb-true n m x, leb-true m n y)))
        apart true false x y = simp (x, y)
        apart false b x y = simp x

-- a field of one of some shapes has one of their tags
pub shaped-below :
    (n : ℕ) (ss : List Shape) (f : Field) → all_of (λ s. leb s.tag n) ss ≡ true → shaped ss f ≡ true → f.tag ≤ n
unfolding all_of shaped
shaped-below n [] f a h = apart (sym h)
shaped-below n (s ∷ ss) f a h = go (eqb f.tag s.tag) refl (λ e. shaped-below n ss f (and_right (leb s.tag n) _ a) (simp e at h))
  where
    go : (q : Bool) → eqb f.tag s.tag ≡ q → (eqb f.tag s.tag ≡ false → f.tag ≤ n) → f.tag ≤ n
    go true e k = omega (arith, eqb-true f.tag s.tag e, leb-true s.tag n (and_left _ _ a))
    go false e k = k e

-- the tags of trees 4 to 14
abbrev pub KeyTag : ℕ → Type 0
KeyTag t = (t ≡ 4) ⊎ ((t ≡ 10) ⊎ ((t ≡ 11) ⊎ ((t ≡ 12) ⊎ ((t ≡ 13) ⊎ (t ≡ 14)))))

pub same_or : (a b : ℕ) → (a ≡ b) ⊎ (a ≡ b → ⊥)
same_or a b = go (eqb a b) refl
  where
    go : (q : Bool) → eqb a b ≡ q → (a ≡ b) ⊎ (a ≡ b → ⊥)
    go true e = inl (eqb-true a b e)
    go false e = inr (eqb-false a b e)

pub key-tag : (t : ℕ) → 10 ≤ t → t < 15 → KeyTag t
key-tag t l m =
    inr
    (⊎_elim inl
    (λ a.
    inr
    (⊎_elim inl
    (λ b. inr (⊎_elim inl (λ d. inr (⊎_elim inl (λ e. inr (last a b d e)) (same_or t 13))) (same_or t 12)))
    (same_or t 11)))
    (same_or t 10))
  where
    last : (t ≡ 10 → ⊥) → (t ≡ 11 → ⊥) → (t ≡ 12 → ⊥) → (t ≡ 13 → ⊥) → t ≡ 14
    last a b d e = omega arith

pub sized_least : (len : ℕ) → (leb 37 len && leb len 293) ≡ true → 37 ≤ len
sized_least len h = leb-true 37 len (and_left _ _ h)

module _ (t : ℕ) (body : List ℕ) where
  abbrev here : Field
  here = record { tag = t; body = body }

  pub change-key : KeyTag t → change_field_ok here ≡ key_ok body
  unfolding change_field_ok shaped change_shapes field_ok key_ok key_sized
  change-key (inl e) = simp (e, or-false)
  change-key (inr (inl e)) = simp (e, or-false)
  change-key (inr (inr (inl e))) = simp (e, or-false)
  change-key (inr (inr (inr (inl e)))) = simp (e, or-false)
  change-key (inr (inr (inr (inr (inl e))))) = simp (e, or-false)
  change-key (inr (inr (inr (inr (inr e))))) = simp (e, or-false)

  pub change-extent : t ≡ 0 → change_field_ok here ≡ (leb 37 (length body) && leb (length body) 293)
  unfolding change_field_ok shaped change_shapes field_ok
  change-extent e = simp (e, or-false, and-true)

  pub change-root : t ≡ 70 → change_field_ok here ≡ root_ok body
  unfolding change_field_ok shaped change_shapes field_ok root_ok
  change-root e = simp (e, or-false, exact-is 1 (length body))

  pub change-row : t ≡ 73 → change_field_ok here ≡ (eqb (length body) 24 || eqb (length body) 40)
  unfolding change_field_ok shaped change_shapes field_ok
  change-row e = simp (e, or-false, and-true, exact-is 24 (length body), exact-is 40 (length body))

  pub change-72 : t ≡ 72 → change_field_ok here ≡ eqb (length body) 15
  unfolding change_field_ok shaped change_shapes field_ok
  change-72 e = simp (e, or-false, and-true, exact-is 15 (length body))

  pub change-74 : t ≡ 74 → change_field_ok here ≡ eqb (length body) 8
  unfolding change_field_ok shaped change_shapes field_ok
  change-74 e = simp (e, or-false, and-true, exact-is 8 (length body))

  pub change-76 : t ≡ 76 → change_field_ok here ≡ eqb (length body) 0
  unfolding change_field_ok shaped change_shapes field_ok
  change-76 e = simp (e, or-false, and-true, exact-is 0 (length body))

  pub change-bucket : (t ≡ 71) ⊎ (t ≡ 75) → change_field_ok here ≡ eqb (length body) 4
  unfolding change_field_ok shaped change_shapes field_ok
  change-bucket (inl e) = simp (e, or-false, and-true, exact-is 4 (length body))
  change-bucket (inr e) = simp (e, or-false, and-true, exact-is 4 (length body))

  pub change-none :
      (t ≡ 0 → ⊥) → (t ≡ 4 → ⊥) → (10 ≤ t → t < 15 → ⊥) → (t ≡ 70 → ⊥) → (t ≡ 71 → ⊥) → (t ≡ 75 → ⊥) → (t ≡ 72 → ⊥) → (t ≡ 73 → ⊥)
      → (t ≡ 74 → ⊥) → (t ≡ 76 → ⊥) → change_field_ok here ≡ false
  unfolding change_field_ok shaped change_shapes
  change-none n0 n4 keys n70 n71 n75 n72 n73 n74 n76 =
      simp (
        ne_eqb t 0 n0,
        ne_eqb t 4 n4,
        ne_eqb t 10 (λ e. keys (omega arith) (omega arith)),
        ne_eqb t 11 (λ e. keys (omega arith) (omega arith)),
        ne_eqb t 12 (λ e. keys (omega arith) (omega arith)),
        ne_eqb t 13 (λ e. keys (omega arith) (omega arith)),
        ne_eqb t 14 (λ e. keys (omega arith) (omega arith)),
        ne_eqb t 70 n70,
        ne_eqb t 71 n71,
        ne_eqb t 72 n72,
        ne_eqb t 73 n73,
        ne_eqb t 74 n74,
        ne_eqb t 75 n75,
        ne_eqb t 76 n76,
      )

-- the fields of a change list, by their tags
pub ruleset change_cases = (
  change-key,
  change-extent,
  change-root,
  change-row,
  change-72,
  change-74,
  change-76,
  change-bucket,
  change-none,
)

-- the requests of a call, by their tags
pub requests-other : (call : ℕ) (f : Field) → (f.tag ≡ 65 → ⊥) → (f.tag ≡ 66 → ⊥) → shaped (request_shapes call) f ≡ false
unfolding shaped request_shapes
requests-other call f a b = go (eqb call 1) (eqb call 2)
  where
    go : (p q : Bool) → shaped (cond p (exactly 65 13 ∷ []) (cond q (exactly 66 10 ∷ []) [])) f ≡ false
    go true q = simp (ne_eqb f.tag 65 a)
    go false true = simp (ne_eqb f.tag 66 b)
    go false false = refl

pub requests-piece : (call : ℕ) (f : Field) → f.tag ≡ 65 → shaped (request_shapes call) f ≡ (eqb call 1 && eqb (length f.body) 13)
unfolding shaped request_shapes
requests-piece call f e = go (eqb call 1) (eqb call 2)
  where
    go : (p q : Bool) → shaped (cond p (exactly 65 13 ∷ []) (cond q (exactly 66 10 ∷ []) [])) f ≡ (p && eqb (length f.body) 13)
    go true q = simp (e, or-false, exact-is 13 (length f.body))
    go false true = simp e
    go false false = refl

pub requests-freed : (call : ℕ) (f : Field) → f.tag ≡ 66 → shaped (request_shapes call) f ≡ (eqb call 2 && eqb (length f.body) 10)
unfolding shaped request_shapes
requests-freed call f e = go (eqb call 1) (eqb call 2) (λ h. ne_eqb call 2 (λ z. omega (arith, eqb-true call 1 h)))
  where
    go :
        (p q : Bool) → (p ≡ true → q ≡ false)
        → shaped (cond p (exactly 65 13 ∷ []) (cond q (exactly 66 10 ∷ []) [])) f ≡ (q && eqb (length f.body) 10)
    go true q k = simp (e, k refl)
    go false true k = simp (e, or-false, exact-is 10 (length f.body))
    go false false k = refl

module _ (call t : ℕ) (body : List ℕ) where
  abbrev field : Field
  field = record { tag = t; body = body }

  pub call-key : KeyTag t → call_field_ok call field ≡ key_ok body
  unfolding call_field_ok shaped rest_shapes field_ok key_ok key_sized volume_shapes
  call-key (inl e) = rw e (simp (requests-other call (record { tag = 4; body = body }) (λ z. omega arith) (λ z. omega arith), or-false))
  call-key (inr (inl e)) = rw e (simp (requests-other call (record { tag = 10; body = body }) (λ z. omega arith) (λ z. omega arith), or-false))
  call-key (inr (inr (inl e))) = rw e (simp (requests-other call (record { tag = 11; body = body }) (λ z. omega arith) (λ z. omega arith), or-false))
  call-key (inr (inr (inr (inl e)))) = rw e (simp (requests-other call (record { tag = 12; body = body }) (λ z. omega arith) (λ z. omega arith), or-false))
  call-key (inr (inr (inr (inr (inl e))))) = rw e (simp (requests-other call (record { tag = 13; body = body }) (λ z. omega arith) (λ z. omega arith), or-false))
  call-key (inr (inr (inr (inr (inr e))))) = rw e (simp (requests-other call (record { tag = 14; body = body }) (λ z. omega arith) (λ z. omega arith), or-false))

  pub call-reserved : t ≡ 64 → call_field_ok call field ≡ eqb (length body) 4
  unfolding call_field_ok shaped rest_shapes field_ok volume_shapes
  call-reserved e =
      rw e
      (simp (
        requests-other call (record { tag = 64; body = body }) (λ z. omega arith) (λ z. omega arith),
        or-false,
        and-true,
        exact-is 4 (length body),
      ))

  pub call-piece : t ≡ 65 → call_field_ok call field ≡ (eqb call 1 && eqb (length body) 13)
  unfolding call_field_ok shaped rest_shapes field_ok volume_shapes
  call-piece e = rw e (simp (requests-piece call (record { tag = 65; body = body }) refl, and-true))

  pub call-freed : t ≡ 66 → call_field_ok call field ≡ (eqb call 2 && eqb (length body) 10)
  unfolding call_field_ok shaped rest_shapes field_ok volume_shapes
  call-freed e = rw e (simp (requests-freed call (record { tag = 66; body = body }) refl, and-true))

  pub call_none :
      (t ≡ 4 → ⊥) → (10 ≤ t → t < 15 → ⊥) → (t ≡ 64 → ⊥) → (t ≡ 65 → ⊥) → (t ≡ 66 → ⊥) → call_field_ok call field ≡ false
  unfolding call_field_ok shaped rest_shapes volume_shapes
  call_none n4 keys n64 n65 n66 =
      simp (
        requests-other call field n65 n66,
        ne_eqb t 4 n4,
        ne_eqb t 10 (λ e. keys (omega arith) (omega arith)),
        ne_eqb t 11 (λ e. keys (omega arith) (omega arith)),
        ne_eqb t 12 (λ e. keys (omega arith) (omega arith)),
        ne_eqb t 13 (λ e. keys (omega arith) (omega arith)),
        ne_eqb t 14 (λ e. keys (omega arith) (omega arith)),
        ne_eqb t 64 n64,
      )

-- the fields of a call's list, by their tags
pub ruleset call_cases = (call-key, call-reserved, call-piece, call-freed, call_none)
