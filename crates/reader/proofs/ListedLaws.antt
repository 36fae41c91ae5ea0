-- A field after field 1: the tags and lengths that the shapes list.
use Prim.Native.Nat.{ℕ, ◌≤◌, ◌<◌}
use mathlib.Core.Path.{◌≡◌, refl, sym}
use mathlib.Core.Logic.{◌⊎◌, inl, inr, ⊎_elim}
use mathlib.Core.List.{List, [], ◌∷◌}
use mathlib.Core.Bool.{Bool, true, false, ◌&&◌, ◌||◌, cond}
use lib.ListN.{length}
use lib.Dec.{leb, eqb}
use borrow.Author.Tests.{eqb-true, leb-true}
use native.Mathlib.Omega.{arith}
use Rattle.wire.specs.Fields.{Field}
use Rattle.calls.specs.CallList.{Shape, shaped, key_shape, exactly, volume_shapes, request_shapes}
use Rattle.reader.specs.CallFields.{rest_shapes}
use Rattle.reader.proofs.BoolLaws.{apart, and_left, and_right}
use Rattle.reader.proofs.ShapeLaws.{KeyTag}

-- what a shape says of a field

pub or_cases : (a b : Bool) → (a || b) ≡ true → (a ≡ true) ⊎ (b ≡ true)
or_cases true b h = inl refl
or_cases false b h = inr h

pub record Fits (f : Field) (s : Shape) : Type 0 where
  pub tag : f.tag ≡ s.tag
  pub least : s.least ≤ length f.body
  pub most : length f.body ≤ s.most

pub shaped-cases : (s : Shape) (ss : List Shape) (f : Field) → shaped (s ∷ ss) f ≡ true → Fits f s ⊎ (shaped ss f ≡ true)
unfolding shaped
shaped-cases s ss f h =
    ⊎_elim
    (λ k.
    let l = and_right (eqb f.tag s.tag) _ k in
    inl
    record {
      tag = eqb-true f.tag s.tag (and_left _ _ k);
      least = leb-true s.least (length f.body) (and_left _ _ l);
      most = leb-true (length f.body) s.most (and_right (leb s.least (length f.body)) _ l);
    })
    inr
    (or_cases (eqb f.tag s.tag && (leb s.least (length f.body) && leb (length f.body) s.most)) _ h)

-- a field after field 1: its tag and its length
pub data FieldListed (call t n : ℕ) : Type 0 where
  key : KeyTag t → 37 ≤ n → n ≤ 293 → FieldListed call t n
  reserved : t ≡ 64 → n ≡ 4 → FieldListed call t n
  piece : call ≡ 1 → t ≡ 65 → n ≡ 13 → FieldListed call t n
  freed : call ≡ 2 → t ≡ 66 → n ≡ 10 → FieldListed call t n

listed-request : (call : ℕ) (f : Field) → shaped (request_shapes call) f ≡ true → FieldListed call f.tag (length f.body)
unfolding request_shapes shaped
listed-request call f h = go (eqb call 1) (eqb call 2) refl refl h
  where
    go :
        (p q : Bool) → eqb call 1 ≡ p → eqb call 2 ≡ q
        → shaped (cond p (exactly 65 13 ∷ []) (cond q (exactly 66 10 ∷ []) [])) f ≡ true → FieldListed call f.tag (length f.body)
    go true q x y h =
        ⊎_elim (λ w. piece (eqb-true call 1 x) w.tag (omega (arith, w.least, w.most))) (λ z. apart (sym z))
        (shaped-cases (exactly 65 13) [] f h)
    go false true x y h =
        ⊎_elim (λ w. freed (eqb-true call 2 y) w.tag (omega (arith, w.least, w.most))) (λ z. apart (sym z))
        (shaped-cases (exactly 66 10) [] f h)
    go false false x y h = apart (sym h)

pub listed : (call : ℕ) (f : Field) → shaped (rest_shapes call) f ≡ true → FieldListed call f.tag (length f.body)
unfolding rest_shapes volume_shapes
listed call f h =
    ⊎_elim (λ w. key (inl w.tag) w.least w.most)
    (λ h.
    ⊎_elim (λ w. key (inr (inl w.tag)) w.least w.most)
    (λ h.
    ⊎_elim (λ w. key (inr (inr (inl w.tag))) w.least w.most)
    (λ h.
    ⊎_elim (λ w. key (inr (inr (inr (inl w.tag)))) w.least w.most)
    (λ h.
    ⊎_elim (λ w. key (inr (inr (inr (inr (inl w.tag))))) w.least w.most)
    (λ h.
    ⊎_elim (λ w. key (inr (inr (inr (inr (inr w.tag))))) w.least w.most)
    (λ h.
    ⊎_elim (λ w. reserved w.tag (omega (arith, w.least, w.most))) (λ h. listed-request call f h)
    (shaped-cases (exactly 64 4) _ f h))
    (shaped-cases (key_shape 14) _ f h))
    (shaped-cases (key_shape 13) _ f h))
    (shaped-cases (key_shape 12) _ f h))
    (shaped-cases (key_shape 11) _ f h))
    (shaped-cases (key_shape 10) _ f h))
    (shaped-cases (key_shape 4) _ f h)

pub key-tag-bounds : (t : ℕ) → KeyTag t → (4 ≤ t) × (t ≤ 14)
key-tag-bounds t (inl e) = (omega arith, omega arith)
key-tag-bounds t (inr (inl e)) = (omega arith, omega arith)
key-tag-bounds t (inr (inr (inl e))) = (omega arith, omega arith)
key-tag-bounds t (inr (inr (inr (inl e)))) = (omega arith, omega arith)
key-tag-bounds t (inr (inr (inr (inr (inl e))))) = (omega arith, omega arith)
key-tag-bounds t (inr (inr (inr (inr (inr e))))) = (omega arith, omega arith)

pub listed_above : {call t n : ℕ} → FieldListed call t n → 1 < t
listed_above {t} (key k l m) = let b = key-tag-bounds t k in omega (arith, b.0)
listed_above (reserved e l) = omega arith
listed_above (piece c e l) = omega arith
listed_above (freed c e l) = omega arith

pub listed_below : {call t n : ℕ} → FieldListed call t n → t ≤ 66
listed_below {t} (key k l m) = let b = key-tag-bounds t k in omega (arith, b.1)
listed_below (reserved e l) = omega arith
listed_below (piece c e l) = omega arith
listed_below (freed c e l) = omega arith

-- a tag of a tree, or one above them
abbrev pub Tagged : ℕ → Type 0
Tagged t = KeyTag t ⊎ (14 < t)
