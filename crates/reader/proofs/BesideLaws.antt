-- The fields beside field 1.
use Prim.Native.Nat.{ℕ, ◌<◌}
use mathlib.Core.Path.{◌≡◌, refl, sym, ◌∙◌, ap}
use mathlib.Core.Logic.{⊎_elim}
use mathlib.Core.List.{List, [], ◌∷◌}
use mathlib.Core.Bool.{Bool, true, ◌&&◌}
use lib.ListN.{length}
use borrow.Author.Tests.{eq-eqb, ne_eqb}
use native.Mathlib.Omega.{arith}
use Rattle.wire.specs.Fields.{Field}
use Rattle.wire.specs.Bytes.{All, none, more}
use Rattle.calls.specs.Lists.{all_of, those}
use Rattle.calls.specs.CallList.{bodies, shaped}
use Rattle.calls.proofs.lists.AllLaws.{test-all}
use Rattle.reader.specs.CallFields.{others, rest_shapes, call_field_ok, any_field_ok, field_within}
use Rattle.reader.proofs.BoolLaws.{and_left}
use Rattle.reader.proofs.ShapeLaws.{same_or}
use Rattle.reader.proofs.ListLaws.{bodies-here, bodies-other}
use Rattle.reader.proofs.ListedLaws.{FieldListed, listed}
use Rattle.reader.proofs.LayoutLaws.{any-beside}
use Rattle.reader.proofs.FieldRankLaws.{AllListed}

pub others-none : others [] ≡ []
unfolding others those
others-none = refl

module _ (f : Field) (fs : List Field) where
  pub others-head : f.tag ≡ 1 → others (f ∷ fs) ≡ others fs
  unfolding others those
  others-head e = rw (eq-eqb f.tag 1 e)

  pub others-more : (f.tag ≡ 1 → ⊥) → others (f ∷ fs) ≡ f ∷ others fs
  unfolding others those
  others-more n = rw (ne_eqb f.tag 1 n)

-- the bodies of a tag above 1
pub beside-bodies : (t : ℕ) → 1 < t → (fs : List Field) → bodies t (others fs) ≡ bodies t fs
beside-bodies t l [] = ap (bodies t) others-none
beside-bodies t l (f ∷ fs) =
    let ih = beside-bodies t l fs in
    ⊎_elim
    (λ e. ap (bodies t) (others-head f fs e) ∙ ih ∙ sym (bodies-other t f fs (λ z. omega arith)))
    (λ n.
    ap (bodies t) (others-more f fs n)
    ∙ ⊎_elim
    (λ e. bodies-here t f (others fs) e ∙ ap (λ (bs : List (List ℕ)). f.body ∷ bs) ih ∙ sym (bodies-here t f fs e))
    (λ x. bodies-other t f (others fs) x ∙ ih ∙ sym (bodies-other t f fs x))
    (same_or f.tag t))
    (same_or f.tag 1)

-- what they are, in a list of fields that may stand
pub beside-listed : (call : ℕ) (any : Bool) (f : Field) → (f.tag ≡ 1 → ⊥) → any_field_ok call any f ≡ true → FieldListed call f.tag (length f.body)
unfolding call_field_ok
beside-listed call any f n k = listed call f (and_left (shaped (rest_shapes call) f) _ (sym (any-beside call any f n) ∙ k))

all-beside : (call : ℕ) (any : Bool) {fs : List Field} → All (λ f. any_field_ok call any f ≡ true) fs → AllListed call (others fs)
all-beside call any none = rw others-none none
all-beside call any (more {a = f} {s = fs} k r) =
    let ih : AllListed call (others fs) = all-beside call any r in
    ⊎_elim (λ e. rw (others-head f fs e) ih) (λ n. rw (others-more f fs n) (more (beside-listed call any f n k) ih)) (same_or f.tag 1)

pub others-listed : (call : ℕ) (any : Bool) (fs : List Field) → all_of (any_field_ok call any) fs ≡ true → AllListed call (others fs)
others-listed call any fs h = all-beside call any (test-all (any_field_ok call any) fs h)

-- field 1 has no limits but the head's
pub others-within : (fs : List Field) → all_of field_within (others fs) ≡ all_of field_within fs
unfolding all_of
others-within [] = ap (all_of field_within) others-none
others-within (f ∷ fs) =
    ⊎_elim
    (λ e. ap (all_of field_within) (others-head f fs e) ∙ others-within fs ∙ sym (ap (λ (b : Bool). b && all_of field_within fs) (free e)))
    (λ n. ap (all_of field_within) (others-more f fs n) ∙ ap (λ (b : Bool). field_within f && b) (others-within fs))
    (same_or f.tag 1)
  where
    free : f.tag ≡ 1 → field_within f ≡ true
    free e = unfold field_within in (rw e)
