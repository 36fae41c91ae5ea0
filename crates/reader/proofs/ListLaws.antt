-- The bodies of one tag, and tags that ascend.
use Prim.Native.Nat.{ℕ, ◌≤◌, ◌<◌}
use mathlib.Core.Path.{◌≡◌, refl, ◌∙◌}
use mathlib.Core.Logic.{⊎_elim}
use mathlib.Core.List.{List, [], ◌∷◌}
use mathlib.Core.Bool.{Bool, true}
use lib.Dec.{leb}
use borrow.Author.Tests.{eq-eqb, ne_eqb, leb-true}
use native.Mathlib.Omega.{arith}
use Rattle.wire.specs.Fields.{Field}
use Rattle.wire.specs.Bytes.{All, none, more}
use Rattle.calls.specs.Lists.{all_of, those, in_order}
use Rattle.calls.specs.CallList.{bodies}
use Rattle.calls.specs.ChangeList.{tags_ascend}
use Rattle.calls.proofs.lists.BoolLaws.{both}
use Rattle.calls.proofs.lists.AllLaws.{all-imp}
use Rattle.reader.proofs.BoolLaws.{and_left, and_right}
use Rattle.reader.proofs.ShapeLaws.{same_or}

-- the bodies of one tag

module _ (t : ℕ) (f : Field) (fs : List Field) where
  pub bodies-here : f.tag ≡ t → bodies t (f ∷ fs) ≡ f.body ∷ bodies t fs
  unfolding bodies those
  bodies-here e = simp (eq-eqb f.tag t e)

  pub bodies-other : (f.tag ≡ t → ⊥) → bodies t (f ∷ fs) ≡ bodies t fs
  unfolding bodies those
  bodies-other n = simp (ne_eqb f.tag t n)

pub bodies-none : (t : ℕ) {fs : List Field} → All (λ f. f.tag ≡ t → ⊥) fs → bodies t fs ≡ []
unfolding bodies those
bodies-none t none = refl
bodies-none t (more {a = f} {s = fs} n r) = bodies-other t f fs n ∙ bodies-none t r

-- a test over the bodies of one tag
pub bodies-all :
    (t : ℕ) (p : List ℕ → Bool) (fs : List Field) → all_of p (bodies t fs) ≡ true
    → All (λ f. f.tag ≡ t → p f.body ≡ true) fs
unfolding all_of bodies
bodies-all t p [] h = none
bodies-all t p (f ∷ fs) h =
    ⊎_elim
    (λ e.
    let k = rw (bodies-here t f fs e) at h in
    more (λ z. and_left (p f.body) _ k) (bodies-all t p fs (and_right (p f.body) _ k)))
    (λ n. more (λ z. absurd (n z)) (bodies-all t p fs (rw (bodies-other t f fs n) at h)))
    (same_or f.tag t)

pub all-bodies :
    (t : ℕ) (p : List ℕ → Bool) {fs : List Field} → All (λ f. f.tag ≡ t → p f.body ≡ true) fs
    → all_of p (bodies t fs) ≡ true
unfolding all_of bodies those
all-bodies t p none = refl
all-bodies t p (more {a = f} {s = fs} h r) =
    ⊎_elim (λ e. rw (bodies-here t f fs e) (both (h e) (all-bodies t p r))) (λ n. rw (bodies-other t f fs n) (all-bodies t p r))
    (same_or f.tag t)

-- tags that ascend

pub tags-after : (f : Field) (fs : List Field) → tags_ascend (f ∷ fs) ≡ true → All (λ g. f.tag ≤ g.tag) fs
unfolding tags_ascend in_order
tags-after f [] h = none
tags-after f (g ∷ fs) h =
    let l : f.tag ≤ g.tag = leb-true f.tag g.tag (and_left _ _ h) in
    more l (all-imp (λ x k. omega arith) (tags-after g fs (and_right (leb f.tag g.tag) _ h)))

-- no field of a tag stands after one with a higher tag
pub none_after : (t : ℕ) (f : Field) (fs : List Field) → tags_ascend (f ∷ fs) ≡ true → t < f.tag → bodies t (f ∷ fs) ≡ []
none_after t f fs h l = bodies-none t (more (λ e. omega arith) (all-imp (λ g k e. omega arith) (tags-after f fs h)))
