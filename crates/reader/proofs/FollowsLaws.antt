-- The order of each field and the next, by the order of the bodies of each tag.
use Prim.Native.Nat.{ℕ, ◌≤◌, ◌<◌}
use mathlib.Core.Path.{◌≡◌, refl, sym, ◌∙◌}
use mathlib.Core.Logic.{⊎_elim}
use mathlib.Core.List.{List, [], ◌∷◌}
use mathlib.Core.Bool.{true}
use lib.Dec.{leb, ltb, eqb}
use borrow.Author.Tests.{eq-eqb, eqb-true, leb-true, le-leb, lt-ltb, le-ltb, ltb-true}
use native.Mathlib.Omega.{arith}
use Rattle.wire.specs.Fields.{Field}
use Rattle.wire.specs.Bytes.{All, more}
use Rattle.calls.specs.Lists.{those, in_order}
use Rattle.calls.specs.CallList.{bodies}
use Rattle.calls.specs.ChangeList.{tags_ascend}
use Rattle.reader.specs.CallFields.{ascends, follows}
use Rattle.calls.proofs.lists.BoolLaws.{both}
use Rattle.calls.proofs.lists.OrderLaws.{order-imp, order-tail}
use Rattle.reader.proofs.BoolLaws.{and_left, and_right}
use Rattle.reader.proofs.ShapeLaws.{same_or}
use Rattle.reader.proofs.ListLaws.{bodies-here, bodies-other, none_after}
use Rattle.reader.proofs.ListedLaws.{or_cases, Tagged}

-- each field and the next, and the bodies of each tag

follows-up : (f g : Field) → follows f g ≡ true → leb f.tag g.tag ≡ true
unfolding follows
follows-up f g h =
    le-leb f.tag g.tag
    (⊎_elim (λ k. omega (arith, ltb-true f.tag g.tag k)) (λ k. omega (arith, eqb-true f.tag g.tag (and_left _ _ k)))
    (or_cases (ltb f.tag g.tag) _ h))

pub follows-up-all : (fs : List Field) → in_order follows fs ≡ true → tags_ascend fs ≡ true
unfolding tags_ascend
follows-up-all fs h = order-imp follows (λ f g. leb f.tag g.tag) follows-up fs h

follows-ascends : (f g : Field) → f.tag ≡ g.tag → follows f g ≡ true → ascends f.tag f.body g.body ≡ true
unfolding follows
follows-ascends f g e h =
    and_right (eqb f.tag g.tag) _ (rw (le-ltb f.tag g.tag (omega arith)) at h)

joined :
    (t : ℕ) (f g : Field) (fs : List Field) → f.tag ≡ t → in_order follows (f ∷ g ∷ fs) ≡ true
    → in_order (ascends t) (bodies t (g ∷ fs)) ≡ true → in_order (ascends t) (f.body ∷ bodies t (g ∷ fs)) ≡ true
unfolding in_order
joined t f g fs e h ih =
    let fg : follows f g ≡ true = and_left _ _ h in
    ⊎_elim
    (λ k.
    rw (bodies-here t g fs k)
    (both (rw e at (follows-ascends f g (e ∙ sym k) fg)) (rw (bodies-here t g fs k) at ih)))
    (λ n.
    rw
    (none_after t g fs (follows-up-all (g ∷ fs) (and_right (follows f g) _ h))
    (above f.tag g.tag e n (leb-true f.tag g.tag (follows-up f g fg)))))
    (same_or g.tag t)
  where
    above : (a b : ℕ) → a ≡ t → (b ≡ t → ⊥) → a ≤ b → t < b
    above a b e n l = omega arith

pub order_from : (t : ℕ) (fs : List Field) → in_order follows fs ≡ true → in_order (ascends t) (bodies t fs) ≡ true
unfolding in_order bodies those
order_from t [] h = refl
order_from t (f ∷ []) h =
    ⊎_elim (λ e. rw (bodies-here t f [] e)) (λ n. rw (bodies-other t f [] n)) (same_or f.tag t)
order_from t (f ∷ g ∷ fs) h =
    let ih = order_from t (g ∷ fs) (and_right (follows f g) _ h) in
    ⊎_elim (λ e. rw (bodies-here t f (g ∷ fs) e) (joined t f g fs e h ih)) (λ n. rw (bodies-other t f (g ∷ fs) n) ih)
    (same_or f.tag t)

follows_same : (f g : Field) → f.tag ≡ g.tag → ascends f.tag f.body g.body ≡ true → follows f g ≡ true
unfolding follows
follows_same f g e h = simp (le-ltb f.tag g.tag (omega arith), eq-eqb f.tag g.tag e, h)

pub follows-more : (f g : Field) → f.tag < g.tag → follows f g ≡ true
unfolding follows
follows-more f g l = simp (lt-ltb f.tag g.tag l)

-- the bodies of a tag after one field less
pub less :
    (t : ℕ) (f : Field) (fs : List Field) → in_order (ascends t) (bodies t (f ∷ fs)) ≡ true
    → in_order (ascends t) (bodies t fs) ≡ true
less t f fs h =
    ⊎_elim (λ e. order-tail (ascends t) f.body (bodies t fs) (rw (bodies-here t f fs e) at h))
    (λ n. rw (bodies-other t f fs n) at h) (same_or f.tag t)

pub order-to :
    (fs : List Field) → All (λ f. Tagged f.tag) fs → tags_ascend fs ≡ true
    → ((t : ℕ) → Tagged t → in_order (ascends t) (bodies t fs) ≡ true) → in_order follows fs ≡ true
unfolding in_order tags_ascend
order-to [] r a h = refl
order-to (f ∷ []) r a h = refl
order-to (f ∷ g ∷ fs) (more p r) a h =
    both
    (⊎_elim
    (λ e.
    follows_same f g e
    (and_left (ascends f.tag f.body g.body) _
    (rw (bodies-here f.tag f (g ∷ fs) refl, bodies-here f.tag g fs (sym e)) at (h f.tag p))))
    (λ n. follows-more f g (omega (arith, leb-true f.tag g.tag (and_left _ _ a))))
    (same_or f.tag g.tag))
    (order-to (g ∷ fs) r (and_right (leb f.tag g.tag) _ a) (λ t k. less t f (g ∷ fs) (h t k)))
