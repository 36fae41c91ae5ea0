-- The layout of a change list, found field by field.
use Prim.Native.Nat.{ℕ, ◌+◌, ◌≤◌}
use mathlib.Core.Path.{◌≡◌, refl, sym, ◌∙◌, ap}
use Rattle.std.proofs.Common.{None}
use mathlib.Core.List.{List, [], ◌∷◌}
use mathlib.Core.Bool.{Bool, true, false, ◌&&◌, ◌||◌, cond, and-false, and-true, and_assoc}
use lib.ListN.{length, drop}
use lib.Dec.{leb, eqb}
use borrow.Author.Tests.{eqb-true, le-leb}
use native.Mathlib.Omega.{arith}
use Rattle.wire.specs.Fields.{Field, fields, field_at, step_of, whole}
use Rattle.wire.proofs.FieldLaws.{FieldAt, stop-at, FieldsWalked, walked_none, walked_more, whole-stop}
use Rattle.calls.specs.Lists.{all_of, in_order}
use Rattle.calls.specs.CallList.{shaped}
use Rattle.calls.specs.ChangeList.{end_field, into_first, split_batches, change_shapes, field_ok, closed, change_laid_out, tags_ascend}
use Rattle.reader.specs.Bodies.{change_field_ok, tag_after}
use Rattle.reader.proofs.ShapeLaws.{shaped-below}

-- what is left of a change list, after a field with the tag last
unfoldable pub change_from : ℕ → List Field → Bool
change_from last [] = eqb last 76
change_from last (f ∷ fs) = change_field_ok f && (tag_after last f.tag && change_from f.tag fs)

abbrev batches_ok : List Field → Bool
batches_ok fs = all_of tags_ascend (split_batches fs)

-- one more field, of a tag that is at most 76
batches-more :
    (f g : Field) (gs : List Field) → f.tag ≤ 76 → batches_ok (f ∷ g ∷ gs) ≡ (tag_after f.tag g.tag && batches_ok (g ∷ gs))
unfolding split_batches all_of tags_ascend tag_after in_order
batches-more f g gs h = go (eqb f.tag 76) (eqb g.tag 76) (split_batches gs) refl refl
  where
    go :
        (p q : Bool) (bs : List (List Field)) → eqb f.tag 76 ≡ p → eqb g.tag 76 ≡ q
        → all_of tags_ascend (cond p ([] ∷ cond q ([] ∷ bs) (into_first g bs)) (into_first f (cond q ([] ∷ bs) (into_first g bs))))
        ≡ ((p || leb f.tag g.tag) && all_of tags_ascend (cond q ([] ∷ bs) (into_first g bs)))
    go true q bs x y = refl
    go false true bs x y = simp (le-leb f.tag g.tag (omega (arith, eqb-true g.tag 76 y)))
    go false false [] x y = simp and-true
    go false false (b ∷ bs) x y = simp and_assoc

shuffle : (k t a b c d : Bool) → (k && (t && (a && (b && (c && d))))) ≡ (a && ((k && b) && (c && (t && d))))
shuffle false t a b c d = sym (and-false a)
shuffle true true a b c d = refl
shuffle true false a b c d = simp and-false

alone : (f : Field) → batches_ok (f ∷ []) ≡ true
unfolding split_batches all_of tags_ascend in_order
alone f = go (eqb f.tag 76)
  where
    go : (q : Bool) → all_of tags_ascend (cond q ([] ∷ []) (into_first f [])) ≡ true
    go true = refl
    go false = refl

listed_below : (f : Field) → shaped change_shapes f ≡ true → f.tag ≤ 76
unfolding change_shapes all_of
listed_below f h = shaped-below 76 change_shapes f refl h

from_is :
    (f : Field) (fs : List Field) → f.tag ≤ 76
    → change_from f.tag fs
    ≡ (all_of (shaped change_shapes) fs && (all_of field_ok fs && (closed (f ∷ fs) && batches_ok (f ∷ fs))))
unfolding change_from all_of closed change_field_ok
from_is f [] h = sym (and-true (eqb f.tag 76)) ∙ ap (λ (b : Bool). eqb f.tag 76 && b) (sym (alone f))
from_is f (g ∷ gs) h = go (shaped change_shapes g) refl (λ l. from_is g gs l)
  where
    go :
        (q : Bool) → shaped change_shapes g ≡ q
        → (g.tag ≤ 76
        → change_from g.tag gs
        ≡ (all_of (shaped change_shapes) gs && (all_of field_ok gs && (closed (g ∷ gs) && batches_ok (g ∷ gs)))))
        → change_from f.tag (g ∷ gs)
        ≡ (all_of (shaped change_shapes) (g ∷ gs) && (all_of field_ok (g ∷ gs) && (closed (f ∷ g ∷ gs) && batches_ok (f ∷ g ∷ gs))))
    go false e k = simp e
    go true e k =
        rw (e, k (listed_below g e), batches-more f g gs h)
        (shuffle (field_ok g) (tag_after f.tag g.tag) (all_of (shaped change_shapes) gs) (all_of field_ok gs) (closed (g ∷ gs)) (batches_ok (g ∷ gs)))

-- the first field stands as after a 76
closed-first : (fs : List Field) → closed (end_field ∷ fs) ≡ closed fs
unfolding closed
closed-first [] = refl
closed-first (f ∷ fs) = refl

batches-first : (fs : List Field) → batches_ok (end_field ∷ fs) ≡ batches_ok fs
unfolding split_batches all_of tags_ascend in_order
batches-first fs = refl

laid-is : (s : List ℕ) → change_laid_out s ≡ (whole s && change_from 76 (fields s))
unfolding change_laid_out
laid-is s = rw (from_is end_field (fields s) (omega arith), closed-first (fields s), batches-first (fields s))

-- the loop's invariant: what is left decides
pub record Changing (s : List ℕ) (at last : ℕ) : Type 0 where
  pub walked : FieldsWalked s at
  pub left : change_from last (fields (drop at s)) ≡ change_from 76 (fields s)

pub start : (s : List ℕ) → Changing s 0 76
start s = record { walked = walked_none s; left = refl }

module _ (s : List ℕ) (at last : ℕ) (w : Changing s at last) where
  pub ends : {t : Bool} → step_of at (drop at s) ≡ None → eqb at (length s) ≡ t → (t && eqb last 76) ≡ change_laid_out s
  unfolding change_from
  ends e h =
      let z : eqb last 76 ≡ change_from 76 (fields s) = rw (stop-at (drop at s) at e) at w.left in
      sym (laid-is s ∙ rw (whole-stop s at w.walked e, h, ← z))

  module _ (t b n : ℕ) (f : FieldAt s at t b n) where
    pub bad : change_field_ok (field_at s t b n) ≡ false → change_laid_out s ≡ false
    unfolding change_from
    bad h =
        let z : false ≡ change_from 76 (fields s) = simp h at (rw f.here at w.left) in
        laid-is s ∙ simp (sym z, and-false)

    pub back : tag_after last t ≡ false → change_laid_out s ≡ false
    unfolding change_from
    back h =
        let z : false ≡ change_from 76 (fields s) = simp (h, and-false) at (rw f.here at w.left) in
        laid-is s ∙ simp (sym z, and-false)

    pub goes_on : change_field_ok (field_at s t b n) ≡ true → tag_after last t ≡ true → Changing s (b + n) t
    unfolding change_from
    goes_on h k =
        record { walked = walked_more s at w.walked t b n f; left = simp (h, k) at (rw f.here at w.left) }
