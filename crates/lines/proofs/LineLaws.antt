-- Laws of lines: their words one after the other, and the line of a field by its tag.
use Prim.Native.Nat.{ℕ, ◌+◌, ◌-◌, ◌/◌, ◌<◌, ◌≤◌}
use mathlib.Core.Path.{◌≡◌, refl, sym, ap, ◌∙◌}
use mathlib.Core.Bool.{Bool, true, false, ◌||◌}
use mathlib.Core.List.{List, [], ◌∷◌, ◌++◌, append_assoc}
use mathlib.Core.Logic.{◌⊎◌, inl, inr, ⊎_elim}
use native.Mathlib.Omega.{arith}
use lib.Dec.{leb, eqb}
use lib.ListN.{length, take, drop, length-drop}
use Rattle.std.proofs.lemmas.List.{take_all}
use borrow.Author.Tests.{eqb-true, leb-true, le-leb}
use Rattle.wire.specs.Bytes.{All}
use Rattle.wire.specs.Numbers.{le, each}
use Rattle.wire.specs.Fields.{Field, fields, field_at, whole}
use Rattle.wire.specs.Keys.{Key, key_of, key_sized}
use Rattle.wire.specs.declared.output.Output.{Output}
use Rattle.wire.specs.Output.{with_bytes}
use Rattle.std.proofs.lemmas.Bool.{cases_lt}
use Rattle.wire.proofs.AppendLaws.{with-none, with-with}
use Rattle.wire.proofs.FieldLaws.{FieldAt}
use Rattle.calls.specs.CallList.{shaped}
use Rattle.calls.specs.Lists.{all_of}
use Rattle.calls.specs.ChangeList.{change_shapes, field_ok, change_laid_out}
use Rattle.calls.proofs.lists.AllLaws.{all_join, test-all, first, all_tail}
use Rattle.calls.proofs.lists.BoolLaws.{both, parts, clash}
use Rattle.reader.specs.Bodies.{key_ok, root_ok, change_field_ok}
use Rattle.reader.proofs.ShapeLaws.{KeyTag, key-tag, same_or, change-key, change-extent, change-root, change-row, change-72, change-74, change-bucket, change-none}
use Rattle.reader.proofs.TagLaws.{change-unnamed}
use Rattle.std.specs.Prelude.{Result, Ok, Err, IsOk}
use Rattle.wire.specs.TreeTags.{tree_tag}
use Rattle.wire.specs.Tags.{tag_number, TagNamed}
use Rattle.wire.specs.declared.trees.Tree.{Tree}
use Rattle.wire.specs.declared.tags.Tag.{Tag}
use Rattle.wire.specs.declared.tags.Tag.TheVariants.{Head, Key as KeyTagged, Reserved, Piece, Freed, Root, Taken, Spot, Row, Sectors, Unreserved, End}
use Rattle.wire.specs.declared.trees.Tree.TheVariants.{Extents, Alloc, Lru, Freespace, NeedDiscard, Backpointers, BucketGens}
use Rattle.wire.specs.declared.tags.UnknownTag.{UnknownTag}
use Rattle.lines.specs.Digits.{decimal, hexadecimal}
use Rattle.lines.specs.Lines.{line, blanked, numbers, key_words, root_words, taken_words, placed_words, row_words, sectors_words, unreserved_words, end_words, field_words, change_lines}
use Rattle.lines.proofs.WordLaws.{line-is, value_words}

-- the words of a line

blanked-none : (t : List ℕ) → blanked [] ++ t ≡ t
unfolding blanked each
blanked-none t = refl

blanked-next : (w : List ℕ) (ws : List (List ℕ)) (t : List ℕ) → blanked (w ∷ ws) ++ t ≡ (32 ∷ w) ++ (blanked ws ++ t)
unfolding blanked each
blanked-next w ws t = append_assoc (32 ∷ w) (blanked ws) t

pub named-line : (name : List ℕ) (n : ℕ) → name ++ ((32 ∷ decimal n) ++ (10 ∷ [])) ≡ line (name ∷ decimal n ∷ [])
named-line name n = sym (simp (line-is, blanked-next, blanked-none))

pub key-line :
    (tree : ℕ) (k : Key)
    → decimal tree
    ++ ((32 ∷ decimal k.type) ++ ((32 ∷ decimal k.pos.inode) ++ ((32 ∷ decimal k.pos.offset) ++ ((32 ∷ decimal k.size) ++ (value_words k.value ++ (10 ∷ []))))))
    ≡ line (key_words tree k)
unfolding key_words
key-line tree k = sym (simp (line-is, blanked-next))

pub placed-line :
    (b : List ℕ)
    → (112 ∷ 108 ∷ 97 ∷ 99 ∷ 101 ∷ 100 ∷ [])
    ++ ((32 ∷ decimal (le 8 b)) ++ ((32 ∷ decimal (le 2 (drop 8 b))) ++ ((32 ∷ decimal (le 4 (drop 10 b))) ++ ((32 ∷ decimal (le 1 (drop 14 b))) ++ (10 ∷ [])))))
    ≡ line (placed_words b)
unfolding placed_words
placed-line b = sym (simp (line-is, blanked-next, blanked-none))

pub row_line :
    (b : List ℕ)
    → (114 ∷ 111 ∷ 119 ∷ [])
    ++ ((32 ∷ hexadecimal (le 8 b)) ++ ((32 ∷ hexadecimal (le 8 (drop 8 b))) ++ (blanked (numbers (length (drop 16 b) / 8) (drop 16 b)) ++ (10 ∷ []))))
    ≡ line (row_words b)
unfolding row_words
row_line b = rw (length-drop 16 b) (sym (simp (line-is, blanked-next)))

-- a body from a place on
pub body-rest : (k : ℕ) (b : List ℕ) → take (length b - k) (drop k b) ≡ drop k b
body-rest k b = take_all (length b - k) (drop k b) (omega (arith, length-drop k b))

-- the number of a tag that has a name
pub tag_is : {n : ℕ} {t u : Tag} {r : Result Tag UnknownTag} → TagNamed n r → r ≡ Ok t → t ≡ u → n ≡ tag_number u
tag_is h e f = (rw e at h) ∙ ap tag_number f

-- a tree's tag is below those that only a change list has
tree_below : (tree : Tree) → tree_tag tree < 70
tree_below Extents = omega arith
tree_below Alloc = omega arith
tree_below Lru = omega arith
tree_below Freespace = omega arith
tree_below NeedDiscard = omega arith
tree_below Backpointers = omega arith
tree_below BucketGens = omega arith

-- the words of a field, by its tag

module _ (t : ℕ) (b : List ℕ) where
  pub words-key : t ≤ 14 → field_words (record { tag = t; body = b }) ≡ key_words t (key_of b)
  unfolding field_words
  words-key h = rw (le-leb t 14 h)

  pub words-root : t ≡ 70 → field_words (record { tag = t; body = b }) ≡ root_words b
  unfolding field_words
  words-root e = rw e

  pub words-taken : t ≡ 71 → field_words (record { tag = t; body = b }) ≡ taken_words b
  unfolding field_words
  words-taken e = rw e

  pub words_placed : t ≡ 72 → field_words (record { tag = t; body = b }) ≡ placed_words b
  unfolding field_words
  words_placed e = rw e

  pub words_row : t ≡ 73 → field_words (record { tag = t; body = b }) ≡ row_words b
  unfolding field_words
  words_row e = rw e

  pub words-sectors : t ≡ 74 → field_words (record { tag = t; body = b }) ≡ sectors_words b
  unfolding field_words
  words-sectors e = rw e

  pub words-unreserved : t ≡ 75 → field_words (record { tag = t; body = b }) ≡ unreserved_words b
  unfolding field_words
  words-unreserved e = rw e

  pub words-end : t ≡ 76 → field_words (record { tag = t; body = b }) ≡ end_words
  unfolding field_words
  words-end e = rw e

-- the shape of a field that may stand in a change list

pub fields-ok : (s : List ℕ) → change_laid_out s ≡ true → All (λ f. change_field_ok f ≡ true) (fields s)
unfolding change_laid_out change_field_ok
fields-ok s h =
    let fs : List Field = fields s in
    let a = parts (whole s) _ h in
    let b = parts (all_of (shaped change_shapes) fs) _ a.1 in
    let c = parts (all_of field_ok fs) _ b.1 in
    all_join (λ f p q. both p q) (test-all (shaped change_shapes) fs b.0) (test-all field_ok fs c.0)

module _ (t : ℕ) (b : List ℕ) (h : change_field_ok (record { tag = t; body = b }) ≡ true) where
  -- its tag has a name
  pub tag_named : (r : Result Tag UnknownTag) → TagNamed t r → IsOk r
  tag_named (Ok u) e = refl
  tag_named (Err u) e = absurd (clash h (sym (change-unnamed e.1 b)))

  pub root-size : t ≡ 70 → length b ≡ 1
  unfolding root_ok
  root-size e =
      let k = sym (change-root t b e) ∙ h in
      eqb-true (length b) 1 (parts (eqb (length b) 1) _ k).0

  pub bucket-size : (t ≡ 71) ⊎ (t ≡ 75) → length b ≡ 4
  bucket-size e = eqb-true (length b) 4 (sym (change-bucket t b e) ∙ h)

  pub placed-size : t ≡ 72 → length b ≡ 15
  placed-size e = eqb-true (length b) 15 (sym (change-72 t b e) ∙ h)

  pub row-size : t ≡ 73 → (length b ≡ 24) ⊎ (length b ≡ 40)
  row-size e = go (eqb (length b) 24) (eqb (length b) 40) refl refl (sym (change-row t b e) ∙ h)
    where
      go : (p q : Bool) → eqb (length b) 24 ≡ p → eqb (length b) 40 ≡ q → (p || q) ≡ true → (length b ≡ 24) ⊎ (length b ≡ 40)
      go true q x y z = inl (eqb-true (length b) 24 x)
      go false true x y z = inr (eqb-true (length b) 40 y)
      go false false x y z = absurd (clash z refl)

  pub sectors-size : t ≡ 74 → length b ≡ 8
  sectors-size e = eqb-true (length b) 8 (sym (change-74 t b e) ∙ h)

  -- a tag that is none of these, nor 76, is a tree's
  pub key-size : (t ≡ 70 → ⊥) → (t ≡ 71 → ⊥) → (t ≡ 72 → ⊥) → (t ≡ 73 → ⊥) → (t ≡ 74 → ⊥) → (t ≡ 75 → ⊥) → (t ≡ 76 → ⊥) → (t ≤ 14) × (37 ≤ length b)
  unfolding key_ok key_sized
  key-size n70 n71 n72 n73 n74 n75 n76 =
      ⊎_elim (λ (e : t ≡ 0). (omega arith, leb-true 37 (length b) (parts (leb 37 (length b)) _ (sym (change-extent t b e) ∙ h)).0))
      (λ n0.
      ⊎_elim (λ (e : t ≡ 4). sized (inl e) (omega arith))
      (λ n4.
      ⊎_elim
      (λ (l : t < 10). absurd (other n0 n4 (λ x y. omega arith)))
      (λ (l : 10 ≤ t).
      ⊎_elim (λ (m : t < 15). sized (key-tag t l m) (omega arith)) (λ (m : 15 ≤ t). absurd (other n0 n4 (λ x y. omega arith))) (cases_lt t 15))
      (cases_lt t 10))
      (same_or t 4))
      (same_or t 0)
    where
      sized : KeyTag t → t ≤ 14 → (t ≤ 14) × (37 ≤ length b)
      sized k m =
          let e = sym (change-key t b k) ∙ h in
          (m, leb-true 37 (length b) (parts (leb 37 (length b)) _ (parts _ _ e).0).0)

      other : (t ≡ 0 → ⊥) → (t ≡ 4 → ⊥) → (10 ≤ t → t < 15 → ⊥) → ⊥
      other n0 n4 keys = clash h (change-none t b n0 n4 keys n70 n71 n75 n72 n73 n74 n76)

  -- the same of a number below these
  below : t < 70 → (t ≤ 14) × (37 ≤ length b)
  below l =
      key-size (λ x. omega (arith, l, x)) (λ x. omega (arith, l, x)) (λ x. omega (arith, l, x)) (λ x. omega (arith, l, x)) (λ x. omega (arith, l, x)) (λ x. omega (arith, l, x)) (λ x. omega (arith, l, x))

  -- the same of a tag's name
  pub key_named :
      (u : Tag) → t ≡ tag_number u → (u ≡ Root → ⊥) → (u ≡ Taken → ⊥) → (u ≡ Spot → ⊥) → (u ≡ Row → ⊥) → (u ≡ Sectors → ⊥) → (u ≡ Unreserved → ⊥) → (u ≡ End → ⊥)
      → (t ≤ 14) × (37 ≤ length b)
  key_named (KeyTagged tree) e n70 n71 n72 n73 n74 n75 n76 = below (omega (arith, e, tree_below tree))
  key_named Head e n70 n71 n72 n73 n74 n75 n76 = below (omega (arith, e))
  key_named Reserved e n70 n71 n72 n73 n74 n75 n76 = below (omega (arith, e))
  key_named Piece e n70 n71 n72 n73 n74 n75 n76 = below (omega (arith, e))
  key_named Freed e n70 n71 n72 n73 n74 n75 n76 = below (omega (arith, e))
  key_named Root e n70 n71 n72 n73 n74 n75 n76 = absurd (n70 refl)
  key_named Taken e n70 n71 n72 n73 n74 n75 n76 = absurd (n71 refl)
  key_named Spot e n70 n71 n72 n73 n74 n75 n76 = absurd (n72 refl)
  key_named Row e n70 n71 n72 n73 n74 n75 n76 = absurd (n73 refl)
  key_named Sectors e n70 n71 n72 n73 n74 n75 n76 = absurd (n74 refl)
  key_named Unreserved e n70 n71 n72 n73 n74 n75 n76 = absurd (n75 refl)
  key_named End e n70 n71 n72 n73 n74 n75 n76 = absurd (n76 refl)

-- the loop over a change list: what is put, and what is left are the lines of the fields from place `at` on
pub record LinesLeft (s : List ℕ) (o : Output) (at : ℕ) (p : Output) : Type 0 where
  pub shapes : All (λ f. change_field_ok f ≡ true) (fields (drop at s))
  pub left : with_bytes p (change_lines (drop at s)) ≡ with_bytes o (change_lines s)

pub left-all : (s : List ℕ) (o : Output) → change_laid_out s ≡ true → LinesLeft s o 0 o
left-all s o h = record { shapes = fields-ok s h; left = refl }

module _ {s : List ℕ} {o p : Output} {at t b n : ℕ} (l : LinesLeft s o at p) (f : FieldAt s at t b n) where
  here-ok : All (λ f. change_field_ok f ≡ true) (field_at s t b n ∷ fields (drop (b + n) s))
  here-ok = rw f.here at l.shapes

  -- the field may stand in a change list
  pub field-here : change_field_ok (field_at s t b n) ≡ true
  field-here = first here-ok

  pub left-more :
      (r : Output) → r ≡ with_bytes p (line (field_words (field_at s t b n)))
      → LinesLeft s o (b + n) r
  unfolding change_lines each
  left-more r w =
      let a : change_lines (drop at s) ≡ line (field_words (field_at s t b n)) ++ change_lines (drop (b + n) s) =
      ap (each (λ (f : Field). line (field_words f))) f.here in
      record {
        shapes = all_tail here-ok;
        left = rw (w, with-with) (ap (with_bytes p) (sym a) ∙ l.left);
      }

pub left-none : {s : List ℕ} {o p : Output} {at : ℕ} → LinesLeft s o at p → fields (drop at s) ≡ [] → p ≡ with_bytes o (change_lines s)
unfolding change_lines each
left-none {s} {o} {p} {at} l e =
    sym (ap (λ (fs : List Field). with_bytes p (each (λ (f : Field). line (field_words f)) fs)) e ∙ with-none p) ∙ l.left
