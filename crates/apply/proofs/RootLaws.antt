-- Root bits: one field 70, and the loop over a change list.
use mathlib.Core.Path.{◌≡◌, refl, ap, sym, subst, ◌∙◌}
use mathlib.Core.Bool.{Bool, true, false, cond}
use mathlib.Core.List.{List, [], ◌∷◌, map}
use Prim.Native.Nat.{ℕ, ◌+◌, ◌<◌}
use native.Mathlib.Omega.{arith}
use lib.Dec.{eqb}
use lib.ListN.{drop}
use borrow.Author.Tests.{eqb-true, eq-eqb, ne_eqb}
use denote.Param.Members.{Mut}
use Rattle.std.specs.Fn.{Called, Takes}
use Rattle.std.specs.Iterator.{Yields, FoldTurn, CallableInFold, FoldsItems}
use Rattle.std.specs.List.{FoldsTo}
use Rattle.wire.specs.Bytes.{All, none, more}
use Rattle.wire.specs.Numbers.{le}
use Rattle.wire.specs.Fields.{Field, fields, field_at, whole}
use Rattle.wire.specs.FieldsFound.{field_in}
use Rattle.wire.specs.FieldSteps.{FieldStepped}
use Rattle.wire.specs.declared.fields.Field as code
use Rattle.wire.specs.declared.fields.Fields.{Fields}
use Rattle.wire.proofs.FieldStepLaws.{field-found, field-is, list-stays, none-here}
use Rattle.calls.specs.Lists.{all_of, those}
use Rattle.calls.specs.CallList.{bodies, shaped}
use Rattle.calls.specs.ChangeList.{change_shapes, root_listed, field_ok, change_laid_out}
use Rattle.calls.specs.Place.{root_missing}
use Rattle.calls.specs.Apply.{set_roots}
use Rattle.calls.proofs.lists.AllLaws.{first, all_join, all_tail, test-all}
use Rattle.calls.proofs.lists.BoolLaws.{parts}
use Rattle.calls.proofs.encoding.Blocks.{shaped_out}
use Rattle.calls.proofs.encoding.ApplyLaws.{roots-below}
use Rattle.wire.proofs.FieldLaws.{FieldAt}
use Rattle.reader.specs.Roots.{with_root_bit, with_root, is_root}
use Rattle.apply.specs.Roots.{roots_in, roots_after, NamesRoot, after_field}

-- one field

module _ (roots : ℕ) (f : Field) where
  pub other-field : (f.tag ≡ 70 → ⊥) → roots ≡ after_field roots f
  unfolding after_field
  other-field h = rw (ne_eqb f.tag 70 h) refl

  pub root_field : {q id : ℕ} → f.tag ≡ 70 → le 1 f.body ≡ id → q ≡ with_root roots id → q ≡ after_field roots f
  unfolding after_field
  root_field e g h = rw (eq-eqb f.tag 70 e, g) h

-- the loop on its way

pub record Rooting (list : List ℕ) (roots at r : ℕ) : Type 0 where
  pub rest : set_roots (roots_in (fields (drop at list))) r ≡ set_roots (roots_in (fields list)) roots
  pub named : All NamesRoot (fields (drop at list))

named-field : (f : Field) → shaped change_shapes f ≡ true → field_ok f ≡ true → NamesRoot f
unfolding field_ok root_listed is_root change_shapes
named-field f s o e =
    let k : shaped change_shapes (record { tag = 70; body = f.body }) ≡ true =
    ap (λ (n : ℕ). shaped change_shapes (record { tag = n; body = f.body })) (sym e) ∙ s in
    let l = shaped_out 70 1 1 change_shapes f.body refl k in
    (omega (arith, l.0, l.1), rw (eq-eqb f.tag 70 e) at o)

all-named-in : (list : List ℕ) → change_laid_out list ≡ true → All NamesRoot (fields list)
unfolding change_laid_out
all-named-in list h =
    let fs : List Field = fields list in
    let a = parts (whole list) _ h in
    let b = parts (all_of (shaped change_shapes) fs) _ a.1 in
    let c = parts (all_of field_ok fs) _ b.1 in
    all_join named-field (test-all (shaped change_shapes) fs b.0) (test-all field_ok fs c.0)

named-roots : {fs : List Field} → All NamesRoot fs → All (λ id. is_root id ≡ true) (roots_in fs)
unfolding roots_in bodies those
named-roots none = none
named-roots (more {a = f} {s = fs} h hs) = go (eqb f.tag 70) refl (named-roots hs)
  where
    go : (t : Bool) → eqb f.tag 70 ≡ t → All (λ id. is_root id ≡ true) (map (le 1) (map (λ g. g.body) (those (λ g. eqb g.tag 70) fs)))
        → All (λ id. is_root id ≡ true) (map (le 1) (map (λ g. g.body) (cond t (f ∷ those (λ g. eqb g.tag 70) fs) (those (λ g. eqb g.tag 70) fs))))
    go true e r = more (h (eqb-true f.tag 70 e)).1 r
    go false e r = r

-- the roots of a change list are roots
pub roots-low : (list : List ℕ) (roots : ℕ) → change_laid_out list ≡ true → roots < 8 → roots_after list roots < 8
unfolding is_root
roots-low list roots h l = roots-below roots (named-roots (all-named-in list h)) l

pub rooting-start : (list : List ℕ) (roots : ℕ) → change_laid_out list ≡ true → Rooting list roots 0 roots
rooting-start list roots h = record { rest = refl; named = all-named-in list h }

pub rooting-end : {list : List ℕ} {roots at r : ℕ} → Rooting list roots at r → fields (drop at list) ≡ [] → r ≡ roots_after list roots
unfolding roots_in bodies those set_roots
rooting-end p e = rw e at p.rest

module _ {list : List ℕ} {roots at r : ℕ} (p : Rooting list roots at r) {tag b n : ℕ} (h : FieldAt list at tag b n) where
  abbrev f : Field
  f = field_at list tag b n

  all_named : All NamesRoot (f ∷ fields (drop (b + n) list))
  all_named = rw h.here at p.named

  pub rooting-names : NamesRoot f
  rooting-names = first all_named

  pub rooting-on : {q : ℕ} → q ≡ after_field r f → Rooting list roots (b + n) q
  unfolding roots_in bodies those set_roots after_field with_root with_root_bit root_missing
  rooting-on {q} k =
      record {
        rest = ap (set_roots (roots_in (fields (drop (b + n) list)))) k ∙ sym passed ∙ p.rest;
        named = all_tail all_named;
      }
    where
      passed : set_roots (roots_in (fields (drop at list))) r ≡ set_roots (roots_in (fields (drop (b + n) list))) (after_field r f)
      passed = ap (λ (fs : List Field). set_roots (roots_in fs) r) h.here ∙ go (eqb tag 70) refl
        where
          go : (t : Bool) → eqb tag 70 ≡ t
              → set_roots (roots_in (f ∷ fields (drop (b + n) list))) r
              ≡ set_roots (roots_in (fields (drop (b + n) list))) (cond t (with_root r (le 1 f.body)) r)
          go true e = rw e
          go false e = rw e

-- a walk along the fields that are left of a change list, with the bits so far
pub record Walked (list : List ℕ) (roots : ℕ) (left : Fields) (r : ℕ) : Type 0 where
  pub list-is : left.list.now ≡ list
  pub rooting : Rooting list roots left.at r

pub fold-start : {list : List ℕ} {roots : ℕ} {s : Fields} → change_laid_out list ≡ true → s.list.now ≡ list → s.at ≡ 0 → Walked list roots s roots
fold-start {list} {roots} h l z = record { list-is = l; rooting = rw z (rooting-start list roots h) }

-- `fold` by what one field makes of the bits
module _ {F : Type 0} {g : Mut F (ℕ × (code.Field × Unit {0})) ℕ} (list : List ℕ) (roots : ℕ) (f : F)
    (does : (a : ℕ) (x : code.Field) (b : ℕ) (q : F) → Called g f (a, (x, tt)) b q → (q ≡ f) × (b ≡ after_field a (field_in x))) where
  walked : (xs : List code.Field) (s t : Fields) (r : ℕ) (q : F × ℕ) → Walked list roots s r → Yields FieldStepped s xs t
      → FoldsTo {P = F × ℕ} (FoldTurn g) (f, r) xs q → (q.0 ≡ f) × Walked list roots t q.1
  walked [] s t r q w y c = (ap (λ (p : F × ℕ). p.0) (sym c), subst (λ (u : Fields). Walked list roots u q.1) y (subst (λ (p : F × ℕ). Walked list roots s p.1) c w))
  walked (x ∷ xs) s t r q w y c =
      let d = does r x c.0.1 c.0.0 c.1 in
      let h = y.1 in
      walked xs y.0 t c.0.1 q
      (record {
        list-is = list-stays w.list-is h;
        rooting = rw h.at (rooting-on w.rooting (field-found w.list-is h) (rw (field-is w.list-is h) at d.1));
      })
      y.2
      (subst (λ (k : F). FoldsTo {P = F × ℕ} (FoldTurn g) (k, c.0.1) xs q) d.0 c.2)

  -- each field that comes may be asked
  pub fold-callable : {s : Fields} → Walked list roots s roots → ((a : ℕ) (x : code.Field) → NamesRoot (field_in x) → Takes g f (a, (x, tt)))
      → CallableInFold FieldStepped g s f roots
  fold-callable {s} w takes =
      record {
        at = λ xs t q x u y c h.
            let k = walked xs s t roots q w y c in
            rw k.0 (takes q.1 x (subst (λ (i : Field). NamesRoot i) (sym (field-is k.1.list-is h)) (rooting-names k.1.rooting (field-found k.1.list-is h))));
      }

  pub fold-roots : {s : Fields} {r : ℕ} → Walked list roots s roots → FoldsItems FieldStepped g s f roots r → r ≡ roots_after list roots
  fold-roots {s} {r} w d =
      let k = walked d.0 s d.2.1.0 roots (d.1, r) w d.2.1.1 d.3 in
      rooting-end k.1.rooting (none-here k.1.list-is d.2.1.2)
