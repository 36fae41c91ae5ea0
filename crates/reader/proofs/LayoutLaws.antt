-- The layout of a call list, found field by field.
use Prim.Native.Nat.{ℕ, ◌<◌}
use mathlib.Core.Path.{◌≡◌, refl, sym, ◌∙◌, ap}
use mathlib.Core.Logic.{inl, inr, ⊎_elim}
use mathlib.Core.List.{List, [], ◌∷◌, ◌++◌, map}
use mathlib.Core.Bool.{Bool, true, false, ◌&&◌, ◌||◌, and-false, or-true, and_assoc}
use lib.ListN.{length}
use lib.Dec.{eqb}
use borrow.Author.Tests.{eq-eqb, ne_eqb, eqb-true, le-leb, lt-leb}
use native.Mathlib.Omega.{arith}
use Rattle.wire.specs.Fields.{Field, fields, whole}
use Rattle.wire.specs.Keys.{Key, key_of}
use Rattle.wire.specs.Bytes.{All, none, more}
use Rattle.calls.specs.Lists.{all_of}
use Rattle.calls.specs.CallList.{bodies, first_body, head_of, head_ok, key_below, keys_of, sorted_trees, call_list_of, shaped, exactly, volume_shapes, request_shapes, all_trees, snapshots_ok, laid_out}
use Rattle.calls.specs.Sorting.{sorted_by}
use Rattle.calls.specs.ChangeList.{field_ok}
use Rattle.reader.specs.CallFields.{rest_shapes, call_field_ok, head_field_ok, any_field_ok}
use Rattle.reader.specs.Readings.{laid_as}
use Rattle.calls.proofs.lists.AllLaws.{test-all, all-test, all-imp, all-zip}
use Rattle.calls.proofs.lists.BoolLaws.{both}
use Rattle.calls.proofs.lists.AllOfLaws.{all_of_map, all-of-sorted}
use Rattle.reader.proofs.BoolLaws.{and_left, and_right, same}
use Rattle.reader.proofs.ShapeLaws.{KeyTag, same_or}
use Rattle.reader.proofs.ListLaws.{bodies-here, bodies-other, bodies-all, all-bodies}
use Rattle.reader.proofs.ListedLaws.{shaped-cases, FieldListed, key, reserved, piece, freed, listed, key-tag-bounds, listed_above}

-- the snapshots of a tree

abbrev snapshot0 : List ℕ → Bool
snapshot0 b = eqb (key_of b).pos.snapshot 0

-- of its keys in order, and of their bodies
tree-snapshots : (bs : List (List ℕ)) → snapshots_ok (sorted_by key_below (map key_of bs)) ≡ all_of snapshot0 bs
tree-snapshots bs =
    all-of-sorted (λ (k : Key). eqb k.pos.snapshot 0) key_below (map key_of bs)
    ∙ all_of_map (λ (k : Key). eqb k.pos.snapshot 0) key_of bs

abbrev TreeOk : ℕ → List Field → Type 0
TreeOk t fs = all_of snapshot0 (bodies t fs) ≡ true

snapshots-are :
    (fs : List Field)
    → all_trees snapshots_ok (call_list_of fs).volume.trees
    ≡ (all_of snapshot0 (bodies 4 fs)
    && (all_of snapshot0 (bodies 10 fs)
    && (all_of snapshot0 (bodies 11 fs)
    && (all_of snapshot0 (bodies 12 fs) && (all_of snapshot0 (bodies 13 fs) && all_of snapshot0 (bodies 14 fs))))))
unfolding call_list_of sorted_trees keys_of
snapshots-are fs =
    λ i.
    tree-snapshots (bodies 4 fs) i
    && (tree-snapshots (bodies 10 fs) i
    && (tree-snapshots (bodies 11 fs) i
    && (tree-snapshots (bodies 12 fs) i && (tree-snapshots (bodies 13 fs) i && tree-snapshots (bodies 14 fs) i))))

trees-all : (fs : List Field) → all_trees snapshots_ok (call_list_of fs).volume.trees ≡ true → (t : ℕ) → KeyTag t → TreeOk t fs
trees-all fs g t k =
    let h = sym (snapshots-are fs) ∙ g in
    let h1 = and_right (all_of snapshot0 (bodies 4 fs)) _ h in
    let h2 = and_right (all_of snapshot0 (bodies 10 fs)) _ h1 in
    let h3 = and_right (all_of snapshot0 (bodies 11 fs)) _ h2 in
    let h4 = and_right (all_of snapshot0 (bodies 12 fs)) _ h3 in
    let h5 = and_right (all_of snapshot0 (bodies 13 fs)) _ h4 in
    by k (and_left _ _ h) (and_left _ _ h1) (and_left _ _ h2) (and_left _ _ h3) (and_left _ _ h4) h5
  where
    by : KeyTag t → TreeOk 4 fs → TreeOk 10 fs → TreeOk 11 fs → TreeOk 12 fs → TreeOk 13 fs → TreeOk 14 fs → TreeOk t fs
    by (inl e) a b c d x y = rw e a
    by (inr (inl e)) a b c d x y = rw e b
    by (inr (inr (inl e))) a b c d x y = rw e c
    by (inr (inr (inr (inl e)))) a b c d x y = rw e d
    by (inr (inr (inr (inr (inl e))))) a b c d x y = rw e x
    by (inr (inr (inr (inr (inr e))))) a b c d x y = rw e y

all-trees : (fs : List Field) → ((t : ℕ) → KeyTag t → TreeOk t fs) → all_trees snapshots_ok (call_list_of fs).volume.trees ≡ true
all-trees fs h =
    snapshots-are fs
    ∙ both (h 4 (inl refl))
    (both (h 10 (inr (inl refl)))
    (both (h 11 (inr (inr (inl refl))))
    (both (h 12 (inr (inr (inr (inl refl)))))
    (both (h 13 (inr (inr (inr (inr (inl refl)))))) (h 14 (inr (inr (inr (inr (inr refl))))))))))

snapshots-to :
    (fs : List Field) → ((t : ℕ) → KeyTag t → all_of snapshot0 (bodies t fs) ≡ true)
    → All (λ f. KeyTag f.tag → snapshot0 f.body ≡ true) fs
unfolding all_of
snapshots-to [] h = none
snapshots-to (f ∷ fs) h =
    more (λ k. and_left (snapshot0 f.body) _ (rw (bodies-here f.tag f fs refl) at (h f.tag k)))
    (snapshots-to fs
    (λ t k.
    ⊎_elim (λ e. and_right (snapshot0 f.body) _ (rw (bodies-here t f fs e) at (h t k)))
    (λ n. rw (bodies-other t f fs n) at (h t k)) (same_or f.tag t)))

key-field : (f : Field) → KeyTag f.tag → field_ok f ≡ snapshot0 f.body
unfolding field_ok
key-field f k =
    let b = key-tag-bounds f.tag k in
    simp (
      ne_eqb f.tag 70 (λ e. omega (arith, b.1)),
      le-leb 1 f.tag (omega (arith, b.0)),
      le-leb f.tag 14 b.1,
    )

other-field : (f : Field) → 14 < f.tag → (f.tag ≡ 70 → ⊥) → field_ok f ≡ true
unfolding field_ok
other-field f l n = simp (ne_eqb f.tag 70 n, lt-leb f.tag 14 l, and-false)

listed-field :
    {call n : ℕ} (f : Field) → FieldListed call f.tag n → (KeyTag f.tag → snapshot0 f.body ≡ true) → field_ok f ≡ true
listed-field f (key k l m) h = key-field f k ∙ h k
listed-field f (reserved e l) h = other-field f (omega arith) (λ z. omega arith)
listed-field f (piece c e l) h = other-field f (omega arith) (λ z. omega arith)
listed-field f (freed c e l) h = other-field f (omega arith) (λ z. omega arith)

-- the layout of the fields of a list, of this call or of any

abbrev pub laid_fields : ℕ → Bool → List Field → Bool
laid_fields call any fs =
    (all_of (shaped (volume_shapes ++ request_shapes call)) fs
    && (eqb (length (bodies 1 fs)) 1
    && (head_ok (call_list_of fs).volume.head && all_trees snapshots_ok (call_list_of fs).volume.trees)))
    && (any || eqb (call_list_of fs).volume.head.call call)

-- the head in a body of field 1
abbrev head_test : ℕ → Bool → List ℕ → Bool
head_test call any b = head_ok (head_of b) && (any || eqb (head_of b).call call)

-- the tests of the layout, one by one
record LaidParts (a c d e g : Bool) : Type 0 where
  shapes : a ≡ true
  once : c ≡ true
  head : d ≡ true
  trees : e ≡ true
  named : g ≡ true

apart-laid : (a c d e g : Bool) → ((a && (c && (d && e))) && g) ≡ true → LaidParts a c d e g
apart-laid a c d e g h =
    let x = and_left (a && (c && (d && e))) g h in
    let x1 = and_right a _ x in
    let x2 = and_right c _ x1 in
    record {
      shapes = and_left _ _ x;
      once = and_left _ _ x1;
      head = and_left _ _ x2;
      trees = and_right d _ x2;
      named = and_right (a && (c && (d && e))) g h;
    }

-- the one body of field 1
one-body : (p : List ℕ → Bool) (bs : List (List ℕ)) → length bs ≡ 1 → all_of p bs ≡ p (first_body bs)
unfolding all_of
one-body p [] e = absurd (omega arith)
one-body p (b ∷ []) e = and_one (p b)
  where
    and_one : (x : Bool) → (x && true) ≡ x
    and_one true = refl
    and_one false = refl
one-body p (b ∷ c ∷ bs) e = absurd (omega arith)

-- a field, by its shape
shaped-head : (call : ℕ) (f : Field) → f.tag ≡ 1 → shaped (volume_shapes ++ request_shapes call) f ≡ true → length f.body ≡ 39
unfolding volume_shapes rest_shapes
shaped-head call f e h =
    ⊎_elim (λ w. omega (arith, w.least, w.most)) (λ k. absurd (omega (arith, listed_above (listed call f k))))
    (shaped-cases (exactly 1 39) (rest_shapes call) f h)

shaped-beside : (call : ℕ) (f : Field) → (f.tag ≡ 1 → ⊥) → shaped (volume_shapes ++ request_shapes call) f ≡ true → shaped (rest_shapes call) f ≡ true
unfolding volume_shapes rest_shapes
shaped-beside call f n h = ⊎_elim (λ w. absurd (n w.tag)) (λ k. k) (shaped-cases (exactly 1 39) (rest_shapes call) f h)

shaped-first : (call : ℕ) (f : Field) → f.tag ≡ 1 → length f.body ≡ 39 → shaped (volume_shapes ++ request_shapes call) f ≡ true
unfolding shaped volume_shapes
shaped-first call f e n = simp (eq-eqb f.tag 1 e, n)

shaped-more : (call : ℕ) (f : Field) → shaped (rest_shapes call) f ≡ true → shaped (volume_shapes ++ request_shapes call) f ≡ true
unfolding shaped volume_shapes rest_shapes
shaped-more call f h = simp (h, or-true)

-- a field, by its tag
module _ (call : ℕ) (any : Bool) (f : Field) where
  pub any_head : f.tag ≡ 1 → any_field_ok call any f ≡ head_field_ok call any f.body
  unfolding any_field_ok
  any_head e = rw (eq-eqb f.tag 1 e)

  pub any-beside : (f.tag ≡ 1 → ⊥) → any_field_ok call any f ≡ call_field_ok call f
  unfolding any_field_ok
  any-beside n = rw (ne_eqb f.tag 1 n)

  -- from the shape, the head and the snapshot
  field-from : shaped (volume_shapes ++ request_shapes call) f ≡ true → (f.tag ≡ 1 → head_test call any f.body ≡ true)
      → (KeyTag f.tag → snapshot0 f.body ≡ true) → any_field_ok call any f ≡ true
  unfolding head_field_ok call_field_ok
  field-from s h z =
      ⊎_elim
      (λ e. any_head e ∙ both (eq-eqb (length f.body) 39 (shaped-head call f e s)) (h e))
      (λ n. let k = shaped-beside call f n s in any-beside n ∙ both k (listed-field f (listed call f k) z))
      (same_or f.tag 1)

  module _ (h : any_field_ok call any f ≡ true) where
    field-shaped : shaped (volume_shapes ++ request_shapes call) f ≡ true
    unfolding head_field_ok call_field_ok
    field-shaped =
        ⊎_elim
        (λ e. shaped-first call f e (eqb-true (length f.body) 39 (and_left _ _ (sym (any_head e) ∙ h))))
        (λ n. shaped-more call f (and_left (shaped (rest_shapes call) f) _ (sym (any-beside n) ∙ h)))
        (same_or f.tag 1)

    field-head : f.tag ≡ 1 → head_test call any f.body ≡ true
    unfolding head_field_ok
    field-head e = and_right (eqb (length f.body) 39) _ (sym (any_head e) ∙ h)

    field-snapshot : (t : ℕ) → KeyTag t → f.tag ≡ t → snapshot0 f.body ≡ true
    unfolding call_field_ok
    field-snapshot t k e =
        let b = key-tag-bounds t k in
        sym (key-field f (rw e k)) ∙ and_right (shaped (rest_shapes call) f) _ (sym (any-beside (λ z. omega (arith, b.0))) ∙ h)

module _ (call : ℕ) (any : Bool) (fs : List Field) where
  laid_from : laid_fields call any fs ≡ true → (all_of (any_field_ok call any) fs && eqb (length (bodies 1 fs)) 1) ≡ true
  unfolding call_list_of
  laid_from h =
      let p = apart-laid (all_of (shaped (volume_shapes ++ request_shapes call)) fs) (eqb (length (bodies 1 fs)) 1)
      (head_ok (call_list_of fs).volume.head) (all_trees snapshots_ok (call_list_of fs).volume.trees) (any || eqb (call_list_of fs).volume.head.call call) h in
      let one = eqb-true (length (bodies 1 fs)) 1 p.once in
      let heads : all_of (head_test call any) (bodies 1 fs) ≡ true = one-body (head_test call any) (bodies 1 fs) one ∙ both p.head p.named in
      both
      (all-test (any_field_ok call any)
      (all-imp (λ f k. field-from call any f k.0 k.1.0 k.1.1)
      (all-zip (test-all (shaped (volume_shapes ++ request_shapes call)) fs p.shapes)
      (all-zip (bodies-all 1 (head_test call any) fs heads) (snapshots-to fs (trees-all fs p.trees))))))
      p.once

  laid-to : (all_of (any_field_ok call any) fs && eqb (length (bodies 1 fs)) 1) ≡ true → laid_fields call any fs ≡ true
  unfolding call_list_of
  laid-to h =
      let q = test-all (any_field_ok call any) fs (and_left _ _ h) in
      let once = and_right (all_of (any_field_ok call any) fs) _ h in
      let one = eqb-true (length (bodies 1 fs)) 1 once in
      let heads : head_test call any (first_body (bodies 1 fs)) ≡ true =
      sym (one-body (head_test call any) (bodies 1 fs) one) ∙ all-bodies 1 (head_test call any) (all-imp (field-head call any) q) in
      both
      (both (all-test (shaped (volume_shapes ++ request_shapes call)) (all-imp (field-shaped call any) q))
      (both once
      (both (and_left (head_ok (head_of (first_body (bodies 1 fs)))) _ heads)
      (all-trees fs (λ t k. all-bodies t snapshot0 (all-imp (λ f g. field-snapshot call any f g t k) q))))))
      (and_right (head_ok (head_of (first_body (bodies 1 fs)))) _ heads)

  pub laid-is : laid_fields call any fs ≡ (all_of (any_field_ok call any) fs && eqb (length (bodies 1 fs)) 1)
  laid-is = same _ _ laid_from laid-to

-- the layout of a list
pub list-laid : (s : List ℕ) (call : ℕ) (any : Bool) → laid_as call any s ≡ (whole s && (all_of (any_field_ok call any) (fields s) && eqb (length (bodies 1 (fields s))) 1))
unfolding laid_as laid_out
list-laid s call any = and_assoc (whole s) _ _ ∙ ap (λ (b : Bool). whole s && b) (laid-is call any (fields s))
