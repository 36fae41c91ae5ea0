-- A head is read part by part, each at its own place.
use Prim.Native.Nat.{ℕ, ◌+◌, ◌≤◌}
use mathlib.Core.Path.{◌≡◌, refl, sym, ◌∙◌, ap}
use mathlib.Core.List.{List, [], ◌∷◌}
use lib.ListN.{length, take, drop}
use lib.Seq.{take_all}
use lib.Dec.{leb, ltb, eqb}
use borrow.Author.Tests.{leb-true, eq-eqb, ne_eqb, eqb-true, eqb-false}
use denote.Param.Members.{Mut}
use denote.Ref.{Bor}
use Rattle.std.specs.Fn.{CalledAt}
use Rattle.std.specs.Iterator.{Yields, FindsItem}
use Rattle.std.specs.List.{FoldsTo}
use Rattle.std.specs.Prelude.{Result, Ok, Err, is_ok, Option, Some, None, IfSome, unwrap_or, slice_get}
use mathlib.Core.Bool.{Bool, true, false, ◌&&◌, ◌||◌, and_assoc}
use native.Mathlib.Nat.{add-zero}
use native.Mathlib.Omega.{arith}
use Rattle.wire.specs.Numbers.{le}
use Rattle.wire.specs.Fields.{Field, fields, field_at}
use Rattle.wire.specs.FieldSteps.{FieldStepped}
use Rattle.wire.specs.declared.fields.Field as code
use Rattle.wire.specs.declared.fields.Fields as codes
use Rattle.wire.proofs.FieldStepLaws.{field-found, field-is, list-stays, none-here}
use Rattle.wire.proofs.NumberLaws.{body-le}
use Rattle.wire.proofs.FieldLaws.{FieldAt}
use Rattle.calls.specs.Lists.{those}
use Rattle.calls.specs.CallList.{Head, head_of, head_ok, bodies, first_body, call_list_of}
use Rattle.reader.specs.CallFields.{head_field_ok}
use Rattle.reader.specs.Heads.{call_byte}
use Rattle.reader.specs.CallKinds.{CallNamed}
use Rattle.reader.specs.declared.call_kinds.Call.{Call}
use Rattle.reader.specs.declared.call_kinds.UnknownCall.{UnknownCall}
use Rattle.reader.specs.declared.call_kinds.Call.TheVariants.{Place, Release, Discard}
use Rattle.reader.proofs.ListLaws.{bodies-here, bodies-other}

module _ (s : List ℕ) (at : ℕ) where
  part : (n k : ℕ) → k + n ≤ 39 → le n (drop k (take 39 (drop at s))) ≡ le n (drop (at + k) s)
  part = body-le s at 39

  call_at : le 1 (take 39 (drop at s)) ≡ le 1 (drop at s)
  call_at = rw add-zero at (part 1 0 (omega arith))

  abbrev pub head_at : Head
  head_at =
      record {
        call = le 1 (drop at s);
        bucket_sectors = le 2 (drop (at + 1) s);
        block_sectors = le 2 (drop (at + 3) s);
        option = le 1 (drop (at + 5) s);
        roots = le 1 (drop (at + 6) s);
        reserve = le 4 (drop (at + 7) s);
        batch = le 4 (drop (at + 11) s);
        journal = le 8 (drop (at + 15) s);
        inode = le 8 (drop (at + 23) s);
        base = record { 0 = le 8 (drop (at + 31) s) };
      }

  pub head_at_lem : head_of (take 39 (drop at s)) ≡ head_at
  unfolding head_of
  head_at_lem =
      simp (
        call_at,
        part 2 1 (omega arith),
        part 2 3 (omega arith),
        part 1 5 (omega arith),
        part 1 6 (omega arith),
        part 4 7 (omega arith),
        part 4 11 (omega arith),
        part 8 15 (omega arith),
        part 8 23 (omega arith),
        part 8 31 (omega arith),
      )

-- the call byte, by the bodies of field 1
module _ (s : List ℕ) where
  call-of : call_byte s ≡ le 1 (first_body (bodies 1 (fields s)))
  unfolding call_byte call_list_of head_of
  call-of = refl

  module _ (at : ℕ) (same : bodies 1 (fields (drop at s)) ≡ bodies 1 (fields s)) where
    pub call_none : fields (drop at s) ≡ [] → 0 ≡ call_byte s
    unfolding bodies those le
    call_none e = sym (call-of ∙ ap (λ (bs : List (List ℕ)). le 1 (first_body bs)) (sym same ∙ ap (bodies 1) e))

    module _ (t b n : ℕ) (f : FieldAt s at t b n) where
      pub call-past : (t ≡ 1 → ⊥) → bodies 1 (fields (drop (b + n) s)) ≡ bodies 1 (fields s)
      call-past x = sym (bodies-other 1 (field_at s t b n) (fields (drop (b + n) s)) x) ∙ ap (bodies 1) (sym f.here) ∙ same

      call-here : t ≡ 1 → call_byte s ≡ le 1 (take n (drop b s))
      call-here e =
          call-of
          ∙ ap (λ (bs : List (List ℕ)). le 1 (first_body bs))
          (sym same ∙ ap (bodies 1) f.here ∙ bodies-here 1 (field_at s t b n) (fields (drop (b + n) s)) e)

      pub call-first : t ≡ 1 → le 1 (take n (drop b s)) ≡ call_byte s
      call-first e = sym (call-here e)

-- the call byte that a field 1 has, or none
abbrev pub call_found : Option code.Field → ℕ
call_found None = 0
call_found (Some f) = le 1 f.body.now

-- `find` over the fields, by a test for field 1: the fields passed are none, and the one found is the first
module _ {F : Type 0} {g : Mut F (Bor code.Field × Unit {0}) Bool} (s : List ℕ) (f : F)
    (tests : (x : code.Field) (b : Bool) (q : F) → CalledAt g f x b q → (q ≡ f) × (b ≡ eqb x.tag 1)) where
  abbrev Passed : codes.Fields → Type 0
  Passed left = (left.list.now ≡ s) × (bodies 1 (fields (drop left.at s)) ≡ bodies 1 (fields s))

  next-called : (left : codes.Fields) → Passed left → (xs : List code.Field) (i j : F) (r : Option code.Field) (t u : codes.Fields) → i ≡ f
      → Yields FieldStepped left xs t → FieldStepped t r u → FoldsTo (λ p x q. CalledAt g p x false q) i xs j
      → IfSome r (λ x. (h : F) × CalledAt g j x true h) → call_found r ≡ call_byte s
  next-called left p [] i j None t u e y w z h = call_none s _ (rw y at p).1 (none-here (rw y at p).0 w)
  next-called left p [] i j (Some x) t u e y w z h =
      let q = rw y at p in
      ap (λ (f : Field). le 1 f.body) (field-is q.0 w)
      ∙ call-first s _ q.1 _ _ _ (field-found q.0 w) (eqb-true x.tag 1 (sym (tests x true h.0 (rw (← z, e) at h.1)).1))
  next-called left p (x ∷ xs) i j r t u e y w z h =
      let k = tests x false z.0 (rw e at z.1) in
      let v = y.1 in
      next-called _
      (list-stays p.0 v, rw v.at (call-past s _ p.1 _ _ _ (field-found p.0 v) (eqb-false x.tag 1 (sym k.1))))
      xs z.0 j r t u k.0 y.2 w z.2 h

  pub call-found : {start : codes.Fields} {r : Option code.Field} {u : codes.Fields} → start.list.now ≡ s → start.at ≡ 0
      → FindsItem FieldStepped g start f r u → call_found r ≡ call_byte s
  call-found {start} {r} {u} o a d = next-called start (o, rw a refl) d.0 f d.1 r d.2.0 u refl d.2.1 d.2.2 d.3 d.4

-- the first byte of a body, or 0
pub first-byte : (l : List ℕ) → unwrap_or (slice_get l 0) 0 ≡ le 1 l
unfolding le
first-byte [] = refl
first-byte (b ∷ l) = omega arith

-- a byte that is that of the field found, or 0
pub called-by : (s : List ℕ) (o : Option code.Field) (v : ℕ) → call_found o ≡ call_byte s → (o ≡ None → v ≡ 0)
    → ((f : code.Field) → o ≡ Some f → v ≡ le 1 f.body.now)
    → v ≡ call_byte s
called-by s None v e n h = n refl ∙ e
called-by s (Some f) v e n h = h f refl ∙ e

-- field 1, by its length and its head
module _ (call : ℕ) (any : Bool) (body : List ℕ) where
  pub head-missized : (length body ≡ 39 → ⊥) → head_field_ok call any body ≡ false
  unfolding head_field_ok
  head-missized n = simp (ne_eqb (length body) 39 n)

  pub head-told :
      (h : Head) → length body ≡ 39 → h ≡ head_of (take 39 body) → head_field_ok call any body ≡ (head_ok h && (any || eqb h.call call))
  unfolding head_field_ok
  head-told h e k =
      let g : head_of body ≡ h = ap head_of (sym (take_all 39 body (omega arith))) ∙ sym k in
      simp (eq-eqb (length body) 39 e, g)

-- a head's call and its roots
module _ (h : Head) where
  call_named : (r : Result Call UnknownCall) → CallNamed h.call r → is_ok r ≡ (leb 1 h.call && leb h.call 3)
  call_named (Ok Place) e = rw e refl
  call_named (Ok Release) e = rw e refl
  call_named (Ok Discard) e = rw e refl
  call_named (Err x) u = go (leb 1 h.call) (leb h.call 3) refl refl
    where
      go : (p q : Bool) → leb 1 h.call ≡ p → leb h.call 3 ≡ q → false ≡ (p && q)
      go false q x y = refl
      go true false x y = refl
      go true true x y = absurd (omega (arith, leb-true 1 h.call x, leb-true h.call 3 y, u.1 Place, u.1 Release, u.1 Discard))

  module _ (r : Result Call UnknownCall) (n : CallNamed h.call r) where
    pub head-called : true ≡ is_ok r → ltb h.roots 8 ≡ head_ok h
    unfolding head_ok
    head-called e = rw (← and_assoc (leb 1 h.call) (leb h.call 3) (ltb h.roots 8), sym (e ∙ call_named r n)) refl

    pub head-uncalled : false ≡ is_ok r → false ≡ head_ok h
    unfolding head_ok
    head-uncalled e = rw (← and_assoc (leb 1 h.call) (leb h.call 3) (ltb h.roots 8), sym (e ∙ call_named r n)) refl

pub ruleset head_cases = (head-missized, head-told)
