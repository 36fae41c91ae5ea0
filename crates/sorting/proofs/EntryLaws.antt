-- One field's part of a section: its key and its bytes.
use Prim.Native.Nat.{ℕ, ◌+◌, ◌-◌, ◌≤◌, ◌<◌}
use mathlib.Core.Path.{◌≡◌, refl, ap, sym, ◌∙◌}
use mathlib.Core.Bool.{Bool, true, false, ◌&&◌, cond}
use mathlib.Core.List.{List, [], ◌∷◌}
use mathlib.Core.Logic.{⊎_elim}
use native.Mathlib.Nat.{add-zero}
use native.Mathlib.Omega.{arith}
use lib.Dec.{leb, eqb}
use lib.ListN.{length, take, drop, get_or, length-drop}
use lib.Seq.{take-add, take_all, drop-drop}
use borrow.Author.Tests.{eqb-true, leb-true, eq-eqb, ne_eqb}
use Rattle.wire.specs.Bytes.{Bytes}
use Rattle.wire.specs.Numbers.{le, le_bytes}
use Rattle.wire.specs.Fields.{Field, FieldPlace, fields, field_at, step_of, found}
use Rattle.wire.specs.Keys.{Key, pos_of}
use Rattle.wire.specs.Encode.{head_bytes, encode_field}
use Rattle.wire.specs.Kinds.{bucket_read}
use Rattle.wire.specs.Positions.{alloc_at}
use Rattle.wire.proofs.FieldLaws.{FieldAt, field-at, step_cut, step-long, step-found}
use Rattle.wire.proofs.KeyLaws.{pos-at}
use Rattle.wire.proofs.NumberLaws.{all_take, all_drop, le_bytes-le, le-byte, body-le, body-length}
use Rattle.std.proofs.lemmas.Bool.{cases_lt}
use Rattle.wire.proofs.RoundTrip.{body-again}
use Rattle.calls.specs.CallList.{reserved_field}
use Rattle.calls.proofs.lists.BoolLaws.{parts}
use Rattle.sorting.specs.Entries.{is_bucket, is_entry, entry_of, entries, field_for}
use Rattle.sorting.specs.Places.{body_least, body_pos}
use Rattle.sorting.specs.EntryPlaces.{size_at, tag_at, entry_from, EntryAt, Stands, EntryHere}

-- a field that a step found, by the place of its body
pub record StepAt (s : List ℕ) (at t b n : ℕ) : Type 0 where
  pub field : FieldAt s at t b n
  pub tag : t ≡ tag_at s b
  pub size : n ≡ size_at s b

pub step-at : (s : List ℕ) (at t b n : ℕ) → step_of at (drop at s) ≡ found t b n → StepAt s at t b n
unfolding tag_at size_at
step-at s at t b n e =
    ⊎_elim
    (λ (h : length s - at < 3). absurd (let d = step_cut s at h in let z : ◌≡◌ {A = ℕ} 0 1 = cc in omega arith))
    (λ (h : 3 ≤ length s - at).
    ⊎_elim
    (λ (k : length s - at - 3 < le 2 (drop (at + 1) s)). absurd (let d = step-long s at h k in let z : ◌≡◌ {A = ℕ} 0 1 = cc in omega arith))
    (λ (k : le 2 (drop (at + 1) s) ≤ length s - at - 3).
    let d = step-found s at h k in
    let r : ◌≡◌ {A = FieldPlace} (record { tag = t; start = b; len = n }) (record { tag = get_or s at 0; start = at + 3; len = le 2 (drop (at + 1) s) }) = cc in
    let et : t ≡ get_or s at 0 = ap (λ (f : FieldPlace). f.tag) r in
    let en : n ≡ le 2 (drop (at + 1) s) = ap (λ (f : FieldPlace). f.len) r in
    let f = field-at s at t b n e in
    let x : at ≡ b - 3 = omega (arith, f.on) in
    let y : at + 1 ≡ b - 2 = omega (arith, f.on) in
    record { field = f; tag = rw x at et; size = rw y at en })
    (cases_lt (length s - at - 3) (le 2 (drop (at + 1) s))))
    (cases_lt (length s - at) 3)

-- the bytes of a field, by the place of its body
pub field-bytes : {s : List ℕ} {b : ℕ} → Bytes s → 3 ≤ b → b + size_at s b ≤ length s
    → take (3 + size_at s b) (drop (b - 3) s) ≡ encode_field (field_at s (tag_at s b) b (size_at s b))
unfolding encode_field head_bytes tag_at size_at
field-bytes {s} {b} r h l =
    let at : ℕ = b - 3 in
    let n : ℕ = le 2 (drop (b - 2) s) in
    let y : b - 2 ≡ at + 1 = omega arith in
    let z : b ≡ at + 3 = omega arith in
    let tag : le_bytes 1 (get_or s at 0) ≡ take 1 (drop at s) =
    ap (le_bytes 1) (sym (le-byte s at)) ∙ le_bytes-le 1 (all_drop at r) (rw length-drop (omega arith)) in
    let size : le_bytes 2 n ≡ take 2 (drop (at + 1) s) =
    ap (λ (i : ℕ). le_bytes 2 (le 2 (drop i s))) y ∙ le_bytes-le 2 (all_drop (at + 1) r) (rw length-drop (omega arith)) in
    rw (body-length s b n l, tag, size)
    (take-add 3 n (drop at s)
    ∙ rw (drop-drop 3 at s, take-add 1 2 (drop at s), drop-drop 1 at s, ← z))

-- what the tests of a field say

module _ (t tag n : ℕ) (e : is_entry t tag n ≡ true) where
  pub entry-bucket : t ≡ 64 → n ≡ 4
  unfolding is_entry is_bucket
  entry-bucket h = eqb-true n 4 (parts (eqb n 4) _ (rw h at e)).0

  pub entry_key : (t ≡ 64 → ⊥) → (tag ≡ t) × (37 ≤ n) × (n ≤ 293)
  unfolding is_entry
  entry_key h =
      let p = parts (eqb tag t) (leb 37 n && leb n 293) (rw (ne_eqb t 64 h) at e) in
      let q = parts (leb 37 n) (leb n 293) p.1 in
      (eqb-true tag t p.0, leb-true 37 n q.0, leb-true n 293 q.1)

  -- a field that is read is written again, as a field of a volume
  pub field-for : (b : List ℕ) → length b ≡ n → Bytes b → field_for t (entry_of t (record { tag = tag; body = b })) ≡ record { tag = t; body = b }
  unfolding field_for entry_of reserved_field
  field-for b l r = go (eqb t 64) refl
    where
      go : (u : Bool) → eqb t 64 ≡ u → field_for t (entry_of t (record { tag = tag; body = b })) ≡ record { tag = t; body = b }
      go true q =
          let z : t ≡ 64 = eqb-true t 64 q in
          let m : n ≡ 4 = entry-bucket z in
          let x : le_bytes 4 (le 4 b) ≡ b = le_bytes-le 4 r (omega arith) ∙ take_all 4 b (omega arith) in
          rw q (λ i. record { tag = sym z i; body = x i })
      go false q =
          let k = entry_key (λ z. let w : ◌≡◌ {A = ℕ} 0 1 = let y = eq-eqb t 64 z in cc in omega arith) in
          rw q (λ i. record { tag = t; body = body-again r (omega (arith, k.1)) i })

-- the key of a field that was read

pub entry_at : (t : ℕ) {s : List ℕ} {at tag b n : ℕ} → StepAt s at tag b n → entry_of t (field_at s tag b n) ≡ entry_from t s b
unfolding entry_from
entry_at t {s} {at} {tag} {b} {n} h = ap (λ (f : Field). entry_of t f) (λ i. field_at s (h.tag i) b (h.size i))

pub kept_at : {s : List ℕ} {at t tag b n : ℕ} → StepAt s at tag b n → is_entry t tag n ≡ true → EntryAt t s b
kept_at {t = t} h e =
    record {
      after = omega (arith, h.field.on);
      within = omega (arith, h.field.within, h.size);
      entry = rw (h.tag, h.size) at e;
    }

-- one field's part of the keys of a section
module _ (t : ℕ) {s : List ℕ} {at tag b n : ℕ} (h : StepAt s at tag b n) where
  abbrev f : Field
  f = field_at s tag b n

  abbrev fs : List Field
  fs = fields (drop (b + n) s)

  long : length (take n (drop b s)) ≡ n
  long = body-length s b n h.field.within

  pub entries-on : is_entry t tag n ≡ true → entries t (fields (drop at s)) ≡ entry_from t s b ∷ entries t fs
  unfolding entries
  entries-on e = ap (entries t) h.field.here ∙ rw (long, e) (ap (λ (k : Key). k ∷ entries t fs) (entry_at t h))

  pub entries-past : is_entry t tag n ≡ false → entries t (fields (drop at s)) ≡ entries t fs
  unfolding entries
  entries-past e = ap (entries t) h.field.here ∙ rw (long, e)

  pub entry_here : is_entry t tag n ≡ true → (from : ℕ) → from ≤ at → entries t (fields (drop at s)) ≡ entries t (fields (drop from s))
      → EntryHere s from t b n
  entry_here e from l i =
      record { here = sym i ∙ entries-on e; kept = kept_at h e; size = sym h.size; on = omega (arith, h.field.on) }

pub entries_none : (t : ℕ) {fs : List Field} → fs ≡ [] → entries t fs ≡ []
unfolding entries
entries_none t e = ap (entries t) e

-- what is read at the place of a key

module _ {t : ℕ} {s : List ℕ} {o : ℕ} (k : EntryAt t s o) where
  pub bucket-size : t ≡ 64 → o + 4 ≤ length s
  bucket-size z = omega (arith, k.within, entry-bucket t (tag_at s o) (size_at s o) k.entry z)

  pub key-size : (t ≡ 64 → ⊥) → (37 ≤ size_at s o) × (o + 37 ≤ length s)
  key-size z = let q = (entry_key t (tag_at s o) (size_at s o) k.entry z).1 in (q, omega (arith, k.within))

  pub bucket-pos : t ≡ 64 → alloc_at (bucket_read (drop o s)) ≡ (entry_from t s o).pos
  unfolding entry_from entry_of
  bucket-pos z =
      let m = entry-bucket t (tag_at s o) (size_at s o) k.entry z in
      let e : le 4 (drop o s) ≡ le 4 (take (size_at s o) (drop o s)) = sym (rw add-zero at (body-le s o (size_at s o) 4 0 (omega arith))) in
      rw (eq-eqb t 64 z) (λ i. record { inode = 0; offset = e i; snapshot = 0 })

  pub key-pos : (t ≡ 64 → ⊥) → pos_of (drop (o + 17) s) ≡ (entry_from t s o).pos
  unfolding entry_from entry_of
  key-pos z = rw (ne_eqb t 64 z) (sym (pos-at s o (size_at s o) (key-size z).0))

  -- the least length, and the position, of a body of the section
  pub body-within : o + body_least t ≤ length s
  body-within = go (eqb t 64) refl
    where
      go : (u : Bool) → eqb t 64 ≡ u → o + cond u 4 37 ≤ length s
      go true e = bucket-size (eqb-true t 64 e)
      go false e = (key-size (λ z. let w : ◌≡◌ {A = ℕ} 0 1 = let y = eq-eqb t 64 z in cc in omega arith)).1

  pub body-pos : body_pos t s o ≡ (entry_from t s o).pos
  body-pos = go (eqb t 64) refl
    where
      go : (u : Bool) → eqb t 64 ≡ u → cond u (alloc_at (bucket_read (drop o s))) (pos_of (drop (o + 17) s)) ≡ (entry_from t s o).pos
      go true e = bucket-pos (eqb-true t 64 e)
      go false e = key-pos (λ z. let w : ◌≡◌ {A = ℕ} 0 1 = let y = eq-eqb t 64 z in cc in omega arith)

  pub bucket-deleted : t ≡ 64 → get_or s (o - 3) 0 ≡ 75 → 0 ≡ (entry_from t s o).type
  unfolding entry_from entry_of tag_at
  bucket-deleted z e = rw (eq-eqb t 64 z, e)

  pub bucket-stays : t ≡ 64 → (get_or s (o - 3) 0 ≡ 75 → ⊥) → 1 ≡ (entry_from t s o).type
  unfolding entry_from entry_of tag_at
  bucket-stays z e = rw (eq-eqb t 64 z, ne_eqb (get_or s (o - 3) 0) 75 e)

  pub key-type : (t ≡ 64 → ⊥) → le 1 (drop o s) ≡ (entry_from t s o).type
  unfolding entry_from entry_of
  key-type z = rw (ne_eqb t 64 z) (sym (rw add-zero at (body-le s o (size_at s o) 1 0 (omega (arith, (key-size z).0)))))

  -- a key as it is written: its section's tag, and the body that was read
  pub entry-field : Bytes s → field_for t (entry_from t s o) ≡ field_at s t o (size_at s o)
  unfolding entry_from
  entry-field r =
      field-for t (tag_at s o) (size_at s o) k.entry (take (size_at s o) (drop o s)) (body-length s o (size_at s o) k.within)
      (all_take (size_at s o) (all_drop o r))

-- a key of a volume is written as it stands
pub stands-bytes : {t : ℕ} {s : List ℕ} {o : ℕ} → Bytes s → Stands t s o
    → take (3 + size_at s o) (drop (o - 3) s) ≡ encode_field (field_for t (entry_from t s o))
stands-bytes {t} {s} {o} r h =
    field-bytes r h.kept.after h.kept.within
    ∙ ap (λ (u : ℕ). encode_field (field_at s u o (size_at s o))) h.tag
    ∙ ap encode_field (sym (entry-field h.kept r))
