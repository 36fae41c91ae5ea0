-- Fields in blocks, one for each tag: the bodies by tag, the order and the shapes.
use mathlib.Core.Path.{◌≡◌, refl, ap, sym, ◌∙◌}
use mathlib.Core.Bool.{Bool, true, false, not, ◌&&◌, ◌||◌, cond, false≢true, or-true}
use mathlib.Core.List.{List, [], ◌∷◌, ◌++◌, map, append_assoc, append-nil}
use Prim.Native.Nat.{ℕ, ◌≤◌, ◌<◌}
use native.Mathlib.Omega.{arith}
use lib.Dec.{leb, ltb, eqb}
use lib.ListN.{length}
use borrow.Author.Tests.{le-leb, leb-true, eqb-true, ne_eqb, ltb-true}
use Rattle.wire.specs.Fields.{Field}
use Rattle.wire.specs.Bytes.{All, none, more, Bytes}
use Rattle.wire.proofs.NumberLaws.{all_append}
use Rattle.wire.proofs.RoundTrip.{FieldFits}
use Rattle.calls.specs.Lists.{all_of, those, in_order}
use Rattle.calls.specs.CallList.{Shape, shaped, bodies}
use Rattle.calls.specs.ChangeList.{tags_ascend}
use Rattle.calls.proofs.lists.AllLaws.{all-imp, all-each, all_map, test-all}
use Rattle.calls.proofs.lists.BoolLaws.{clash, both, parts, or_map, cond_same}

-- blocks

pub record Block : Type 0 where
  pub tag : ℕ
  pub has : List (List ℕ)

abbrev pub field : ℕ → List ℕ → Field
field t b = record { tag = t; body = b }

unfoldable pub flat : List Block → List Field
flat [] = []
flat (k ∷ ks) = map (field k.tag) k.has ++ flat ks

-- what holds of each body of a block, as a field
abbrev pub InBlock : (Field → Type 0) → Block → Type 0
InBlock P k = All (λ b. P (field k.tag b)) k.has

pub flat-all : {P : Field → Type 0} {ks : List Block} → All (InBlock P) ks → All P (flat ks)
unfolding flat
flat-all none = none
flat-all (more {a = k} h r) = all_append (all_map (field k.tag) h) (flat-all r)

-- blocks behind others
pub flat_append : (ks js : List Block) → flat (ks ++ js) ≡ flat ks ++ flat js
unfolding flat
flat_append [] js = refl
flat_append (k ∷ ks) js =
    ap (λ (l : List Field). map (field k.tag) k.has ++ l) (flat_append ks js)
    ∙ sym (append_assoc (map (field k.tag) k.has) (flat ks) (flat js))

-- a test of the tags: at numerals it computes
pub flat-tags : (p : ℕ → Bool) (ks : List Block) → all_of (λ k. p k.tag) ks ≡ true → All (λ f. p f.tag ≡ true) (flat ks)
flat-tags p ks h = flat-all (all-imp (λ k e. all-each (λ b. e) k.has) (test-all (λ k. p k.tag) ks h))

-- bodies by tag

pub bodies-cons : (t : ℕ) (f : Field) (fs : List Field) → bodies t (f ∷ fs) ≡ cond (eqb f.tag t) (f.body ∷ bodies t fs) (bodies t fs)
unfolding bodies those
bodies-cons t f fs = go (eqb f.tag t)
  where
    go : (b : Bool)
        → map (λ g. g.body) (cond b (f ∷ those (λ g. eqb g.tag t) fs) (those (λ g. eqb g.tag t) fs))
        ≡ cond b (f.body ∷ bodies t fs) (bodies t fs)
    go true = refl
    go false = refl

-- a choice by tag takes a block whole, or none of it
module _ (p : ℕ → Bool) where
  abbrev pub chosen : List Field → List Field
  chosen fs = those (λ f. p f.tag) fs

  chosen-block : (s : ℕ) (bs : List (List ℕ)) (r : List Field) → chosen (map (field s) bs ++ r) ≡ cond (p s) (map (field s) bs ++ chosen r) (chosen r)
  unfolding those
  chosen-block s [] r = sym (cond_same (p s) (chosen r))
  chosen-block s (b ∷ bs) r = rw (chosen-block s bs r) (go (p s) (map (field s) bs ++ chosen r) (chosen r))
    where
      go : (e : Bool) (x y : List Field) → cond e (field s b ∷ cond e x y) (cond e x y) ≡ cond e (field s b ∷ x) y
      go true x y = refl
      go false x y = refl

body-block : (s : ℕ) (bs : List (List ℕ)) (r : List Field) → map (λ f. f.body) (map (field s) bs ++ r) ≡ bs ++ map (λ f. f.body) r
body-block s [] r = refl
body-block s (b ∷ bs) r = ap (λ (l : List (List ℕ)). b ∷ l) (body-block s bs r)

bodies-block :
    (s t : ℕ) (bs : List (List ℕ)) (r : List Field)
    → bodies t (map (field s) bs ++ r) ≡ cond (eqb s t) (bs ++ bodies t r) (bodies t r)
unfolding bodies
bodies-block s t bs r = rw (chosen-block (λ n. eqb n t) s bs r) (go (eqb s t))
  where
    go : (e : Bool)
        → map (λ f. f.body) (cond e (map (field s) bs ++ chosen (λ n. eqb n t) r) (chosen (λ n. eqb n t) r))
        ≡ cond e (bs ++ bodies t r) (bodies t r)
    go true = body-block s bs (chosen (λ n. eqb n t) r)
    go false = refl

-- the bodies of the blocks with a tag: at numerals it computes
abbrev pub has_of : ℕ → List Block → List (List ℕ)
has_of t [] = []
has_of t (k ∷ ks) = cond (eqb k.tag t) (k.has ++ has_of t ks) (has_of t ks)

pub bodies-flat : (t : ℕ) (ks : List Block) → bodies t (flat ks) ≡ has_of t ks
unfolding flat bodies those
bodies-flat t [] = refl
bodies-flat t (k ∷ ks) = rw (bodies-block k.tag t k.has (flat ks), bodies-flat t ks)

-- the fields with a tag are their bodies with it
pub bodies-all : {P : Field → Type 0} (t : ℕ) {fs : List Field} → All P fs → All (λ b. P (field t b)) (bodies t fs)
unfolding bodies those
bodies-all t none = none
bodies-all {P} t (more {a = f} {s = fs} h r) = rw (bodies-cons t f fs) (go (eqb f.tag t) refl (bodies-all t r))
  where
    go : (b : Bool) → eqb f.tag t ≡ b → All (λ x. P (field t x)) (bodies t fs)
        → All (λ x. P (field t x)) (cond b (f.body ∷ bodies t fs) (bodies t fs))
    go true e q = more {a = f.body} (rw (← eqb-true f.tag t e) h) q
    go false e q = q

-- a choice that takes every field with a tag keeps their bodies
pub bodies-those : (keep : Field → Bool) (t : ℕ) → ((f : Field) → f.tag ≡ t → keep f ≡ true) → (fs : List Field) → bodies t (those keep fs) ≡ bodies t fs
unfolding bodies those
bodies-those keep t h [] = refl
bodies-those keep t h (f ∷ fs) = go (eqb f.tag t) refl (keep f) refl (bodies-those keep t h fs)
  where
    go : (b : Bool) → eqb f.tag t ≡ b → (k : Bool) → keep f ≡ k
        → map (λ g. g.body) (those (λ g. eqb g.tag t) (those keep fs)) ≡ map (λ g. g.body) (those (λ g. eqb g.tag t) fs)
        → map (λ g. g.body) (those (λ g. eqb g.tag t) (cond k (f ∷ those keep fs) (those keep fs)))
        ≡ map (λ g. g.body) (cond b (f ∷ those (λ g. eqb g.tag t) fs) (those (λ g. eqb g.tag t) fs))
    go true e true d ih = rw e (ap (λ (l : List (List ℕ)). f.body ∷ l) ih)
    go true e false d ih = absurd (clash (h f (eqb-true f.tag t e)) d)
    go false e true d ih = rw e ih
    go false e false d ih = ih

-- order

abbrev pub Ascend : ℕ → List Field → Type 0
Ascend t [] = Unit {0}
Ascend t (f ∷ fs) = (t ≤ f.tag) × Ascend f.tag fs

pub ascend-order : (t : ℕ) (fs : List Field) → Ascend t fs → tags_ascend fs ≡ true
unfolding tags_ascend in_order
ascend-order t [] h = refl
ascend-order t (f ∷ []) h = refl
ascend-order t (f ∷ g ∷ fs) h = both (le-leb f.tag g.tag h.1.0) (ascend-order f.tag (g ∷ fs) h.1)

pub order-ascend : (fs : List Field) → tags_ascend fs ≡ true → Ascend 0 fs
unfolding tags_ascend in_order
order-ascend [] h = tt
order-ascend (f ∷ fs) h = (omega arith, go f fs h)
  where
    go : (f : Field) (fs : List Field) → in_order (λ a b. leb a.tag b.tag) (f ∷ fs) ≡ true → Ascend f.tag fs
    go f [] h = tt
    go f (g ∷ fs) h =
        let p = parts (leb f.tag g.tag) (in_order (λ a b. leb a.tag b.tag) (g ∷ fs)) h in
        (leb-true f.tag g.tag p.0, go g fs p.1)

ascend-weak : (t s : ℕ) (fs : List Field) → t ≤ s → Ascend s fs → Ascend t fs
ascend-weak t s [] l h = tt
ascend-weak t s (f ∷ fs) l h = (omega arith, h.1)

ascend-block : (t s : ℕ) (bs : List (List ℕ)) (r : List Field) → t ≤ s → Ascend s r → Ascend t (map (field s) bs ++ r)
ascend-block t s [] r l h = ascend-weak t s r l h
ascend-block t s (b ∷ bs) r l h = (l, ascend-block s s bs r (omega arith) h)

-- the tags of the blocks ascend: at numerals it computes
abbrev pub tags_up : ℕ → List Block → Bool
tags_up t [] = true
tags_up t (k ∷ ks) = leb t k.tag && tags_up k.tag ks

ascend-flat : (t : ℕ) (ks : List Block) → tags_up t ks ≡ true → Ascend t (flat ks)
unfolding flat
ascend-flat t [] h = tt
ascend-flat t (k ∷ ks) h =
    let p = parts (leb t k.tag) (tags_up k.tag ks) h in
    ascend-block t k.tag k.has (flat ks) (leb-true t k.tag p.0) (ascend-flat k.tag ks p.1)

pub flat-order : (ks : List Block) → tags_up 0 ks ≡ true → tags_ascend (flat ks) ≡ true
flat-order ks h = ascend-order 0 (flat ks) (ascend-flat 0 ks h)

-- no field has a tag below those of a list that ascends from a tag on
pub bodies-none : (t n : ℕ) (fs : List Field) → t < n → Ascend n fs → bodies t fs ≡ []
unfolding bodies those
bodies-none t n [] l h = refl
bodies-none t n (f ∷ fs) l h =
    let d : eqb f.tag t ≡ false = ne_eqb f.tag t (λ z. omega (arith, h.0)) in
    bodies-cons t f fs ∙ rw d (bodies-none t f.tag fs (omega (arith, h.0)) h.1)

-- shapes

-- a tag is one of some
abbrev pub is_of : List ℕ → ℕ → Bool
is_of [] n = false
is_of (t ∷ ts) n = eqb n t || is_of ts n

-- the test of one shape
abbrev of_shape : Shape → Field → Bool
of_shape s f = eqb f.tag s.tag && (leb s.least (length f.body) && leb (length f.body) s.most)

-- a field of one of the shapes, with a body of bytes
pub record FieldSound (ss : List Shape) (f : Field) : Type 0 where
  pub shape : shaped ss f ≡ true
  pub bytes : Bytes f.body

-- bodies of l to m bytes have a shape with this tag: at numerals it computes
abbrev pub takes : ℕ → ℕ → ℕ → List Shape → Bool
takes t l m [] = false
takes t l m (s ∷ ss) = (eqb t s.tag && (leb s.least l && leb m s.most)) || takes t l m ss

pub shaped_in :
    (t l m : ℕ) (ss : List Shape) (b : List ℕ) → takes t l m ss ≡ true → l ≤ length b → length b ≤ m → shaped ss (field t b) ≡ true
unfolding shaped
shaped_in t l m [] b h u v = h
shaped_in t l m (s ∷ ss) b h u v =
    or_map (eqb t s.tag && (leb s.least l && leb m s.most)) (takes t l m ss)
    (λ e.
    let p = parts (eqb t s.tag) (leb s.least l && leb m s.most) e in
    let q = parts (leb s.least l) (leb m s.most) p.1 in
    both p.0
    (both (le-leb s.least (length b) (omega (arith, leb-true s.least l q.0)))
    (le-leb (length b) s.most (omega (arith, leb-true m s.most q.1)))))
    (λ e. shaped_in t l m ss b e u v) h

-- the other way: the shapes with this tag have l to m bytes
abbrev pub keeps : ℕ → ℕ → ℕ → List Shape → Bool
keeps t l m [] = true
keeps t l m (s ∷ ss) = (not (eqb t s.tag) || (leb l s.least && leb s.most m)) && keeps t l m ss

pub shaped_out :
    (t l m : ℕ) (ss : List Shape) (b : List ℕ) → keeps t l m ss ≡ true → shaped ss (field t b) ≡ true → (l ≤ length b) × (length b ≤ m)
unfolding shaped
shaped_out t l m [] b k h = absurd (false≢true h)
shaped_out t l m (s ∷ ss) b k h =
    go (eqb t s.tag) (leb s.least (length b) && leb (length b) s.most) refl p.0 h (shaped_out t l m ss b p.1)
  where
    p : ((not (eqb t s.tag) || (leb l s.least && leb s.most m)) ≡ true) × (keeps t l m ss ≡ true)
    p = parts (not (eqb t s.tag) || (leb l s.least && leb s.most m)) (keeps t l m ss) k

    go : (x y : Bool) → (leb s.least (length b) && leb (length b) s.most) ≡ y
        → (not x || (leb l s.least && leb s.most m)) ≡ true → ((x && y) || shaped ss (field t b)) ≡ true
        → (shaped ss (field t b) ≡ true → (l ≤ length b) × (length b ≤ m)) → (l ≤ length b) × (length b ≤ m)
    go true true e c h f =
        let u = parts (leb s.least (length b)) (leb (length b) s.most) e in
        let v = parts (leb l s.least) (leb s.most m) c in
        omega (
          arith,
          leb-true s.least (length b) u.0,
          leb-true (length b) s.most u.1,
          leb-true l s.least v.0,
          leb-true s.most m v.1,
        )
    go true false e c h f = f h
    go false y e c h f = f h

-- a tag and a length of these shapes fit a field
abbrev pub small : List Shape → Bool
small ss = all_of (λ s. ltb s.tag 256 && ltb s.most 65536) ss

pub shaped-fits : (ss : List Shape) (f : Field) → small ss ≡ true → shaped ss f ≡ true → FieldFits f
unfolding shaped all_of
shaped-fits [] f k h = absurd (false≢true h)
shaped-fits (s ∷ ss) f k h =
    go (of_shape s f) refl h (shaped-fits ss f p.1)
  where
    p : ((ltb s.tag 256 && ltb s.most 65536) ≡ true) × (small ss ≡ true)
    p = parts (ltb s.tag 256 && ltb s.most 65536) (small ss) k

    go : (x : Bool) → (of_shape s f) ≡ x
        → (x || shaped ss f) ≡ true → (shaped ss f ≡ true → FieldFits f) → FieldFits f
    go true e h r =
        let u = parts (eqb f.tag s.tag) (leb s.least (length f.body) && leb (length f.body) s.most) e in
        let v = parts (leb s.least (length f.body)) (leb (length f.body) s.most) u.1 in
        let w = parts (ltb s.tag 256) (ltb s.most 65536) p.0 in
        record {
          tag = omega (arith, eqb-true f.tag s.tag u.0, ltb-true s.tag 256 w.0);
          short = omega (arith, leb-true (length f.body) s.most v.1, ltb-true s.most 65536 w.1);
        }
    go false e h r = r h

abbrev pub tags_of : List Shape → List ℕ
tags_of ss = map (λ s. s.tag) ss

pub shaped-tag : (ss : List Shape) (f : Field) → shaped ss f ≡ true → is_of (tags_of ss) f.tag ≡ true
unfolding shaped
shaped-tag [] f h = h
shaped-tag (s ∷ ss) f h =
    or_map (of_shape s f) (shaped ss f)
    (λ e. (parts (eqb f.tag s.tag) (leb s.least (length f.body) && leb (length f.body) s.most) e).0)
    (shaped-tag ss f) h

-- shapes at the end of some that take what others take
pub shaped-widen :
    (ss ts us : List Shape) (f : Field) → (shaped ts f ≡ true → shaped us f ≡ true) → shaped (ss ++ ts) f ≡ true
    → shaped (ss ++ us) f ≡ true
unfolding shaped
shaped-widen [] ts us f w h = w h
shaped-widen (s ∷ ss) ts us f w h =
    or_map (of_shape s f) (shaped (ss ++ ts) f)
    (λ e. e) (shaped-widen ss ts us f w) h

pub shaped-after : (ss ts : List Shape) (f : Field) → shaped ts f ≡ true → shaped (ss ++ ts) f ≡ true
unfolding shaped
shaped-after [] ts f h = h
shaped-after (s ∷ ss) ts f h = rw (shaped-after ss ts f h) (or-true (of_shape s f))

-- shapes and others behind them
pub shaped-front : (ss ts : List Shape) (f : Field) → shaped ss f ≡ true → shaped (ss ++ ts) f ≡ true
unfolding shaped
shaped-front ss ts f h = shaped-widen ss [] ts f (λ e. absurd (false≢true e)) (rw (append-nil ss) h)
