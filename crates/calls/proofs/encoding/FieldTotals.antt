-- Totals over the fields of a list, taken tag by tag: they do not depend on the order of the fields.
use mathlib.Core.Path.{◌≡◌, refl, ap, sym, ◌∙◌}
use mathlib.Core.Bool.{Bool, true, false, ◌&&◌, ◌||◌, cond, false≢true}
use mathlib.Core.List.{List, [], ◌∷◌, map}
use Prim.Native.Nat.{ℕ, ◌+◌, ◌≤◌, ◌<◌}
use native.Mathlib.Omega.{arith}
use lib.Dec.{ltb, eqb}
use lib.ListN.{length}
use borrow.Author.Tests.{eqb-true, ne_eqb, ltb-true}
use Rattle.wire.specs.Fields.{Field, size}
use Rattle.wire.specs.Bytes.{All, none, more}
use Rattle.calls.specs.Lists.{those, total, one, count}
use Rattle.calls.specs.CallList.{bodies}
use Rattle.calls.proofs.lists.BoolLaws.{parts}
use Rattle.calls.proofs.lists.TotalLaws.{total-append, total-map}
use Rattle.calls.proofs.encoding.Blocks.{Block, field, flat, bodies-cons, is_of}

-- how many bytes fields take
pub size-total : (fs : List Field) → size fs ≡ total (λ f. 3 + length f.body) fs
unfolding size total
size-total [] = refl
size-total (f ∷ fs) = ap (λ (n : ℕ). 3 + length f.body + n) (size-total fs)

-- how many have a tag
pub bodies-count : (t : ℕ) (fs : List Field) → length (bodies t fs) ≡ count (λ f. eqb f.tag t) fs
unfolding bodies those total
bodies-count t [] = refl
bodies-count t (f ∷ fs) = ap length (bodies-cons t f fs) ∙ go (eqb f.tag t) (bodies-count t fs)
  where
    go : (u : Bool) → length (bodies t fs) ≡ count (λ f. eqb f.tag t) fs
        → length (cond u (f.body ∷ bodies t fs) (bodies t fs)) ≡ one u + count (λ f. eqb f.tag t) fs
    go true e = omega arith
    go false e = omega arith

-- a block for each tag of some
abbrev pub gather : List ℕ → List Field → List Block
gather [] fs = []
gather (t ∷ ts) fs = record { tag = t; has = bodies t fs } ∷ gather ts fs

-- the tags ascend strictly: at numerals it computes
abbrev pub tags_above : ℕ → List ℕ → Bool
tags_above t [] = true
tags_above t (u ∷ us) = ltb t u && tags_above u us

-- a field is in no block of a tag above its own
gather-past : (f : Field) (fs : List Field) (t : ℕ) (ts : List ℕ) → f.tag ≤ t → tags_above t ts ≡ true → gather ts (f ∷ fs) ≡ gather ts fs
gather-past f fs t [] l h = refl
gather-past f fs t (u ∷ us) l h =
    let p = parts (ltb t u) (tags_above u us) h in
    let m : t < u = ltb-true t u p.0 in
    let d : eqb f.tag u ≡ false = ne_eqb f.tag u (λ z. omega arith) in
    let e : bodies u (f ∷ fs) ≡ bodies u fs = bodies-cons u f fs ∙ rw d in
    λ i. record { tag = u; has = e i } ∷ gather-past f fs u us (omega arith) p.1 i

module _ (g : Field → ℕ) where
  -- over one block
  abbrev pub of_block : Block → ℕ
  of_block k = total (λ b. g (field k.tag b)) k.has

  -- over some blocks
  pub total-flat : (ks : List Block) → total g (flat ks) ≡ total of_block ks
  unfolding flat total
  total-flat [] = refl
  total-flat (k ∷ ks) =
      total-append g (map (field k.tag) k.has) (flat ks) ∙ (λ i. total-map g (field k.tag) k.has i + total-flat ks i)

  -- one field more
  gather-more : (f : Field) (fs : List Field) (t : ℕ) (ts : List ℕ) → tags_above t ts ≡ true → is_of ts f.tag ≡ true
      → total of_block (gather ts (f ∷ fs)) ≡ g f + total of_block (gather ts fs)
  unfolding total
  gather-more f fs t [] h e = absurd (false≢true e)
  gather-more f fs t (u ∷ us) h e = go (eqb f.tag u) refl e (gather-more f fs u us p.1)
    where
      p : (ltb t u ≡ true) × (tags_above u us ≡ true)
      p = parts (ltb t u) (tags_above u us) h

      here : List (List ℕ) → ℕ
      here bs = total (λ b. g (field u b)) bs

      go : (b : Bool) → eqb f.tag u ≡ b → (b || is_of us f.tag) ≡ true
          → (is_of us f.tag ≡ true → total of_block (gather us (f ∷ fs)) ≡ g f + total of_block (gather us fs))
          → here (bodies u (f ∷ fs)) + total of_block (gather us (f ∷ fs)) ≡ g f + (here (bodies u fs) + total of_block (gather us fs))
      go true q e ih =
          let z : f.tag ≡ u = eqb-true f.tag u q in
          let k : g (field u f.body) ≡ g f = ap (λ (n : ℕ). g (field n f.body)) (sym z) in
          rw (bodies-cons u f fs, q, gather-past f fs u us (omega arith) p.1) (omega (arith, k))
      go false q e ih = rw (bodies-cons u f fs, q) (omega (arith, ih e))

  -- no fields
  gather_none : (ts : List ℕ) → total of_block (gather ts []) ≡ 0
  unfolding total bodies those
  gather_none [] = refl
  gather_none (t ∷ ts) = omega (arith, gather_none ts)

  -- over all fields, where their tags are among some
  pub total-gather : (ts : List ℕ) {fs : List Field} → tags_above 0 ts ≡ true → All (λ f. is_of ts f.tag ≡ true) fs
      → total of_block (gather ts fs) ≡ total g fs
  unfolding total
  total-gather ts h none = gather_none ts
  total-gather ts h (more {a = f} {s = fs} e r) = gather-more f fs 0 ts h e ∙ ap (λ (n : ℕ). g f + n) (total-gather ts h r)
