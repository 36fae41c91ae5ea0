-- Which alloc keys are discarded: those that pass, with their places in the front of a room.
use Prim.Native.Nat.{ℕ, ◌+◌, ◌≤◌, ◌<◌}
use mathlib.Core.Path.{◌≡◌, refl, sym, ap, ◌∙◌, subst}
use mathlib.Core.Bool.{true, false, ◌&&◌}
use mathlib.Core.List.{List, [], ◌∷◌, ◌++◌, append-nil}
use native.Mathlib.Omega.{arith}
use native.Mathlib.Numerals.{add-one}
use lib.Dec.{leb, eqb}
use lib.ListN.{length, set, take, length-set}
use lib.Seq.{take-suc-set, append_snoc}
use borrow.Author.Tests.{eqb-true, leb-true}
use Rattle.wire.specs.Bytes.{All}
use Rattle.wire.specs.Keys.{Key}
use Rattle.calls.specs.Limits.{at_inode0}
use Rattle.calls.specs.Discard.{is_discarded}
use Rattle.calls.proofs.lists.BoolLaws.{parts}
use Rattle.calls.proofs.lists.AllLaws.{first, all_tail, all-nth, all-imp, all-chosen, all-those}
use Rattle.calls.proofs.lists.ThoseLaws.{those-hit, those-miss, those-none, those-length, those-map}
use Rattle.reader.specs.KeyHere.{key_here, keys_here, WholeKeys}
use Rattle.reader.proofs.ListedKeyLaws.{whole-each}
use Rattle.need_discard.specs.Kept.{AllocKept, DiscardedKept}
use Rattle.need_discard.specs.Chosen.{need_trees, discarded_from, places_discarded}

-- the walk on its way: the first places of the room are those of keys that are discarded, and with those of the places that are left they are all
pub record Choosing (s : List ℕ) (needs : List Key) (all left room : List ℕ) (n : ℕ) : Type 0 where
  pub fits : n + length left ≤ length room
  pub chosen : take n room ++ places_discarded needs s left ≡ places_discarded needs s all
  pub kept : All AllocKept (keys_here s left)

pub choosing-start : (s : List ℕ) (needs : List Key) {room places : List ℕ} → All AllocKept (keys_here s places) → length places ≤ length room
    → Choosing s needs places places room 0
choosing-start s needs a l = record { fits = omega (arith, l); chosen = refl; kept = a }

-- the next key, at a place
module _ {s : List ℕ} {needs : List Key} {all left rest : List ℕ} {at : ℕ} {room : List ℕ} {n : ℕ} (e : left ≡ at ∷ rest)
    (c : Choosing s needs all left room n) where
  kept_here : All AllocKept (key_here s at ∷ keys_here s rest)
  kept_here = subst (λ l. All AllocKept (keys_here s l)) e c.kept

  pub next-kept : AllocKept (key_here s at)
  next-kept = first kept_here

  pub next-fits : n < length room
  next-fits = omega (arith, c.fits, ap length e)

  pub choosing-more : is_discarded (need_trees needs) (key_here s at) ≡ true → Choosing s needs all rest (set room n at) (n + 1)
  choosing-more t =
      let front : take (n + 1) (set room n at) ≡ take n room ++ at ∷ [] = rw add-one (take-suc-set room n at next-fits) in
      record {
        fits = omega (arith, c.fits, ap length e, length-set room n at);
        chosen =
            ap (λ (l : List ℕ). l ++ places_discarded needs s rest) front
            ∙ append_snoc (take n room) at (places_discarded needs s rest)
            ∙ ap (λ (l : List ℕ). take n room ++ l) (sym (those-hit _ e t))
            ∙ c.chosen;
        kept = all_tail kept_here;
      }

  pub choosing-same : is_discarded (need_trees needs) (key_here s at) ≡ false → Choosing s needs all rest room n
  choosing-same t =
      record {
        fits = omega (arith, c.fits, ap length e);
        chosen = ap (λ (l : List ℕ). take n room ++ l) (sym (those-miss _ e t)) ∙ c.chosen;
        kept = all_tail kept_here;
      }

-- no key is left, and so no place
no-place : (s left : List ℕ) → keys_here s left ≡ [] → left ≡ []
no-place s [] e = refl
no-place s (x ∷ xs) e = absurd (omega (arith, ap length e))

-- all are chosen
pub chosen-places : {s : List ℕ} {needs : List Key} {all left room : List ℕ} {n : ℕ} → keys_here s left ≡ [] → Choosing s needs all left room n
    → (n ≤ length room) × (take n room ≡ places_discarded needs s all)
chosen-places {s} {room = room} {n = n} e c =
    let p = no-place s _ e in (
      omega (arith, c.fits),
      sym (append-nil (take n room)) ∙ ap (λ (l : List ℕ). take n room ++ l) (sym (those-none _ p)) ∙ c.chosen,
    )

-- the keys at the places that are chosen are whole, and are those that are discarded
module _ (needs : List Key) (s places : List ℕ) where
  pub chosen-whole : WholeKeys s places → WholeKeys s (places_discarded needs s places)
  chosen-whole w = record { at = all-nth 0 (all-those (λ at. is_discarded (need_trees needs) (key_here s at)) (whole-each w)) }

  pub chosen-all : keys_here s (places_discarded needs s places) ≡ discarded_from needs (keys_here s places)
  chosen-all = sym (those-map (is_discarded (need_trees needs)) (key_here s) places)

-- what is chosen is what the batches want of it
pub discarded-kept : (needs : List Key) {alloc : List Key} → All AllocKept alloc → All DiscardedKept (discarded_from needs alloc)
unfolding is_discarded
discarded-kept needs a =
    all-imp
    (λ (k : Key) (h : (is_discarded (need_trees needs) k ≡ true) × AllocKept k).
    let p = parts (eqb k.type 27 && at_inode0 k) _ h.0 in
    let z = parts (eqb k.type 27) (at_inode0 k) p.0 in
    let q = parts (leb 56 (length k.value)) _ p.1 in
    record { below = h.1.below (eqb-true k.pos.inode 0 z.1); valued = leb-true 56 (length k.value) q.0 })
    (all-chosen (is_discarded (need_trees needs)) a)

-- no more are chosen than there are
pub discarded-few : (needs alloc : List Key) {l : List Key} {n : ℕ} → l ≡ discarded_from needs alloc → length alloc ≤ n → length l ≤ n
discarded-few needs alloc e h = omega (arith, ap length e, those-length (is_discarded (need_trees needs)) alloc)
