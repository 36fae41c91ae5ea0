-- Pieces laid out one after the other: their slots at the front of a table, and the bucket that is open.
use mathlib.Core.Path.{◌≡◌, refl, sym, ap, ◌∙◌}
use mathlib.Core.List.{List, [], ◌∷◌, ◌++◌, map, append-nil, map-append}
use Prim.Native.Nat.{ℕ, ◌+◌, ◌≤◌, ◌<◌}
use native.Mathlib.Omega.{arith}
use native.Mathlib.Numerals.{add-one}
use lib.ListN.{length, take, set}
use lib.Seq.{append_snoc, take-suc-set}
use Rattle.calls.specs.Pieces as layouts
use Rattle.calls.specs.Pieces.{next_fit}
use Rattle.reader.specs.declared.piece.Piece.{Piece}
use Rattle.next_fit.specs.Fit.{slot_in, table_slot, slots_in, first_of, fit_slot, fit_piece, lay, unused}
use Rattle.next_fit.specs.declared.slot.Slot.{Slot}
use Rattle.next_fit.specs.declared.slot.OpenBucket.{OpenBucket}
use Rattle.next_fit.proofs.NextFitLaws.{fit_next, fit-high, fit-used, fit_none}

-- the sectors of some pieces
abbrev pub sectors : List Piece → List ℕ
sectors ps = map (λ (p : Piece). p.stored) ps

-- the slot of a piece, by itself
pub fit_is : (B : ℕ) (o : OpenBucket) (p : Piece) → next_fit B o.index o.used (p.stored ∷ []) ≡ fit_slot B o p ∷ []
unfolding next_fit fit_slot first_of
fit_is B o p = refl

-- The first `at` of some pieces are laid out: c is open after them, ts has their slots, and the others are left.
pub record LaidUpTo (B : ℕ) (all : List Piece) (at : ℕ) (left : List Piece) (c : OpenBucket) (ts : List Slot) : Type 0 where
  pub count : at + length left ≡ length all
  pub laid : lay B c left ≡ lay B unused all
  pub slots : slots_in (take at ts) ++ next_fit B c.index c.used (sectors left) ≡ next_fit B 0 0 (sectors all)
  pub below : c.index ≤ at
  pub short : c.used < 65536

pub laid-first : (B : ℕ) (all : List Piece) (ts : List Slot) → LaidUpTo B all 0 all unused ts
unfolding slots_in
laid-first B all ts = record { count = omega arith; laid = refl; slots = refl; below = omega arith; short = omega arith }

-- a table's front with one slot more
slots-put : (ts : List Slot) (i : ℕ) (t : Slot) → i < length ts → slots_in (take (i + 1) (set ts i t)) ≡ slots_in (take i ts) ++ (slot_in t ∷ [])
unfolding slots_in
slots-put ts i t l = rw (add-one, take-suc-set ts i t l) (map-append slot_in (take i ts) (t ∷ []))

module _ {B at : ℕ} {all left : List Piece} {c : OpenBucket} {ts : List Slot} (d : LaidUpTo B all at left c ts) where
  -- by the slot of the next piece
  pub laid_next : (p : Piece) (rest : List Piece) → left ≡ p ∷ rest → length all ≤ length ts → p.stored < 65536 → B < 65536
      → LaidUpTo B all (at + 1) rest (fit_piece B c p) (set ts at (table_slot (fit_slot B c p)))
  unfolding fit_piece lay
  laid_next p rest f k h b =
      let t = fit_slot B c p in
      let more = next_fit B t.index (t.offset + p.stored) (sectors rest) in
      let on : next_fit B c.index c.used (sectors left) ≡ t ∷ more = rw f (fit_next B c.index c.used p.stored t (fit_is B c p) (sectors rest)) in
      record {
        count = omega (arith, d.count, ap length f);
        laid = rw f at d.laid;
        slots = rw (slots-put ts at (table_slot t) (omega (arith, d.count, ap length f, k)), append_snoc (slots_in (take at ts)) t more, ← on) d.slots;
        below = omega (arith, fit-high B c.index c.used p.stored t (fit_is B c p), d.below);
        short = fit-used B c.index c.used p.stored t (fit_is B c p) h b;
      }

  -- at the end all are
  pub laid_end : left ≡ [] → (c ≡ lay B unused all) × (slots_in (take (length all) ts) ≡ next_fit B 0 0 (sectors all))
  unfolding lay
  laid_end e =
      let w : at ≡ length all = omega (arith, d.count, ap length e) in
      let rest : next_fit B c.index c.used (sectors left) ≡ [] = rw e (fit_none B c.index c.used) in (
        rw e at d.laid,
        rw (← w) (sym (append-nil (slots_in (take at ts))) ∙ ap (λ (r : List layouts.Slot). slots_in (take at ts) ++ r) (sym rest) ∙ d.slots),
      )
