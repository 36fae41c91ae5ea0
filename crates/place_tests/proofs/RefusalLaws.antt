-- Refusals 4 to 13, one after the other, and what they tell where none is met.
use mathlib.Core.Path.{◌≡◌, refl, ap, sym, ◌∙◌}
use mathlib.Core.Bool.{Bool, true, false, not, ◌&&◌, ◌||◌, cond}
use mathlib.Core.List.{List, [], ◌∷◌}
use Prim.Native.Nat.{ℕ, ◌≤◌, ◌<◌}
use native.Mathlib.Omega.{arith}
use lib.Dec.{leb, eqb}
use lib.ListN.{take}
use borrow.Author.Tests.{eqb-false, leb-true, not-true}
use Rattle.calls.specs.Lists.{all_of}
use Rattle.calls.specs.CallList.{CallList, Piece}
use Rattle.calls.specs.Freespace.{is_in, runs_of, overlaps, free_count, wanted}
use Rattle.calls.specs.Pieces.{buckets_needed, kind_listed, block_of, divides, piece_sized}
use Rattle.calls.specs.Place.{slots_of, walk_of, place_tests}
use Rattle.calls.specs.Refusals.{test, verdict}
use Rattle.calls.proofs.answers.RefusalLaws.{verdict-ok, verdict-front, verdict-next, verdict-stops, verdict-past, verdict-first, verdict-one, test-ok}
use Rattle.reader.specs.Heads.{head_in}
use Rattle.reader.specs.declared.head.Head.{Head}
use Rattle.reader.specs.Refusals.{number_of}
use Rattle.reader.specs.declared.refusal.Refusal.{Refusal}
use Rattle.reader.proofs.NumberLaws.{refused-some}

-- ---- 4 to 9
-- the first of six tests that fails
six-tests : (a b c d e f : Bool) → verdict (test 4 a ∷ test 5 b ∷ test 6 c ∷ test 7 d ∷ test 8 e ∷ test 9 f ∷ [])
    ≡ cond a (cond b (cond c (cond d (cond e (cond f 0 9) 8) 7) 6) 5) 4
unfolding verdict
six-tests false b c d e f = refl
six-tests true false c d e f = refl
six-tests true true false d e f = refl
six-tests true true true false e f = refl
six-tests true true true true false f = refl
six-tests true true true true true false = refl
six-tests true true true true true true = refl

-- which of refusals 4 to 9 is met, by the head that the code holds
abbrev pub first_refusal : List Piece → Head → ℕ
first_refusal ps h =
    let block = block_of h.block_sectors in
    cond (not (eqb h.bucket_sectors 0))
    (cond (leb h.option 3)
    (cond (all_of kind_listed ps)
    (cond (not (eqb h.option 0) || all_of (λ p. eqb p.kind 0) ps)
    (cond (divides block h.bucket_sectors && divides block 128)
    (cond (all_of (piece_sized h.bucket_sectors block) ps) 0 9) 8) 7) 6) 5) 4

pub first_tests : (c : CallList) (h : Head) {ps : List Piece} → head_in h ≡ c.volume.head → ps ≡ c.pieces → verdict (take 6 (place_tests c)) ≡ first_refusal ps h
unfolding place_tests
first_tests c h e f = rw (← e, ← f) (six-tests _ _ _ _ _ _)

module _ (c : CallList) (h : Head) where
  abbrev block : ℕ
  block = block_of h.block_sectors

  -- what they tell where none is met
  pub record Asked : Type 0 where
    pub sectors : 0 < h.bucket_sectors
    pub option : h.option ≤ 3
    pub kinds : all_of kind_listed c.pieces ≡ true
    pub sizes : all_of (piece_sized h.bucket_sectors block) c.pieces ≡ true

  pub asked : head_in h ≡ c.volume.head → verdict (take 6 (place_tests c)) ≡ 0 → Asked
  unfolding place_tests
  asked e z =
      let q = rw (← e) at z in
      let t4 = verdict-ok _ _ q in
      let t5 = verdict-ok _ _ t4.1 in
      let t6 = verdict-ok _ _ t5.1 in
      let t7 = verdict-ok _ _ t6.1 in
      let t8 = verdict-ok _ _ t7.1 in
      let t9 = verdict-ok _ _ t8.1 in
      let n = eqb-false h.bucket_sectors 0 (not-true _ (test-ok 4 _ (omega arith) t4.0)) in
      record {
        sectors = omega arith;
        option = leb-true h.option 3 (test-ok 5 _ (omega arith) t5.0);
        kinds = test-ok 6 _ (omega arith) t6.0;
        sizes = test-ok 9 _ (omega arith) t9.0;
      }

-- ---- 10 to 13
module _ (c : CallList) where
  abbrev apart : Bool
  apart = not (overlaps (runs_of c.volume.trees.freespace))

  abbrev pub enough : Bool
  enough =
      leb (wanted (buckets_needed (slots_of c)) c.volume.head.reserve)
      (free_count (is_in c.volume.reserved) (runs_of c.volume.trees.freespace))

  abbrev rest : List ℕ
  rest = test 10 apart ∷ test 11 enough ∷ (walk_of c).refusal ∷ []

  pub asked-stops : (r : Refusal) → number_of r ≡ verdict (take 6 (place_tests c)) → number_of r ≡ verdict (place_tests c)
  unfolding place_tests
  asked-stops r e = e ∙ sym (verdict-first (take 6 (place_tests c)) rest (λ z. refused-some r (e ∙ z)))

  module _ (z : verdict (take 6 (place_tests c)) ≡ 0) where
    past-9 : verdict (place_tests c) ≡ verdict rest
    unfolding place_tests
    past-9 = verdict-past (take 6 (place_tests c)) rest z

    pub overlap-stops : overlaps (runs_of c.volume.trees.freespace) ≡ true → 10 ≡ verdict (place_tests c)
    overlap-stops e = sym (past-9 ∙ verdict-stops 10 apart _ (omega arith) (ap not e))

    module _ (a : overlaps (runs_of c.volume.trees.freespace) ≡ false) where
      past-10 : verdict (place_tests c) ≡ verdict (test 11 enough ∷ (walk_of c).refusal ∷ [])
      past-10 = past-9 ∙ verdict-next 10 apart _ (ap not a)

      pub shortage-stops : enough ≡ false → 11 ≡ verdict (place_tests c)
      shortage-stops e = sym (past-10 ∙ verdict-stops 11 enough _ (omega arith) e)

      pub walk-decides : enough ≡ true → (walk_of c).refusal ≡ verdict (place_tests c)
      walk-decides e = sym (past-10 ∙ verdict-next 11 enough _ e ∙ verdict-one (walk_of c).refusal)

  -- what all of them tell where none is met
  pub record TestsPassed (h : Head) : Type 0 where
    pub requests : Asked c h
    pub runs : overlaps (runs_of c.volume.trees.freespace) ≡ false
    pub free : buckets_needed (slots_of c) ≤ free_count (is_in c.volume.reserved) (runs_of c.volume.trees.freespace)

  pub accepted : (h : Head) → head_in h ≡ c.volume.head → verdict (place_tests c) ≡ 0 → TestsPassed h
  unfolding place_tests wanted
  accepted h e z =
      let first = verdict-front (take 6 (place_tests c)) rest z in
      let t10 = verdict-ok _ _ (sym (verdict-past (take 6 (place_tests c)) rest first) ∙ z) in
      let t11 = verdict-ok _ _ t10.1 in
      record {
        requests = asked c h e first;
        runs = not-true _ (test-ok 10 apart (omega arith) t10.0);
        free = omega (arith, leb-true (wanted (buckets_needed (slots_of c)) c.volume.head.reserve) (free_count (is_in c.volume.reserved) (runs_of c.volume.trees.freespace)) (test-ok 11 enough (omega arith) t11.0));
      }
