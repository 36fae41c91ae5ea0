-- Refusals 2, 22 and 3 of the volume and 2 of the change list, in their order.
use mathlib.Core.Path.{◌≡◌, refl, ap, sym, ◌∙◌}
use mathlib.Core.Bool.{Bool, true, false, ◌&&◌, cond, and-true, and-false}
use mathlib.Core.List.{List, [], ◌∷◌, ◌++◌, append_assoc}
use Prim.Native.Nat.{ℕ, ◌<◌}
use native.Mathlib.Omega.{arith}
use lib.Dec.{leb}
use lib.ListN.{length}
use borrow.Author.Tests.{ne_eqb}
use Rattle.calls.specs.CallList.{volume_laid_out, none_twice, volume_bytes}
use Rattle.calls.specs.Limits.{volume_within}
use Rattle.calls.specs.ChangeList.{change_laid_out}
use Rattle.calls.specs.Refusals.{test, verdict}
use Rattle.calls.specs.Answers.{answered, answer, read_volume, next_volume, apply, made, outcome}
use Rattle.calls.proofs.answers.AnswerLaws.{apply-is}
use Rattle.calls.proofs.answers.OutcomeLaws.{answer-stops, refused}
use Rattle.calls.proofs.answers.RefusalLaws.{verdict-first}
use Rattle.reader.specs.Readings.{volume_refusal}

-- the tests of a volume behind that of its layout
abbrev later_tests : List ℕ → List ℕ
later_tests vol = test 22 (none_twice (read_volume vol)) ∷ test 3 (volume_within (read_volume vol)) ∷ []

-- the refusal of a volume is the first that fails
refusal_is : (vol : List ℕ) → volume_refusal vol ≡ verdict (test 2 (volume_laid_out vol) ∷ later_tests vol)
unfolding volume_refusal
refusal_is vol = refl

-- the answers

-- one of the first tests fails
answer-first :
    (ns ms bytes : List ℕ) (room : ℕ) → (verdict ns ≡ 0 → ⊥) → answer (ns ++ ms) bytes room ≡ record { number = verdict ns; written = [] }
unfolding answer
answer-first ns ms bytes room p =
    let last : List ℕ = test 21 (leb (length bytes) room) ∷ [] in
    ap (λ (n : ℕ). answered n bytes) (ap verdict (append_assoc ns ms last) ∙ verdict-first ns (ms ++ last) p) ∙ rw (ne_eqb (verdict ns) 0 p)

module _ (vol list xs : List ℕ) where
  abbrev room : ℕ
  room = length xs

  abbrev bytes : List ℕ
  bytes = volume_bytes (next_volume vol list)

  abbrev next : List ℕ
  next = test 3 (volume_within (next_volume vol list)) ∷ []

  -- where the layouts of both lists tell this
  answer-by : (t : Bool) → (volume_laid_out vol && change_laid_out list) ≡ t → apply vol list room ≡ answer (test 2 t ∷ later_tests vol ++ next) bytes room
  answer-by t e = apply-is vol list room ∙ ap (λ (u : Bool). answer (test 2 u ∷ later_tests vol ++ next) bytes room) e

  -- either layout is broken
  gives-2 : (volume_laid_out vol && change_laid_out list) ≡ false → apply vol list room ≡ record { number = 2; written = [] }
  gives-2 e = answer-by false e ∙ answer-stops 2 (later_tests vol ++ next) bytes room (λ z. omega arith)

  change-stops : change_laid_out list ≡ false → apply vol list room ≡ record { number = 2; written = [] }
  change-stops e = gives-2 (ap (λ (t : Bool). volume_laid_out vol && t) e ∙ and-false (volume_laid_out vol))

  pub change-broken : change_laid_out list ≡ false → made 2 0 xs ≡ outcome (apply vol list room) xs
  change-broken e = refused 2 xs (change-stops e) refl

  -- the volume's own refusal, where the change list keeps its layout
  pub volume-refused : change_laid_out list ≡ true → 0 < volume_refusal vol → apply vol list room ≡ record { number = volume_refusal vol; written = [] }
  volume-refused c f =
      answer-by (volume_laid_out vol) (ap (λ (t : Bool). volume_laid_out vol && t) c ∙ and-true (volume_laid_out vol))
      ∙ answer-first (test 2 (volume_laid_out vol) ∷ later_tests vol) next bytes room (λ z. omega (arith, refusal_is vol ∙ z))
      ∙ (λ i. record { number = sym (refusal_is vol) i; written = [] })

  -- and 2 where it does not
  stops-by : (t : Bool) → change_laid_out list ≡ t → 0 < volume_refusal vol → apply vol list room ≡ record { number = cond t (volume_refusal vol) 2; written = [] }
  stops-by true c f = volume-refused c f
  stops-by false c f = change-stops c

  pub first-refused : 0 < volume_refusal vol → (n : ℕ) → n ≡ cond (change_laid_out list) (volume_refusal vol) 2 → made n 0 xs ≡ outcome (apply vol list room) xs
  first-refused f n e = refused n xs (rw e (stops-by (change_laid_out list) refl f)) refl
