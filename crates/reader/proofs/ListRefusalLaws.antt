-- The number by which a call list is refused, by the tests that are made of it.
use Prim.Native.Nat.{ℕ, ◌<◌}
use mathlib.Core.Path.{◌≡◌, refl, sym, ◌∙◌}
use mathlib.Core.List.{List, [], ◌∷◌}
use mathlib.Core.Bool.{Bool, true, false, cond}
use native.Mathlib.Omega.{arith}
use Rattle.calls.specs.CallList.{none_twice}
use Rattle.calls.specs.Limits.{list_within}
use Rattle.calls.specs.Answers.{read_call, read_volume}
use Rattle.calls.specs.Refusals.{test, verdict}
use Rattle.reader.specs.Readings.{laid_as, list_refusal}

by_tests : (a b c : Bool) → verdict (test 2 a ∷ test 22 b ∷ test 3 c ∷ []) ≡ cond a (cond b (cond c 0 3) 22) 2
unfolding verdict
by_tests false b c = refl
by_tests true false c = refl
by_tests true true false = refl
by_tests true true true = refl

module _ (s : List ℕ) (call : ℕ) (any : Bool) where
  pub refusal_is :
      list_refusal call any s ≡ cond (laid_as call any s) (cond (none_twice (read_volume s)) (cond (list_within (read_call s)) 0 3) 22) 2
  unfolding list_refusal
  refusal_is = by_tests (laid_as call any s) (none_twice (read_volume s)) (list_within (read_call s))

  -- a refusal with a number that is not 0
  abbrev pub RefusedBy : ℕ → Type 0
  RefusedBy n = (n ≡ list_refusal call any s) × (0 < list_refusal call any s)

  refused : (n : ℕ) → list_refusal call any s ≡ n → 0 < n → RefusedBy n
  refused n e h = (sym e, omega arith)

  pub broken : laid_as call any s ≡ false → RefusedBy 2
  broken h = refused 2 (refusal_is ∙ simp h) (omega arith)

  module _ (l : laid_as call any s ≡ true) where
    pub twice-refused : none_twice (read_volume s) ≡ false → RefusedBy 22
    twice-refused h = refused 22 (refusal_is ∙ simp (l, h)) (omega arith)

    -- a limit that is passed: 22 comes before it
    pub past-refused : list_within (read_call s) ≡ false → RefusedBy (cond (none_twice (read_volume s)) 3 22)
    past-refused h = go (none_twice (read_volume s)) refl
      where
        go : (b : Bool) → none_twice (read_volume s) ≡ b → RefusedBy (cond b 3 22)
        go true e = refused 3 (refusal_is ∙ simp (l, e, h)) (omega arith)
        go false e = twice-refused e

    pub accepted : none_twice (read_volume s) ≡ true → list_within (read_call s) ≡ true → 0 ≡ list_refusal call any s
    accepted h k = sym (refusal_is ∙ simp (l, h, k))
