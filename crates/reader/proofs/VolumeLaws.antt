-- A volume is a list of any call, without requests.
use Prim.Native.Nat.{ℕ, ◌≤◌}
use mathlib.Core.Path.{◌≡◌, refl, ◌∙◌, ap}
use mathlib.Core.List.{List, [], ◌∷◌}
use mathlib.Core.Bool.{Bool, true, false, and-true}
use native.Mathlib.Omega.{arith}
use Rattle.wire.specs.Fields.{fields, whole}
use Rattle.wire.specs.Bytes.{All}
use Rattle.calls.specs.Lists.{all_of}
use Rattle.calls.specs.CallList.{bodies, call_list_of, shaped, volume_shapes, request_shapes, laid_out, call_laid_out, volume_laid_out, none_twice}
use Rattle.calls.specs.Answers.{read_call, read_volume}
use Rattle.calls.specs.Limits.{volume_within, list_within}
use Rattle.calls.specs.Refusals.{test, verdict}
use Rattle.calls.proofs.lists.AllLaws.{test-all, all-imp}
use Rattle.reader.specs.Readings.{laid_as, call_refusal, volume_refusal, list_refusal}
use Rattle.reader.proofs.BoolLaws.{and_left, and_right}
use Rattle.reader.proofs.ShapeLaws.{shaped-below}
use Rattle.reader.proofs.ListLaws.{bodies-none}

pub call-refusal : (call : ℕ) (s : List ℕ) → list_refusal call false s ≡ call_refusal call s
unfolding list_refusal call_refusal call_laid_out laid_as
call-refusal call s = refl

-- no tag of a volume is above 64
tags-below : (s : List ℕ) → laid_out volume_shapes s ≡ true → All (λ f. f.tag ≤ 64) (fields s)
unfolding laid_out volume_shapes all_of
tags-below s h =
    all-imp (λ f k. shaped-below 64 volume_shapes f refl k)
    (test-all (shaped volume_shapes) (fields s) (and_left _ _ (and_right (whole s) _ h)))

no-requests : (s : List ℕ) → laid_out volume_shapes s ≡ true → list_within (call_list_of (fields s)) ≡ volume_within (call_list_of (fields s)).volume
unfolding list_within call_list_of
no-requests s h =
    let a : bodies 65 (fields s) ≡ [] = bodies-none 65 (all-imp (λ f k e. omega arith) (tags-below s h)) in
    let b : bodies 66 (fields s) ≡ [] = bodies-none 66 (all-imp (λ f k e. omega arith) (tags-below s h)) in
    rw (a, b) (and-true _)

pub volume-refusal : (s : List ℕ) → list_refusal 0 true s ≡ volume_refusal s
unfolding list_refusal volume_refusal volume_laid_out laid_as volume_shapes request_shapes verdict
volume-refusal s =
    ap (λ (a : Bool). verdict (test 2 a ∷ test 22 (none_twice (read_volume s)) ∷ test 3 (list_within (read_call s)) ∷ [])) (and-true (laid_out volume_shapes s))
    ∙ go (laid_out volume_shapes s) refl
  where
    go :
        (a : Bool) → laid_out volume_shapes s ≡ a
        → verdict (test 2 a ∷ test 22 (none_twice (read_volume s)) ∷ test 3 (list_within (read_call s)) ∷ [])
        ≡ verdict (test 2 a ∷ test 22 (none_twice (read_volume s)) ∷ test 3 (volume_within (read_volume s)) ∷ [])
    go true h = ap (λ (b : Bool). verdict (test 2 true ∷ test 22 (none_twice (read_volume s)) ∷ test 3 b ∷ [])) (no-requests s h)
    go false h = refl
