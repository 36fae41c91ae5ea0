-- From the tests of a placement to its answer.
use mathlib.Core.Path.{◌≡◌, refl, ap, sym, ◌∙◌}
use mathlib.Core.Bool.{Bool, true, false, cond}
use mathlib.Core.List.{List, [], ◌∷◌}
use Prim.Native.Nat.{ℕ, ◌<◌}
use native.Mathlib.Omega.{arith}
use lib.Dec.{eqb}
use borrow.Author.Tests.{eqb-true, eqb-false}
use Rattle.calls.specs.Answers.{answer}
use Rattle.calls.specs.Refusals.{verdict}
use Rattle.calls.proofs.answers.OutcomeLaws.{answer-next, answer-stops}
use Rattle.calls.proofs.answers.RefusalLaws.{verdict-ok}

-- the answer where the tests hold, and where one fails
pub answer-past : (ns bytes : List ℕ) (room : ℕ) → 0 ≡ verdict ns → answer ns bytes room ≡ answer [] bytes room
answer-past [] bytes room z = refl
answer-past (n ∷ ns) bytes room z =
    let v = verdict-ok n ns (sym z) in
    answer-next n ns bytes room v.0 ∙ answer-past ns bytes room (sym v.1)

pub answer-refused : (ns bytes : List ℕ) (room : ℕ) {r : ℕ} → r ≡ verdict ns → 0 < r → answer ns bytes room ≡ record { number = r; written = [] }
unfolding verdict
answer-refused [] bytes room e l = absurd (omega arith)
answer-refused (n ∷ ns) bytes room {r} e l = go (eqb n 0) refl e (λ f. answer-refused ns bytes room f l)
  where
    go : (t : Bool) → eqb n 0 ≡ t → r ≡ cond t (verdict ns) n → (r ≡ verdict ns → answer ns bytes room ≡ record { number = r; written = [] })
        → answer (n ∷ ns) bytes room ≡ record { number = r; written = [] }
    go true d f ih = answer-next n ns bytes room (eqb-true n 0 d) ∙ ih f
    go false d f ih = answer-stops n ns bytes room (eqb-false n 0 d) ∙ ap (λ (m : ℕ). record { number = m; written = [] }) (sym f)
