-- The outcome of a call that is refused, and of one that is accepted.
use mathlib.Core.Path.{◌≡◌, sym, ap, ◌∙◌}
use mathlib.Core.List.{List, [], ◌∷◌, ◌++◌}
use Prim.Native.Nat.{ℕ, ◌≤◌, ◌<◌}
use lib.ListN.{length, drop}
use borrow.Author.Tests.{le-leb, lt-leb, eq-eqb, ne_eqb}
use Rattle.calls.specs.Refusals.{verdict}
use Rattle.calls.specs.Answers.{Answer, answer, output_after, made, outcome, GenerationsAnswer, looked_up, generations_outcome}

-- where no test is left but 21
pub answer-short : (bytes : List ℕ) (room : ℕ) → room < length bytes → answer [] bytes room ≡ record { number = 21; written = [] }
unfolding answer verdict
answer-short bytes room h = rw (lt-leb (length bytes) room h)

pub answer-fits : (bytes : List ℕ) (room : ℕ) → length bytes ≤ room → answer [] bytes room ≡ record { number = 0; written = bytes }
unfolding answer verdict
answer-fits bytes room h = rw (le-leb (length bytes) room h)

-- a test that passes, and one that does not
pub answer-next : (n : ℕ) (ns bytes : List ℕ) (room : ℕ) → n ≡ 0 → answer (n ∷ ns) bytes room ≡ answer ns bytes room
unfolding answer verdict
answer-next n ns bytes room e = rw (eq-eqb n 0 e)

pub answer-stops : (n : ℕ) (ns bytes : List ℕ) (room : ℕ) → (n ≡ 0 → ⊥) → answer (n ∷ ns) bytes room ≡ record { number = n; written = [] }
unfolding answer verdict
answer-stops n ns bytes room e = rw (ne_eqb n 0 e, ne_eqb n 0 e)

pub refused : {a : Answer} (number : ℕ) (out : List ℕ) {written : ℕ} → a ≡ record { number = number; written = [] } → written ≡ 0
    → made number written out ≡ outcome a out
unfolding outcome output_after
refused number out e w = ap (λ (n : ℕ). made number n out) w ∙ sym (ap (λ (a : Answer). outcome a out) e)

pub accepted : {a : Answer} (bytes out : List ℕ) {after : List ℕ} {written : ℕ} → a ≡ record { number = 0; written = bytes } → written ≡ length bytes
    → after ≡ bytes ++ drop (length bytes) out → made 0 written after ≡ outcome a out
unfolding outcome output_after
accepted bytes out {after} e w o =
    ap (λ (n : ℕ). made 0 n after) w ∙ ap (λ (l : List ℕ). made 0 (length bytes) l) o ∙ sym (ap (λ (a : Answer). outcome a out) e)

-- of a lookup of generations
pub looked-refused : {a : GenerationsAnswer} (number : ℕ) (out : List ℕ) {visited : ℕ} → a ≡ record { number = number; written = []; visited = 0 } → visited ≡ 0
    → looked_up number visited out ≡ generations_outcome a out
unfolding generations_outcome output_after
looked-refused number out e v =
    ap (λ (n : ℕ). looked_up number n out) v ∙ sym (ap (λ (a : GenerationsAnswer). generations_outcome a out) e)

pub looked-accepted : {a : GenerationsAnswer} (bytes out : List ℕ) {after : List ℕ} {visited : ℕ} → a ≡ record { number = 0; written = bytes; visited = visited }
    → after ≡ bytes ++ drop (length bytes) out
    → looked_up 0 visited after ≡ generations_outcome a out
unfolding generations_outcome output_after
looked-accepted bytes out {visited = visited} e o =
    ap (λ (l : List ℕ). looked_up 0 visited l) o ∙ sym (ap (λ (a : GenerationsAnswer). generations_outcome a out) e)
