-- What a call answers, by the refusal of the reader or by what is answered to the list that it read.
use Prim.Native.Nat.{ℕ, zero, suc, ◌<◌}
use native.Mathlib.Omega.{arith}
use mathlib.Core.Path.{◌≡◌, refl, ◌∙◌, ap}
use mathlib.Core.List.{List, []}
use lib.ListN.{length}
use Rattle.std.proofs.Common.{Option, Result, Ok, Err}
use Rattle.calls.specs.Answers.{Answer, made, outcome}
use Rattle.calls.proofs.answers.OutcomeLaws.{refused}
use Rattle.reader.specs.Readings.{refusal_of}
use Rattle.reader.specs.Refusals.{number_in, made_by}
use Rattle.reader.specs.declared.refusal.Refusal.{Refusal}

-- the reader refuses a list, or it is read
pub refused-or-read : {P : Type 0} (refusal : ℕ) → (0 < refusal → P) → (0 ≡ refusal → P) → P
refused-or-read zero stops goes = goes refl
refused-or-read (suc n) stops goes = stops (omega arith)

-- a refusal's number
made-refused : (result : Result ℕ Refusal) (n : ℕ) (out : List ℕ) → 0 < n → number_in result ≡ n → made_by result out ≡ made n 0 out
made-refused (Ok count) n out l e = absurd (omega arith)
made-refused (Err r) n out l e = ap (λ (m : ℕ). made m 0 out) e

-- a definition's answer on what was read and lent is that on the list and the output
pub moved :
    (answer : List ℕ → ℕ → Answer) (result : Result ℕ Refusal) {s t shown left out out' : List ℕ} → t ≡ s → shown ≡ out → left ≡ out'
    → made_by result left ≡ outcome (answer t (length shown)) shown → made_by result out' ≡ outcome (answer s (length out)) out
moved answer result p q r m = rw (← p, ← q, ← r) m

-- a list that the reader refuses, or that was read
pub list-answered :
    (answer : List ℕ → ℕ → Answer) (asked : Option ℕ) (result : Result ℕ Refusal) {s scratch scratch' out out' : List ℕ}
    → (0 < refusal_of asked s → (number_in result ≡ refusal_of asked s) × (scratch' ≡ scratch) × (out' ≡ out))
    → (0 < refusal_of asked s → answer s (length out) ≡ record { number = refusal_of asked s; written = [] })
    → (0 ≡ refusal_of asked s → made_by result out' ≡ outcome (answer s (length out)) out) → made_by result out' ≡ outcome (answer s (length out)) out
list-answered answer asked result {s} {out = out} {out' = out'} stops is goes =
    let n = refusal_of asked s in
    refused-or-read n
    (λ l. let r = stops l in made-refused result n out' l r.0 ∙ ap (made n 0) r.2 ∙ refused n out (is l) refl)
    goes
