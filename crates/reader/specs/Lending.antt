-- What is answered to a list that was read.
use Rattle.std.specs.Prelude.{ℕ, ◌<◌, ◌≡◌, List, Option, Result, Ok, Err}
use Rattle.std.specs.Borrow.{Bor, MutBor}
use Rattle.std.specs.Fn.{Once}
use Rattle.reader.specs.Refusals.{number_of, number_in}
use Rattle.reader.specs.Readings.{refusal_of, ReadAs}
use Rattle.reader.specs.declared.read_list.ReadList.{ReadList}
use Rattle.reader.specs.declared.refusal.Refusal.{Refusal}

-- what answers a list that was read, with a scratch and an output that are lent
abbrev pub Answering : Type 0 → Type 1
Answering F = Once F (Bor ReadList × (MutBor (List ℕ) × (MutBor (List ℕ) × Unit {0}))) (Result ℕ Refusal × (MutBor (List ℕ) × (MutBor (List ℕ) × Unit {0})))

-- it can be called at a list that was read as it was asked for, with this scratch and this output
abbrev pub TakesRead : {F : Type 0} → Answering F → F → Option ℕ → List ℕ → List ℕ → List ℕ → Type 0
TakesRead g f asked s scratch out =
    (r : Bor ReadList) (t o : MutBor (List ℕ)) → ReadAs asked r.now → r.now.list.now ≡ s → t.now ≡ scratch → o.now ≡ out → g.pre f (r, (t, (o, tt)))

-- it is called at the list, read as it was asked for, and may give the result and leave this scratch and this output
pub record AnswersRead {F : Type 0} (g : Answering F) (f : F) (asked : Option ℕ) (s scratch out : List ℕ) (result : Result ℕ Refusal) (scratch' out' : List ℕ) : Type 0 where
  pub list : Bor ReadList
  pub is_of : list.now.list.now ≡ s
  pub is_read : ReadAs asked list.now
  pub scratch-shown : MutBor (List ℕ)
  pub scratch-shows : scratch-shown.now ≡ scratch
  pub out-shown : MutBor (List ℕ)
  pub out-shows : out-shown.now ≡ out
  pub scratch-left : MutBor (List ℕ)
  pub scratch-leaves : scratch-left.now ≡ scratch'
  pub out-left : MutBor (List ℕ)
  pub out-leaves : out-left.now ≡ out'
  pub met : g.post f (list, (scratch-shown, (out-shown, tt))) (result, (scratch-left, (out-left, tt)))

-- a refused list leaves its number, and the scratch and the output as they were
abbrev pub RefusedAs : Option ℕ → List ℕ → List ℕ → List ℕ → Result ℕ Refusal → List ℕ → List ℕ → Type 0
RefusedAs asked s scratch out result scratch' out' =
    0 < refusal_of asked s → (number_in result ≡ refusal_of asked s) × (scratch' ≡ scratch) × (out' ≡ out)

-- any other is answered
abbrev pub AnsweredAs : {F : Type 0} → Answering F → F → Option ℕ → List ℕ → List ℕ → List ℕ → Result ℕ Refusal → List ℕ → List ℕ → Type 0
AnsweredAs g f asked s scratch out result scratch' out' = 0 ≡ refusal_of asked s → AnswersRead g f asked s scratch out result scratch' out'

-- the refusal of a list, with the scratch and the output as they were, or what is answered to it
abbrev pub AnsweredApart : {F : Type 0} → Answering F → F → Option ℕ → List ℕ → List ℕ → List ℕ → Result (Result ℕ Refusal) Refusal → List ℕ → List ℕ → Type 0
AnsweredApart g f asked s scratch out (Err r) scratch' out' =
    ((number_of r ≡ refusal_of asked s) × (0 < refusal_of asked s)) × ((scratch' ≡ scratch) × (out' ≡ out))
AnsweredApart g f asked s scratch out (Ok a) scratch' out' = (0 ≡ refusal_of asked s) × AnswersRead g f asked s scratch out a scratch' out'
