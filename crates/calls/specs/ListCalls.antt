-- The calls that read a list, each with what it takes besides the list and the length of its output.
use Rattle.std.specs.Prelude.{ℕ, List}
use Rattle.calls.specs.Answers.{Answer, place, release, discard, apply, sort}

pub data ListCall : Type 0 where
  placing : ListCall
  releasing : (scratch : ℕ) → ListCall
  discarding : ListCall
  applying : (change : List ℕ) → ListCall
  sorting : ListCall

-- the answer to a list, in an output of so many bytes
abbrev pub answer_of : ListCall → List ℕ → ℕ → Answer
answer_of placing s room = place s room
answer_of (releasing scratch) s room = release s scratch room
answer_of discarding s room = discard s room
answer_of (applying change) s room = apply s change room
answer_of sorting s room = sort s room
