-- FORMAT.md, "The program bucketlines": a call list of at most 32,768 bytes, a longer one being refused 3; an output of 65,536 bytes; a line for each field of
-- the change list, or `refused` and the number.
use Rattle.std.specs.Prelude.{ℕ, ◌≤◌, ◌≡◌, List, ◌++◌, cond, length, take, drop, leb, eqb, Result, Ok, Err}
use Rattle.reader.specs.Heads.{call_byte}
use Rattle.reader.specs.Refusals.{number_of}
use Rattle.reader.specs.declared.refusal.Refusal.{Refusal}
use Rattle.calls.specs.Answers.{Answer, place, release, discard}
use Rattle.lines.specs.Lines.{change_lines, refused_line}

-- the call that a list's call byte names; a list that names none is refused by each
unfoldable pub answer_by_byte : List ℕ → Answer
answer_by_byte s =
    cond (eqb (call_byte s) 1) (place s 65536) (cond (eqb (call_byte s) 2) (release s 65536 65536) (discard s 65536))

-- an answer in a buffer: its number, its length and its bytes at the start
pub record AnswerIn (a : Answer) (number : ℕ) (buffer : List ℕ) (written : ℕ) : Type 0 where
  pub numbered : number ≡ a.number
  pub within : written ≤ length buffer
  pub bytes : take written buffer ≡ a.written

-- the same of what a call answers
abbrev pub AnsweredIn : Answer → Result ℕ Refusal → List ℕ → Type 0
AnsweredIn a (Ok written) buffer = AnswerIn a 0 buffer written
AnsweredIn a (Err r) buffer = AnswerIn a (number_of r) buffer 0

unfoldable pub answer_lines : Answer → List ℕ
answer_lines a = cond (eqb a.number 0) (change_lines a.written) (refused_line a.number)

-- what is printed for what is read
unfoldable pub bucket_lines : List ℕ → List ℕ
bucket_lines s = cond (leb (length s) 32768) (answer_lines (answer_by_byte s)) (refused_line 3)

-- the first n bytes of a text are these, and the rest is as it was
pub record Shown (bytes before after : List ℕ) (n : ℕ) : Type 0 where
  pub within : n ≤ length after
  pub counted : n ≡ length bytes
  pub text : after ≡ bytes ++ drop n before
