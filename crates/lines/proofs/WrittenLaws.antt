-- What an accepted answer writes has at most 65,536 bytes; so the text has room for all that is printed.
use Prim.Native.Nat.{ℕ, ◌≤◌}
use mathlib.Core.Path.{◌≡◌, refl}
use mathlib.Core.Bool.{Bool, true, false, cond}
use mathlib.Core.List.{List}
use native.Mathlib.Omega.{arith}
use lib.Dec.{leb, eqb}
use lib.ListN.{length}
use borrow.Author.Tests.{eqb-true}
use Rattle.wire.specs.Bytes.{Bytes}
use Rattle.calls.specs.ChangeList.{Batch}
use Rattle.reader.specs.Heads.{call_byte}
use Rattle.calls.specs.Answers.{place, release, discard}
use Rattle.calls.proofs.answers.AnswersReadBack.{Written, place-written, release-written, discard-written}
use Rattle.lines.specs.Lines.{change_lines, refused_line}
use Rattle.lines.specs.Program.{answer_by_byte, answer_lines, bucket_lines}
use Rattle.lines.proofs.LengthLaws.{lines-most, refused-most}

-- the answer to the call that a list names
pub answer-written : (s : List ℕ) → Bytes s → (answer_by_byte s).number ≡ 0 → (bs : List Batch) × Written (answer_by_byte s) bs 65536
unfolding answer_by_byte
answer-written s r h = go (eqb (call_byte s) 1) (eqb (call_byte s) 2) h
  where
    go : (p q : Bool) → (cond p (place s 65536) (cond q (release s 65536 65536) (discard s 65536))).number ≡ 0
        → (bs : List Batch) × Written (cond p (place s 65536) (cond q (release s 65536 65536) (discard s 65536))) bs 65536
    go true q h = (_, place-written s r 65536 h)
    go false true h = (_, release-written s r 65536 65536 h)
    go false false h = (_, discard-written s r 65536 h)

pub answer-most : (s : List ℕ) → Bytes s → length (answer_lines (answer_by_byte s)) ≤ 262144
unfolding answer_lines
answer-most s r = go (eqb (answer_by_byte s).number 0) refl
  where
    go : (t : Bool) → eqb (answer_by_byte s).number 0 ≡ t
        → length (cond t (change_lines (answer_by_byte s).written) (refused_line (answer_by_byte s).number)) ≤ 262144
    go true e =
        let w = (answer-written s r (eqb-true (answer_by_byte s).number 0 e)).1 in
        omega (arith, w.fits, lines-most (answer_by_byte s).written w.bytes w.laid_out)
    go false e = omega (arith, refused-most (answer_by_byte s).number)

-- all that is printed
pub printed-most : (s : List ℕ) → Bytes s → length (bucket_lines s) ≤ 262144
unfolding bucket_lines
printed-most s r = go (leb (length s) 32768)
  where
    go : (t : Bool) → length (cond t (answer_lines (answer_by_byte s)) (refused_line 3)) ≤ 262144
    go true = answer-most s r
    go false = omega (arith, refused-most 3)
