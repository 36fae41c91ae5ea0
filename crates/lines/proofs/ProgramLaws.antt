-- An answer in a buffer, by the outcome of the call that made it, and the text that holds all that is printed.
use Prim.Native.Nat.{ℕ, ◌+◌, ◌≤◌, ◌<◌}
use mathlib.Core.Path.{◌≡◌, refl, sym, ap, ◌∙◌}
use mathlib.Core.List.{List, ◌++◌}
use native.Mathlib.Omega.{arith}
use lib.ListN.{length, take, drop, length-append}
use lib.Seq.{take_at}
use borrow.Author.Tests.{eq-eqb, ne_eqb, le-leb, lt-leb}
use Rattle.wire.specs.declared.output.Output.{Output}
use Rattle.wire.specs.Output.{with_bytes}
use Rattle.reader.proofs.AnswerLaws.{counted, whole-run}
use Rattle.reader.specs.Heads.{call_byte}
use Rattle.calls.specs.Answers.{Answer, Outcome, made, outcome, output_after, place, release, discard}
use Rattle.lines.specs.Lines.{change_lines, refused_line}
use Rattle.std.specs.Prelude.{Result, Ok, Err}
use Rattle.std.specs.Result.{result_unwrap_or}
use Rattle.reader.specs.CallKinds.{call_number, CallNamed}
use Rattle.reader.specs.declared.call_kinds.Call.{Call}
use Rattle.reader.specs.declared.call_kinds.UnknownCall.{UnknownCall}
use Rattle.reader.specs.declared.call_kinds.Call.TheVariants.{Place, Release, Discard}
use Rattle.reader.specs.Refusals.{made_by}
use Rattle.reader.specs.declared.refusal.Refusal.{Refusal}
use Rattle.lines.specs.Program.{answer_by_byte, AnswerIn, AnsweredIn, answer_lines, bucket_lines, Shown}

-- a call's outcome leaves its answer at the start of the output
pub answer-in : {a b : Answer} {number written : ℕ} {after : List ℕ} (before : List ℕ) → a ≡ b → made number written after ≡ outcome a before → AnswerIn b number after written
unfolding outcome output_after
answer-in {a = a} {written = written} {after = after} before e h =
    let w = ap (λ (o : Outcome). o.count) h in
    let o = ap (λ (o : Outcome). o.output) h in
    let l : length after ≡ length a.written + length (drop (length a.written) before) = ap length o ∙ length-append a.written _ in
    record {
      numbered = ap (λ (o : Outcome). o.number) h ∙ ap (λ (a : Answer). a.number) e;
      within = omega (arith, w, l);
      bytes = ap (take written) o ∙ ap (λ (n : ℕ). take n (a.written ++ drop (length a.written) before)) w ∙ take_at a.written _ (length a.written) refl
          ∙ ap (λ (a : Answer). a.written) e;
    }

-- the same of what a call answers
pub answered-in : {a b : Answer} (r : Result ℕ Refusal) (before after : List ℕ) → a ≡ b → made_by r after ≡ outcome a before → AnsweredIn b r after
answered-in (Ok n) before after e h = answer-in before e h
answered-in (Err x) before after e h = answer-in before e h

-- the call that a number names, or discard where it names none
pub named_call : {n : ℕ} {x : Call} (r : Result Call UnknownCall) → CallNamed n r → result_unwrap_or r Discard ≡ x → (call_number x ≡ 3 → ⊥) → n ≡ call_number x
named_call (Ok c) h e d = h ∙ ap call_number e
named_call (Err u) h e d = absurd (d (sym (ap call_number e)))

pub else_discard : {n : ℕ} (r : Result Call UnknownCall) → CallNamed n r → result_unwrap_or r Discard ≡ Discard → (n ≡ 1 → ⊥) × (n ≡ 2 → ⊥)
else_discard (Ok c) h e = (λ p. omega (arith, h, p, ap call_number e), λ p. omega (arith, h, p, ap call_number e))
else_discard (Err u) h e = (λ p. h.1 Place p, λ p. h.1 Release p)

-- the call that a list's call byte names
module _ (s : List ℕ) where
  pub calls-place : call_byte s ≡ 1 → {room : ℕ} → room ≡ 65536 → place s room ≡ answer_by_byte s
  unfolding answer_by_byte
  calls-place h e = ap (place s) e ∙ sym (rw (eq-eqb (call_byte s) 1 h) refl)

  pub calls-release : (call_byte s ≡ 1 → ⊥) → call_byte s ≡ 2 → {scratch room : ℕ} → scratch ≡ 65536 → room ≡ 65536 → release s scratch room ≡ answer_by_byte s
  unfolding answer_by_byte
  calls-release n h {room = room} e f =
      ap (λ (k : ℕ). release s k room) e ∙ ap (release s 65536) f ∙ sym (rw (ne_eqb (call_byte s) 1 n, eq-eqb (call_byte s) 2 h) refl)

  pub calls-discard : (call_byte s ≡ 1 → ⊥) → (call_byte s ≡ 2 → ⊥) → {room : ℕ} → room ≡ 65536 → discard s room ≡ answer_by_byte s
  unfolding answer_by_byte
  calls-discard n m e = ap (discard s) e ∙ sym (rw (ne_eqb (call_byte s) 1 n, ne_eqb (call_byte s) 2 m) refl)

-- the lines of an answer
module _ (a : Answer) where
  pub lines-refused : {number : ℕ} → number ≡ a.number → (number ≡ 0 → ⊥) → refused_line number ≡ answer_lines a
  unfolding answer_lines
  lines-refused e n = ap refused_line e ∙ sym (rw (ne_eqb a.number 0 (λ z. n (e ∙ z))) refl)

  pub lines-accepted : a.number ≡ 0 → {bytes : List ℕ} → bytes ≡ a.written → change_lines bytes ≡ answer_lines a
  unfolding answer_lines
  lines-accepted z e = ap change_lines e ∙ sym (rw (eq-eqb a.number 0 z) refl)

-- what is printed, by the length of what is read
pub prints-refused : (s : List ℕ) → 32768 < length s → refused_line 3 ≡ bucket_lines s
unfolding bucket_lines
prints-refused s h = sym (rw (lt-leb (length s) 32768 h) refl)

pub prints-answer : (s : List ℕ) → length s ≤ 32768 → answer_lines (answer_by_byte s) ≡ bucket_lines s
unfolding bucket_lines
prints-answer s h = sym (rw (le-leb (length s) 32768 h) refl)

-- the text holds what was put into an output from its front
pub shows :
    (o : Output) (bs : List ℕ) → o.at ≡ 0 → length o.bytes.now ≡ 262144 → length bs ≤ 262144
    → Shown bs o.bytes.now (with_bytes o bs).bytes.now (with_bytes o bs).at
shows o bs f n l =
    let e : (with_bytes o bs).at ≡ length bs = omega (arith, counted o bs f) in
    let t : (with_bytes o bs).bytes.now ≡ bs ++ drop (length bs) o.bytes.now = whole-run o bs f (omega arith) (omega arith) in
    record {
      within = omega (arith, ap length t ∙ length-append bs (drop (length bs) o.bytes.now));
      counted = e;
      text = t ∙ ap (λ (k : ℕ). bs ++ drop k o.bytes.now) (sym e);
    }
