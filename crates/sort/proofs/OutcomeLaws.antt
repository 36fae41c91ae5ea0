-- The answer to a sort: the tests of the reader, then 21, then the sorted form.
use mathlib.Core.Path.{◌≡◌, refl, ap, sym, subst, ◌∙◌}
use mathlib.Core.Bool.{Bool, and-true}
use Rattle.std.proofs.Common.{Some}
use mathlib.Core.List.{List, [], ◌∷◌, ◌++◌}
use Prim.Native.Nat.{ℕ, ◌≤◌, ◌<◌, min}
use native.Mathlib.Omega.{arith}
use lib.ListN.{length}
use borrow.Author.Tests.{eq-eqb}
use Rattle.wire.specs.Bytes.{All, Bytes}
use Rattle.wire.specs.Encode.{encode_field}
use Rattle.calls.specs.CallList.{head_body, volume_shapes, request_shapes, laid_out, call_laid_out, list_laid_out, none_twice}
use Rattle.calls.specs.Limits.{list_within}
use Rattle.calls.specs.Refusals.{test}
use Rattle.wire.specs.Output.{cap}
use Rattle.calls.specs.Answers.{Answer, answer, read_call, read_volume, sorted_form, sort, outcome}
use Rattle.calls.proofs.answers.AnswerLaws.{sort-is}
use Rattle.calls.proofs.answers.SortedForm.{form-length}
use Rattle.calls.proofs.encoding.Blocks.{field}
use Rattle.calls.proofs.encoding.VolumeTrip.{list-laid}
use Rattle.reader.specs.Heads.{call_byte}
use Rattle.reader.specs.Readings.{call_refusal, ReadAs}
use Rattle.reader.specs.declared.read_list.ReadList.{ReadList}
use Rattle.reader.proofs.PartsLaws.{passed, read-on, read-refused}
use Rattle.sort.specs.Form.{Placed, form_bytes}
use Rattle.sort.proofs.FormBlocks.{form-is}
use Rattle.sort.proofs.FormTable.{table-stands}

-- a list is laid out for the call that its head names
called : (s : List ℕ) → call_laid_out (call_byte s) s ≡ laid_out (volume_shapes ++ request_shapes (call_byte s)) s
unfolding call_laid_out call_byte
called s = rw (eq-eqb (read_volume s).head.call (read_volume s).head.call refl) (and-true _)

-- which is the layout that a sort asks for
listed : (s : List ℕ) → call_laid_out (call_byte s) s ≡ list_laid_out s
unfolding list_laid_out call_byte
listed s = called s

module _ (s : List ℕ) (room : ℕ) where
  -- its tests are those of the reader
  answers : sort s room
      ≡ answer
      (test 2 (call_laid_out (call_byte s) s) ∷ test 22 (none_twice (read_volume s)) ∷ test 3 (list_within (read_call s)) ∷ [])
      (sorted_form s) room
  answers =
      sort-is s room
      ∙ ap
      (λ (t : Bool). answer (test 2 t ∷ test 22 (none_twice (read_volume s)) ∷ test 3 (list_within (read_call s)) ∷ []) (sorted_form s) room)
      (sym (listed s))

  pub sort-refused : {call : ℕ} → call ≡ call_byte s → 0 < call_refusal call s → sort s room ≡ record { number = call_refusal call s; written = [] }
  sort-refused c l = let k = ap (λ (m : ℕ). call_refusal m s) c in answers ∙ read-refused (call_byte s) s [] (sorted_form s) room _ k (omega (arith, k))

-- a list that was read for the call that its head names
pub read-own : {call : ℕ} {s : List ℕ} {r : ReadList} → call ≡ call_byte s → r.list.now ≡ s → ReadAs (Some call) r → ReadAs (Some (call_byte r.list.now)) r
read-own {r = r} c e q = subst (λ (n : ℕ). ReadAs (Some n) r) (c ∙ ap call_byte (sym e)) q

module _ {s : List ℕ} (r : Bytes s) (z : 0 ≡ call_refusal (call_byte s) s) where
  -- its sorted form is as long
  form-long : length (sorted_form s) ≡ length s
  form-long = let p = passed (call_byte s) s z in form-length r (sym (listed s) ∙ p.laid) p.once

  -- no test is left but 21
  left : (room : ℕ) → sort s room ≡ answer [] (sorted_form s) room
  left room = answers s room ∙ read-on (call_byte s) s [] (sorted_form s) room z

-- and its parts
module _ {r : ReadList} (q : ReadAs (Some (call_byte r.list.now)) r) where
  -- fields stand at its places
  pub all_placed : All (Placed r.list.now) r.places.now
  all_placed = (table-stands q.read).placed

  -- field 1, and the fields at its places, are the sorted form
  form-at : form_bytes r.list.now r.head r.places.now ≡ sorted_form r.list.now
  unfolding form_bytes
  form-at =
      let s = r.list.now in
      let p = passed (call_byte s) s q.passed in
      let e = sym (table-stands q.read).bytes in
      (λ i. encode_field (field 1 (head_body (q.read.head i))) ++ e i)
      ∙ sym (form-is (call_byte s) s (sym (called s) ∙ p.laid) (list-laid q.read.bytes (sym (listed s) ∙ p.laid)))

  -- which is as long as the list
  pub form-counted : length r.list.now ≤ cap → length r.list.now ≡ min (length (form_bytes r.list.now r.head r.places.now)) cap
  form-counted l = rw form-at (omega (arith, form-long q.read.bytes q.passed))

  -- and its answer is that of a sort
  pub form-answered : (xs : List ℕ) → outcome (answer [] (form_bytes r.list.now r.head r.places.now) (length xs)) xs ≡ outcome (sort r.list.now (length xs)) xs
  form-answered xs =
      ap (λ (bs : List ℕ). outcome (answer [] bs (length xs)) xs) form-at
      ∙ ap (λ (a : Answer). outcome a xs) (sym (left q.read.bytes q.passed (length xs)))
