-- From a list that was read to its parts, and from its answer after refusals 2 and 3 to the answer of the definition.
use Rattle.std.proofs.Common.{Some}
use mathlib.Core.Path.{◌≡◌, refl, ap, sym, ◌∙◌}
use mathlib.Core.Bool.{true}
use mathlib.Core.List.{List, [], ◌∷◌}
use Prim.Native.Nat.{ℕ, ◌<◌, ◌≤◌}
use lib.ListN.{length}
use Rattle.wire.specs.Kinds.{base_in_range}
use Rattle.calls.specs.Answers.{Answer, answer, made, outcome, place, read_call}
use Rattle.calls.specs.CallList as calls
use Rattle.calls.specs.ChangeList.{change_bytes}
use Rattle.calls.specs.Place.{place_tests}
use Rattle.calls.proofs.answers.AnswerLaws.{place_is}
use Rattle.calls.specs.CallList.{keys_ascend}
use Rattle.calls.proofs.answers.SingleLookups.{gens-ascend}
use Rattle.reader.specs.ListedKeys.{keys_listed}
use Rattle.reader.specs.Readings.{call_refusal, ReadAs}
use Rattle.reader.specs.PieceLists.{Pieces, pieces_of}
use Rattle.reader.specs.declared.read_list.ReadList.{ReadList}
use Rattle.reader.proofs.PartsLaws.{passed, read-on, read-refused}
use Rattle.place_tests.specs.Called.{Called}
use Rattle.reader.proofs.CheckedLaws.{checked, base-range}
use Rattle.place.specs.Change.{placement}

pub called : {r : ReadList} {ps : Pieces} → ReadAs (Some 1) r → pieces_of ps ≡ (read_call r.list.now).pieces → length (pieces_of ps) ≤ 1024 → Called r ps
called {r} q e l =
    let p = passed 1 r.list.now q.passed in
    let k = checked 1 r.list.now p.laid p.once p.within in
    record {
      checked = k;
      head = q.read.head;
      alloc_are = q.read.alloc.are;
      runs_are = q.read.freespace.are;
      reserved_are = q.read.reserved.are;
      pieces = e;
      few = l;
      base = ap (λ (x : calls.Head). base_in_range x.base) q.read.head ∙ base-range k;
    }

-- refusal 22: the keys of tree 14 ascend
pub gens-in-order : {r : ReadList} → ReadAs (Some 1) r → keys_ascend (keys_listed r.gens) ≡ true
gens-in-order {r} q = ap keys_ascend q.read.gens.are ∙ gens-ascend r.list.now (passed 1 r.list.now q.passed).once

module _ (s : List ℕ) (room : ℕ) where
  abbrev bytes : List ℕ
  bytes = change_bytes (placement s ∷ [])

  pub place-refused : 0 < call_refusal 1 s → place s room ≡ record { number = call_refusal 1 s; written = [] }
  place-refused l = place_is s room ∙ read-refused 1 s (place_tests (read_call s)) bytes room _ refl l

  pub place-on : {number written : ℕ} {after : List ℕ} (out : List ℕ) → 0 ≡ call_refusal 1 s
      → made number written after ≡ outcome (answer (place_tests (read_call s)) bytes room) out → made number written after ≡ outcome (place s room) out
  place-on out z o = o ∙ ap (λ (a : Answer). outcome a out) (sym (place_is s room ∙ read-on 1 s (place_tests (read_call s)) bytes room z))
