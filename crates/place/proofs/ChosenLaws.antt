-- What choosing hands over to the change list: the pieces' slots, and as many buckets as are needed, each below 65,536, in ascending order.
use mathlib.Core.Path.{◌≡◌, refl, ap, sym, ◌∙◌}
use mathlib.Core.Bool.{true}
use mathlib.Core.List.{List, []}
use Prim.Native.Nat.{ℕ, ◌≤◌}
use native.Mathlib.Omega.{arith}
use Rattle.std.specs.Prelude.{Ok}
use Rattle.std.specs.Int.NonZero.{non_zero_u64_get}
use lib.ListN.{length, take, length-take}
use Rattle.wire.specs.Keys.{Key}
use Rattle.wire.specs.Kinds.{bucket_below, bucket_in_range}
use Rattle.calls.specs.Lists.{all_of, in_order}
use Rattle.calls.specs.CallList.{CallList, Head, Piece}
use Rattle.calls.specs.Freespace.{is_in, is_used, runs_of}
use Rattle.calls.specs.Pieces.{buckets_needed}
use Rattle.calls.specs.Place.{slots_of, walk_of}
use Rattle.calls.specs.Answers.{read_call, read_volume}
use Rattle.calls.proofs.freespace.RunLaws.{walk-gives}
use Rattle.calls.proofs.freespace.TakenAscend.{place-taken-ascend}
use Rattle.reader.specs.declared.read_list.ReadList.{ReadList}
use Rattle.place_tests.specs.Called.{Called}
use Rattle.place_tests.specs.Choice.{ChosenIs}
use Rattle.freespace.specs.Walks.{unwalked, queue_of, WalkTook}
use Rattle.place_tests.specs.declared.refusals.Chosen.{Chosen}
use Rattle.reader.specs.PieceLists.{Pieces, pieces_of}
use Rattle.place_tests.proofs.RefusalLaws.{TestsPassed, accepted}
use Rattle.place_tests.proofs.SizedLaws.{needed-short}
use Rattle.freespace.proofs.TakeLaws.{queue-take}
use Rattle.freespace.proofs.TakenLaws.{walk-in-range}
use Rattle.place.specs.Planned.{PlanFor}

-- what is chosen, for the change list
pub record Choice (l : ReadList) (ps : List Piece) (c : Chosen) : Type 0 where
  pub plan : PlanFor l.list.now l.head ps c.slots.now c.taken.now c.option
  pub sized : non_zero_u64_get c.sectors ≡ l.head.bucket_sectors
  pub few : c.walked.passed ≤ length (read_volume l.list.now).trees.freespace
  pub queue : queue_of c.walked.passed c.walked.left (read_volume l.list.now).trees.freespace ≡ (walk_of (read_call l.list.now)).queue

module _ {l : ReadList} {ps : Pieces} {r : Chosen} (q : Called l ps) (o : ChosenIs l.list.now (Ok r)) where
  abbrev s : List ℕ
  s = l.list.now

  abbrev c : CallList
  c = read_call s

  abbrev ks : List Key
  ks = (read_volume s).trees.freespace

  passed : TestsPassed c l.head
  passed = accepted c l.head q.head (sym o.refusal)

  taken-many : length (walk_of c).taken ≡ buckets_needed (slots_of c)
  unfolding walk_of
  taken-many =
      omega (arith, passed.free, walk-gives (is_in (read_volume s).reserved) (is_used (read_volume s).trees.alloc) (buckets_needed (slots_of c)) (runs_of ks))

  low : all_of bucket_in_range (walk_of c).taken ≡ true
  unfolding walk_of
  low = walk-in-range (is_in (read_volume s).reserved) (is_used (read_volume s).trees.alloc) q.checked (buckets_needed (slots_of c))

  ascend : in_order bucket_below (walk_of c).taken ≡ true
  ascend = place-taken-ascend c q.checked.trees passed.runs

  abbrev w : WalkTook (buckets_needed (slots_of c)) (take r.walked.passed ks) (walk_of c) unwalked [] r.taken.now r.walked
  w = o.chosen.walk

  taken-is : r.taken.now ≡ (walk_of c).taken
  taken-is = o.chosen.taken

  passed-all : length (take r.walked.passed ks) ≡ r.walked.passed
  passed-all = omega (arith, w.passed)

  pub chosen : Choice l (pieces_of ps) r
  chosen =
      record {
        plan =
            record {
              pieces = q.pieces;
              slots = o.chosen.slots;
              head = q.head;
              taken = taken-is;
              gens = refl;
              few = q.few;
              base = q.base;
              option = o.chosen.option ∙ ap (λ (h : Head). h.option) (sym q.head);
              kinds = passed.requests.kinds;
              sizes = passed.requests.sizes;
              enough = omega (arith, ap length taken-is, taken-many);
              short = omega (arith, ap length taken-is, taken-many, needed-short q passed.requests);
              low = rw taken-is low;
              ascend = rw taken-is ascend;
            };
        sized = o.chosen.sectors ∙ ap (λ (h : Head). h.bucket_sectors) (sym q.head);
        few = omega (arith, passed-all, length-take r.walked.passed ks);
        queue = sym (w.queue ∙ ap (λ (m : ℕ). queue_of m r.walked.left (take r.walked.passed ks)) passed-all ∙ sym (queue-take r.walked.passed r.walked.left ks));
      }
