-- The generations of a joint lookup are those of single lookups: of an accepted call, and of the buckets that a placement takes.
use mathlib.Core.Path.{◌≡◌, ◌∙◌}
use mathlib.Core.Bool.{true, ◌&&◌}
use mathlib.Core.List.{List, [], ◌∷◌, map}
use Prim.Native.Nat.{ℕ, ◌≤◌}
use native.Mathlib.Omega.{arith}
use lib.Dec.{eqb}
use lib.ListN.{length}
use Rattle.wire.specs.Kinds.{bucket_below}
use Rattle.wire.specs.declared.kinds.Bucket.{Bucket}
use Rattle.calls.specs.Lists.{in_order}
use Rattle.calls.specs.CallList.{all_trees, keys_ascend, volume_laid_out, none_twice}
use Rattle.calls.specs.Limits.{volume_within, buckets_within}
use Rattle.calls.specs.Refusals.{test}
use Rattle.calls.specs.Generations.{gen_of}
use Rattle.calls.specs.JointLookup.{joint_lookup}
use Rattle.calls.specs.Place.{walk_of}
use Rattle.calls.specs.Answers.{Answer, answer, GenerationsAnswer, with_visited, read_call, read_volume, generations, place}
use Rattle.calls.proofs.lists.BoolLaws.{parts, cond-most}
use Rattle.calls.proofs.trees.SixTrees.{tested-each}
use Rattle.calls.proofs.trees.SortedLaws.{Sorted, order-sorted}
use Rattle.calls.proofs.trees.JointLookupLaws.{joint-generations, joint-visited}
use Rattle.calls.proofs.freespace.TakenAscend.{laid-taken-ascend}
use Rattle.calls.proofs.place.PlaceLaws.{place-accepted}
use Rattle.calls.proofs.answers.AnswerLaws.{generations-is, looked-up, placement}

-- the keys of tree 14 of a list in which no position stands twice are in order
pub gens-ascend : (s : List ℕ) → none_twice (read_volume s) ≡ true → keys_ascend (read_volume s).trees.gens ≡ true
unfolding none_twice
gens-ascend s o =
    let v = read_volume s in
    (tested-each keys_ascend v.trees (parts (all_trees keys_ascend v.trees) (in_order bucket_below v.reserved) o).0).gens

gens-sorted : (s : List ℕ) → none_twice (read_volume s) ≡ true → Sorted (read_volume s).trees.gens
gens-sorted s o = order-sorted (read_volume s).trees.gens (gens-ascend s o)

-- each generation that is written is the single lookup's
pub generations-single : (s : List ℕ) (buckets : List Bucket) (room : ℕ) → (generations s buckets room).number ≡ 0
    → (generations s buckets room).written ≡ map (gen_of (read_volume s).trees.gens) buckets
generations-single s buckets room h =
    let l = looked-up s buckets room h in
    l.written ∙ joint-generations (read_volume s).trees.gens buckets (gens-sorted s l.once) l.ascend

-- no more keys are visited than tree 14 has
with-most : {n m : ℕ} {g : GenerationsAnswer} (a : Answer) → g ≡ with_visited n a → n ≤ m → g.visited ≤ m
with-most a e h = rw e (cond-most (eqb a.number 0) {b = 0} h (omega arith))

pub generations-visited : (s : List ℕ) (buckets : List Bucket) (room : ℕ) → (generations s buckets room).visited ≤ length (read_volume s).trees.gens
generations-visited s buckets room =
    with-most
    (answer
    (test 2 (volume_laid_out s && in_order bucket_below buckets) ∷ test 22 (none_twice (read_volume s))
    ∷ test 3 (volume_within (read_volume s) && buckets_within buckets)
    ∷ [])
    (joint_lookup (read_volume s).trees.gens buckets).generations room)
    (generations-is s buckets room) (joint-visited (read_volume s).trees.gens buckets)

-- so are those of the buckets that an accepted placement takes
pub taken-generations : (s : List ℕ) (room : ℕ) → (place s room).number ≡ 0
    → (joint_lookup (read_volume s).trees.gens (walk_of (read_call s)).taken).generations ≡ map (gen_of (read_volume s).trees.gens) (walk_of (read_call s)).taken
taken-generations s room h =
    let p = placement s room h in
    joint-generations (read_volume s).trees.gens (walk_of (read_call s)).taken (gens-sorted s p.once)
    (laid-taken-ascend s p.laid_out p.once (place-accepted (read_call s) p.tests-held).disjoint)
