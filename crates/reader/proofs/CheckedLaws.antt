-- What refusals 2 and 3 show, part by part.
use mathlib.Core.Path.{◌≡◌}
use mathlib.Core.Bool.{true, not, ◌&&◌, ◌||◌}
use mathlib.Core.List.{List}
use Prim.Native.Nat.{ℕ}
use lib.Dec.{leb}
use lib.ListN.{length}
use borrow.Author.Tests.{eq-eqb}
use Rattle.wire.specs.Keys.{Key}
use Rattle.wire.specs.Kinds.{bucket_in_range, run_end_in_range, base_in_range, bucket_below}
use Rattle.wire.specs.Positions.{bucket_in}
use Rattle.calls.specs.Lists.{all_of, in_order}
use Rattle.calls.specs.CallList.{all_trees, keys_ascend, call_laid_out, none_twice}
use Rattle.calls.specs.Limits.{is_run, is_set, counts_ok, buckets_ok, volume_within, list_within}
use Rattle.calls.specs.Answers.{read_call, read_volume}
use Rattle.calls.proofs.lists.BoolLaws.{parts as and-true}
use Rattle.calls.proofs.trees.SortedLaws.{InOrder}
use Rattle.calls.proofs.trees.SixTrees.{EachTree, trees-each, trees-order}
use Rattle.calls.proofs.freespace.TakenAscend.{call-trees}
use Rattle.reader.specs.Checked.{Checked, AllocChecked, RunsChecked, ReservedChecked, in_range, end_in_range}

-- the limits of a key
pub range_at : (k : Key) → in_range k ≡ true → k.pos.inode ≡ 0 → bucket_in_range (bucket_in k.pos) ≡ true
range_at k h e = rw (eq-eqb k.pos.inode 0 e) at h

pub end-at : (k : Key) → end_in_range k ≡ true → is_run k ≡ true → run_end_in_range (bucket_in k.pos) ≡ true
end-at k h e = rw e at h

module _ {s : List ℕ} (c : Checked s) where
  pub trees-in-order : EachTree InOrder (read_volume s).trees
  trees-in-order = trees-order c.trees

  limited :
      (buckets_ok (read_volume s).trees ≡ true) × (all_of bucket_in_range (read_volume s).reserved ≡ true) × (base_in_range (read_volume s).head.base ≡ true)
  unfolding volume_within
  limited =
      let v = read_volume s in
      let e = leb v.head.reserve 65536 && base_in_range v.head.base in
      let d = all_of bucket_in_range v.reserved && e in
      let b = leb (length v.reserved) 4096 && d in
      let p = and-true (counts_ok v.trees) (buckets_ok v.trees && b) c.limits in
      let q = and-true (buckets_ok v.trees) b p.1 in
      let r = and-true (leb (length v.reserved) 4096) d q.1 in
      let t = and-true (all_of bucket_in_range v.reserved) e r.1 in
      (q.0, t.0, (and-true (leb v.head.reserve 65536) (base_in_range v.head.base) t.1).1)

  pub reserved-range : all_of bucket_in_range (read_volume s).reserved ≡ true
  reserved-range = limited.1

  pub base-range : base_in_range (read_volume s).head.base ≡ true
  base-range = limited.2

  tree-ranges :
      (all_of in_range (read_volume s).trees.alloc ≡ true)
      × ((all_of (λ k. not (is_set k) || bucket_in_range (bucket_in k.pos)) (read_volume s).trees.need_discard && all_of end_in_range (read_volume s).trees.freespace) ≡ true)
  unfolding buckets_ok
  tree-ranges = and-true (all_of in_range (read_volume s).trees.alloc) _ limited.0

  pub alloc-range : all_of in_range (read_volume s).trees.alloc ≡ true
  alloc-range = tree-ranges.0

  pub run-range : all_of end_in_range (read_volume s).trees.freespace ≡ true
  run-range =
      (and-true (all_of (λ k. not (is_set k) || bucket_in_range (bucket_in k.pos)) (read_volume s).trees.need_discard)
      (all_of end_in_range (read_volume s).trees.freespace) tree-ranges.1).1

  -- of its alloc keys, its runs and its reserved buckets
  pub alloc-checked : AllocChecked (read_volume s).trees.alloc
  alloc-checked = record { order = (trees-each (read_volume s).trees c.trees).alloc; range = alloc-range }

  pub runs-checked : RunsChecked (read_volume s).trees.freespace
  runs-checked = record { order = (trees-each (read_volume s).trees c.trees).freespace; range = run-range }

  pub reserved-checked : ReservedChecked (read_volume s).reserved
  reserved-checked = record { order = c.reserved; range = reserved-range }

-- refusals 2, 22 and 3 show it
pub checked : (call : ℕ) (s : List ℕ) → call_laid_out call s ≡ true → none_twice (read_volume s) ≡ true → list_within (read_call s) ≡ true → Checked s
unfolding none_twice list_within
checked call s h o w =
    let c = read_call s in
    let v = c.volume in
    record {
      trees = call-trees call s h o;
      reserved = (and-true (all_trees keys_ascend v.trees) (in_order bucket_below v.reserved) o).1;
      limits = (and-true (volume_within v) (leb (length c.pieces) 1024 && leb (length c.releases) 1024) w).0;
    }
