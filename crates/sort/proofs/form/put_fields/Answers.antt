use Rattle.std.proofs.Common.{arith}
use Rattle.calls.proofs.lists.AllLaws.{all-nth}
use Rattle.sorting.specs.EntryPlaces.{size_at}
use Rattle.sort.proofs.StretchLaws.{copying-start, joined, apart, copied}
use Rattle.sort.proofs.form.put_fields.Goals as goal
use Rattle.sort.proofs.form.put_fields.Goals.{then-o-end, else-o-end}

pub loop-place-init : goal.loop-place-init
loop-place-init c = copying-start _ _ _

pub overflow_sub-from : goal.overflow_sub-from
overflow_sub-from c = (all-nth 0 c.requires c.loop-place.place-index c.loop-place-test.true).after

pub len_at-requires : goal.len_at-requires
unfolding size_at
len_at-requires c = let h = all-nth 0 c.requires c.loop-place.place-index c.loop-place-test.true in (h.after, omega (arith, h.within))

pub overflow_add-end-in-loop-place : goal.overflow_add-end-in-loop-place
unfolding size_at
overflow_add-end-in-loop-place c =
    let h = all-nth 0 c.requires c.loop-place.place-index c.loop-place-test.true in omega (arith, c.len_at.ensures, h.within)

pub loop-place-preserved : goal.loop-place-preserved
unfolding size_at
loop-place-preserved c =
    let l = c.loop-place-test.true in
    let h = all-nth 0 c.requires c.loop-place.place-index l in
    elim c.if-o-end.branch [
      | then-o-end w ↦ rw (w.from-is, w.out-is) (apart c.loop-place.invariant l h c.len_at.ensures w.put_slice.ensures)
      | else-o-end w ↦ rw (w.from-is, w.out-is) (joined c.loop-place.invariant l h c.len_at.ensures w.if-o-end.false)
    ]

pub returns : goal.returns
returns c = copied c.loop-place.invariant (omega arith) c.put_slice-2.ensures
