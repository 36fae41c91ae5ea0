use Rattle.sort.proofs.StretchLaws.{Copying}
use Rattle.sort.proofs.form.put_fields.Given as goal

abbrev pub invariant-loop-place : goal.invariant-loop-place
invariant-loop-place l = Copying l.list l.places l.fn.out l.place-index l.from l.end l.out
