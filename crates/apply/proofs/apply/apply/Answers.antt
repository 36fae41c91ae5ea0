-- The volume's own refusal, or 2 of the change list.
use Rattle.apply.proofs.RefusalLaws.{first-refused}
use Rattle.apply.proofs.apply.apply.Goals as goal

pub returns-in-Err : goal.returns-in-Err
returns-in-Err c = let e = c.in-Err.ensures in rw e.1.1 (first-refused _ _ _ e.0.1 _ (rw e.0.0 at c.first_refusal.ensures))
