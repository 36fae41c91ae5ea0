use Rattle.std.proofs.Common.{sym, ◌∙◌}
use Rattle.freespace.proofs.RunLaws.{run_end}
use Rattle.freespace.proofs.TakeLaws.{key-began, key-run, key-other}
use Rattle.freespace.proofs.take.Walker.walk_key.Goals as goal

pub returns-then-began_early : goal.returns-then-began_early
returns-then-began_early c = key-began _ _ _ _ c.args.before _ _ (sym c.began_early.ensures ∙ c.if-began_early.true)

pub walk_run-requires : goal.walk_run-requires
walk_run-requires c =
    (run_end _ _ (sym c.run_of.ensures ∙ c.in-Some.is) c.requires.end, c.requires.most, c.requires.room, c.requires.few)

pub returns-in-Some : goal.returns-in-Some
returns-in-Some c =
    let q = c.requires in
    key-run _ _ _ _ c.args.before _ _ (sym c.began_early.ensures ∙ c.if-began_early.false) q.most
    (sym c.run_of.ensures ∙ c.in-Some.is) q.end c.args.self.now.tables.reserved-told c.args.self.now.tables.used-told _ c.walk_run.ensures

pub returns-in-None : goal.returns-in-None
returns-in-None c =
    rw c.past_key.ensures
    (key-other _ _ _ _ c.args.before _ (sym c.began_early.ensures ∙ c.if-began_early.false) c.requires.most (sym c.run_of.ensures ∙ c.in-None.is))
