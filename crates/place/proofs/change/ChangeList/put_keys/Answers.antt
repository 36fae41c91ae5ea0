use Rattle.std.proofs.Common.{ap, sym, ◌∙◌}
use Rattle.wire.specs.Output.{with_bytes}
use Rattle.wire.proofs.AppendLaws.{with-with}
use Rattle.calls.specs.Place.{placed_of}
use Rattle.calls.specs.Answers.{read_call}
use Rattle.place.proofs.ChangeLaws.{keys_of, root-of}
use Rattle.place.proofs.change.ChangeList.put_keys.Goals as goal

-- the dirty counts are those of the pieces placed
pub put_lrus-root_wanted-requires : goal.put_lrus-root_wanted-requires
put_lrus-root_wanted-requires c = let l = c.args.self.now in record { placed = placed_of (read_call l.counted.plan.now.list.now); dirty = l.counted.counted }

pub returns-clause-keys : goal.returns-clause-keys
returns-clause-keys c =
    let l = c.args.self.now in
    let plan = l.counted.plan.now in
    rw (
      c.put_backpointers.ensures,
      c.put_queue.ensures,
      l.prepared.queue,
      rw plan.sized at (c.put_lrus-root_wanted.ensures.keys (placed_of (read_call plan.list.now)) l.counted.counted),
      c.put_allocs.ensures,
      c.put_extents.ensures,
      with-with,
      with-with,
      with-with,
      with-with,
    )
    (ap (with_bytes c.args.out.now) (sym (keys_of plan.planned)))

pub returns-clause-root : goal.returns-clause-root
returns-clause-root c =
    let l = c.args.self.now in
    let plan = l.counted.plan.now in
    rw plan.sized at (c.put_lrus-root_wanted.ensures.root (placed_of (read_call plan.list.now)) l.counted.counted) ∙ root-of plan.planned
