use Rattle.std.proofs.Common.{refl, ap, sym, ◌∙◌, map, ◌≡◌}
use Rattle.wire.specs.Output.{with_bytes}
use Rattle.wire.proofs.AppendLaws.{with-with}
use Rattle.calls.specs.Place.{placed_of}
use Rattle.calls.specs.Answers.{read_call}
use Rattle.calls.proofs.place.PlaceLaws.{placed-pieces}
use Rattle.accounting.specs.Tally.{tallies_of}
use Rattle.place.proofs.ChangeLaws.{others-of}
use Rattle.place.proofs.change.put_others.Goals as goal

pub put_rows-requires-clause-known : goal.put_rows-requires-clause-known
put_rows-requires-clause-known c =
    let plan = c.args.plan.now in
    let call = read_call plan.list.now in
    record {
      buckets = plan.taken.now;
      placed = placed_of call;
      count = refl;
      tallied = record { is = c.requires.0.is ∙ ap tallies_of (sym (placed-pieces call)); small = c.requires.0.small };
    }

pub returns : goal.returns
returns c =
    let plan = c.args.plan.now in
    let call = read_call plan.list.now in
    let tallied : c.args.tallies.now ≡ tallies_of (map (λ p. p.piece) (placed_of call)) = c.requires.0.is ∙ ap tallies_of (sym (placed-pieces call)) in
    rw (
      c.put_end.ensures,
      c.put_sectors.ensures,
      c.put_rows.ensures plan.taken.now (placed_of call) refl tallied,
      c.put_spots.ensures,
      c.put_taken.ensures,
      c.put_lru_root.ensures,
      with-with,
      with-with,
      with-with,
      with-with,
      with-with,
    )
    (ap (with_bytes c.args.out.now) (sym (others-of plan.planned c.args.tallies.now c.requires.0.is c.args.root_wanted c.requires.1)))
