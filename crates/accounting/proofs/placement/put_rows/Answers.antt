use Rattle.std.proofs.Common.{◌≡◌, ◌∙◌, sym, ap, map, length}
use lib.ListN.{length-map}
use Rattle.calls.specs.Extents.{extent_key}
use Rattle.reader.specs.Heads.{head_in}
use Rattle.accounting.specs.declared.tally.Tallies.{Tallies}
use Rattle.accounting.proofs.PlaceRowLaws.{place-rows}
use Rattle.accounting.proofs.RowLaws.{rows-then}
use Rattle.accounting.proofs.placement.put_rows.Goals as goal

pub returns : goal.returns
returns c =
    λ bs ps e t.
    let n : length ps ≡ c.args.t.now.all.count = sym (length-map ps (λ p. p.piece)) ∙ ap (λ (x : Tallies). x.all.count) (sym t) in
    simp (
      c.put_owner.ensures,
      c.put_extents_row.ensures (head_in c.args.h) ps c.requires.bounds.1 n,
      c.put_kinds.ensures,
      c.put_taken_rows.ensures,
      rows-then,
      place-rows (head_in c.args.h) bs ps (map (extent_key (head_in c.args.h)) ps) c.args.t.now t,
      e,
    )
