use Rattle.accounting.proofs.PlaceRowLaws.{extents-row}
use Rattle.accounting.proofs.placement.put_extents_row.Goals as goal

pub returns : goal.returns
returns c = λ h ps o e. rw (extents-row h c.extent_size.result c.args.t.stored ps (rw o at c.extent_size.ensures.1), e) c.put_counts.ensures
