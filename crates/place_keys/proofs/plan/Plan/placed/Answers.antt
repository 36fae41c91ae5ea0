use Rattle.place_keys.specs.Left.{placed_left}
use Rattle.place_keys.proofs.WalkLaws.{from_first}
use Rattle.place_keys.proofs.plan.Plan.placed.Goals as goal

pub returns : goal.returns
unfolding placed_left
returns c = from_first c.args.self.now.planned
