use Rattle.std.proofs.Common.{arith, ap, length}
use Rattle.place_keys.specs.Left.{placed_left}
use Rattle.place_keys.proofs.WalkLaws.{no_more}
use Rattle.place_keys.proofs.plan.PlacedPiecesIterator.next.Goals as goal

pub returns-then-self-len-clause-steps : goal.returns-then-self-len-clause-steps
unfolding placed_left
returns-then-self-len-clause-steps c = no_more c.args.self.now.plan.planned c.args.self.now.next c.args.self.now.end (omega arith)

pub returns-clause-steps : goal.returns-clause-steps
unfolding placed_left
returns-clause-steps c = (c.piece-p.ensures.here, c.piece-p.ensures.bounded)

pub returns-clause-goes : goal.returns-clause-goes
unfolding placed_left
returns-clause-goes c = record { on = λ u. (tt, tt, omega (arith, ap length c.piece-p.ensures.here)); keeps = tt; rests = λ u. tt }
