use Rattle.reader.specs.Pieces.{piece_in}
use Rattle.accounting.proofs.TallyLaws.{tally-one}
use Rattle.accounting.proofs.tally.Tally.add.Goals as goal

pub returns : goal.returns
returns c = tally-one c.args.self.now (piece_in c.args.p)
