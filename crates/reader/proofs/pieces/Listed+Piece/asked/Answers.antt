use Rattle.std.proofs.Common.{arith, ap, ◌≡◌, length}
use Rattle.calls.specs.Answers.{read_call}
use Rattle.reader.specs.PieceLists.{pieces_of}
use Rattle.reader.proofs.PartsLaws.{pieces-read}
use Rattle.reader.proofs.PieceListLaws.{pieces-listed}
use Rattle.reader.proofs.pieces.«Listed+Piece».asked.Goals as goal

are : (c : goal.After-new) → pieces_of c.new.result ≡ (read_call c.args.read.now.list.now).pieces
are c = rw (c.new.ensures.0, c.new.ensures.1) (pieces-listed (pieces-read c.requires).0)

pub new-requires : goal.new-requires
new-requires c = record { at = λ i h. ((pieces-read c.requires).0.at i h).within }

pub returns-clause-are : goal.returns-clause-are
returns-clause-are c = are c

pub returns-clause-few : goal.returns-clause-few
returns-clause-few c = omega (arith, (pieces-read c.requires).1, (pieces-read c.requires).0.count, ap length (are c))
