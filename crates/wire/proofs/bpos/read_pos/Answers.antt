use Rattle.std.proofs.Common.{drop-drop}
use Rattle.wire.proofs.bpos.read_pos.Goals as goal

pub returns : goal.returns
returns c = simp (c.le64.ensures, c.le64-2.ensures, c.le32.ensures, drop-drop)
