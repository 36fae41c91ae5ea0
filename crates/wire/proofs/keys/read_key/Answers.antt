use Rattle.std.proofs.Common.{refl}
use Rattle.std.proofs.lemmas.List.{take_rest}
use Rattle.wire.proofs.keys.read_key.Goals as goal

pub returns : goal.returns
returns c =
    rw (c.le8.ensures, c.le32.ensures, c.le32-2.ensures, c.le64.ensures, c.read_pos.ensures, c.new.ensures, take_rest c.args.body.now 37) refl
