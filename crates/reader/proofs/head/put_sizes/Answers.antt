use Rattle.std.proofs.Common.{arith, append_assoc}
use Rattle.wire.proofs.AppendLaws.{with-with, low_8}
use Rattle.reader.specs.Heads.{head_sizes}
use Rattle.reader.proofs.head.put_sizes.Goals as goal

pub returns : goal.returns
unfolding head_sizes
returns c =
    let h = c.args.h in
    simp (c.put_u8.ensures, c.put_u16.ensures, c.put_u16-2.ensures, c.put_u8-2.ensures, c.put_u8-3.ensures, with-with, append_assoc, low_8 h.call (omega arith), low_8 h.option (omega arith), low_8 h.roots (omega arith))
