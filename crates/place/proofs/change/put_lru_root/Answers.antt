use Rattle.std.proofs.Common.{sym}
use Rattle.wire.proofs.AppendLaws.{with-none}
use Rattle.wire.proofs.EncodeLaws.{encode-none}
use Rattle.place.proofs.change.put_lru_root.Goals as goal

pub returns-then-wanted : goal.returns-then-wanted
returns-then-wanted c = rw c.if-wanted.true c.put_missing.ensures

pub returns-else-wanted : goal.returns-else-wanted
returns-else-wanted c = rw (c.if-wanted.false, encode-none) (sym (with-none c.args.out.now))
