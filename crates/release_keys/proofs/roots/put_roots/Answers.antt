-- `roots::put_roots` meets its contract.
use Rattle.std.proofs.Common.{sym}
use Rattle.wire.proofs.AppendLaws.{with-none, with-with}
use Rattle.release_keys.proofs.RootLaws.{roots-idle, roots-both}
use Rattle.release_keys.proofs.roots.put_roots.Goals as goal

pub returns-then-wanted : goal.returns-then-wanted
returns-then-wanted c =
    rw (roots-both c.args.wanted c.args.roots c.if-wanted.true, c.put_missing-then-wanted.ensures, c.put_missing.ensures, with-with)

pub returns-else-wanted : goal.returns-else-wanted
returns-else-wanted c = rw (roots-idle c.args.wanted c.args.roots c.if-wanted.false) (sym (with-none c.args.out.now))
