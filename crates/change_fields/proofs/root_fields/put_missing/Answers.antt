use Rattle.std.proofs.Common.{sym}
use Rattle.wire.proofs.AppendLaws.{with-none}
use Rattle.wire.proofs.EncodeLaws.{encode-none}
use Rattle.change_fields.proofs.root_fields.put_missing.Goals as goal

pub returns-else-is_missing : goal.returns-else-is_missing
returns-else-is_missing c = rw (← c.is_missing.ensures, c.if-is_missing.false, encode-none) (sym (with-none c.args.out.now))
