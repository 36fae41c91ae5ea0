use Rattle.std.proofs.Common.{sym}
use Rattle.wire.proofs.KindLaws.{from-length}
use Rattle.wire.proofs.kinds.buckets_between.Goals as goal

pub returns : goal.returns
returns c = sym (from-length _ _)
