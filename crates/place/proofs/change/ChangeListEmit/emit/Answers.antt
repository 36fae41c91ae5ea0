use Rattle.std.proofs.Common.{ap, sym}
use Rattle.wire.specs.Output.{with_bytes}
use Rattle.wire.proofs.AppendLaws.{with-with}
use Rattle.place.proofs.ChangeLaws.{change-split}
use Rattle.place.proofs.change.ChangeListEmit.emit.Goals as goal

pub returns : goal.returns
returns c = rw (c.put_others.ensures, c.put_keys-root_wanted.ensures.keys, with-with) (ap (with_bytes c.args.out.now) (sym (change-split _)))
