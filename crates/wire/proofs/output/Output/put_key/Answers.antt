use Rattle.std.proofs.Common.{ap, sym}
use Rattle.wire.specs.Output.{with_bytes}
use Rattle.wire.proofs.AppendLaws.{with-with, key-parts}
use Rattle.wire.proofs.output.Output.put_key.Goals as goal

pub returns : goal.returns
returns c =
    let k = c.args.k.now in
    rw (c.put_slice.ensures, c.put_key_start.ensures, c.put_head.ensures, with-with, with-with, c.as_slice-value.ensures.gives)
    (ap (with_bytes c.args.self.now) (sym (key-parts c.args.tree k.head k.value)))
