use Rattle.std.proofs.Common.{ap}
use Rattle.wire.specs.Output.{with_bytes}
use Rattle.wire.proofs.AppendLaws.{with-with}
use Rattle.sort.specs.Form.{form_bytes}
use Rattle.sort.proofs.form.SortedFormEmit.emit.Goals as goal

pub returns : goal.returns
unfolding form_bytes
returns c = rw (c.put_fields.ensures, c.put_head_field.ensures, with-with) (ap (with_bytes c.args.out.now) c.self.view_is)
