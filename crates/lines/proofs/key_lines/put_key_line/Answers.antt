use Rattle.std.proofs.Common.{ap, ◌∙◌}
use Rattle.wire.specs.Keys.{key_of}
use Rattle.wire.specs.Output.{with_bytes}
use Rattle.wire.proofs.AppendLaws.{then}
use Rattle.lines.proofs.LineLaws.{key-line, body-rest}
use Rattle.lines.proofs.key_lines.put_key_line.Goals as goal

pub returns : goal.returns
returns c =
    let words = rw (body-rest 37 c.args.body.now) at c.put_words.ensures in
    let kind = rw c.type_at.ensures at c.put_next_decimal.ensures in
    let inode = rw c.pos_at-pos.ensures at c.put_next_decimal-2.ensures in
    let offset = rw c.pos_at-pos.ensures at c.put_next_decimal-3.ensures in
    let size = rw c.size_at.ensures at c.put_next_decimal-4.ensures in
    then _ _ _ c.put_decimal.ensures (then _ _ _ kind (then _ _ _ inode (then _ _ _ offset (then _ _ _ size (then _ _ _ words c.put_u8.ensures)))))
    ∙ ap (with_bytes c.args.out.now) (key-line c.args.tree (key_of c.args.body.now))
