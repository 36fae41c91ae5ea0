use Rattle.std.proofs.Common.{◌≤◌, length, le-leb}
use Rattle.reader.specs.ListedKeys.{key_listed}
use Rattle.bucket_bits.proofs.MarkLaws.{type-in}
use Rattle.bucket_bits.proofs.marks.holds_data.Goals as goal

pub returns-then-value-ge16 : goal.returns-then-value-ge16
returns-then-value-ge16 c =
    let h : 16 ≤ length (key_listed c.args.key).value = rw c.value-value.ensures at c.if-value-ge16.true in
    rw (c.data_type.ensures, c.number.ensures, c.value-value.ensures, type-in (key_listed c.args.key).value, le-leb 16 _ h)
