use Rattle.std.proofs.Common.{append_assoc}
use Rattle.wire.specs.Numbers.{le_bytes}
use Rattle.wire.specs.Encode.{encode_field}
use Rattle.wire.proofs.AppendLaws.{with-with}
use Rattle.calls.specs.CallList.{head_body}
use Rattle.reader.specs.Heads.{head_sizes}
use Rattle.reader.proofs.head.put_head_field.Goals as goal

pub returns : goal.returns
unfolding encode_field head_body head_sizes le_bytes
returns c =
    simp (c.number.ensures, c.put_head.ensures, c.put_sizes.ensures, c.put_u32.ensures, c.put_u32-2.ensures, c.put_u64.ensures, c.put_u64-2.ensures, c.put_file_sector.ensures, with-with, append_assoc)
