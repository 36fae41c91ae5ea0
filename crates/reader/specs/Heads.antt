-- The head that the code holds.
use Rattle.std.specs.Prelude.{ℕ, List, ◌++◌}
use Rattle.wire.specs.Numbers.{le_bytes}
use Rattle.calls.specs.CallList as calls
use Rattle.calls.specs.Answers.{read_volume}
use Rattle.reader.specs.declared.head.Head.{Head}

-- the call byte of a list's first field 1, wherever that stands
unfoldable pub call_byte : List ℕ → ℕ
call_byte s = (read_volume s).head.call

abbrev pub head_in : Head → calls.Head
head_in h =
    record {
      call = h.call;
      bucket_sectors = h.bucket_sectors;
      block_sectors = h.block_sectors;
      option = h.option;
      roots = h.roots;
      reserve = h.reserve;
      batch = h.batch;
      journal = h.journal;
      inode = h.inode;
      base = h.base;
    }

-- the bytes of its call, sizes, option and roots
unfoldable pub head_sizes : calls.Head → List ℕ
head_sizes h =
    le_bytes 1 h.call ++ le_bytes 2 h.bucket_sectors ++ le_bytes 2 h.block_sectors ++ le_bytes 1 h.option ++ le_bytes 1 h.roots
