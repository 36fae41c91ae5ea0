-- The bytes of rows of accounting as fields of a change list.
use Rattle.std.specs.Prelude.{ℕ, List, map}
use Rattle.wire.specs.Encode.{encode}
use Rattle.wire.specs.Rows.{Counters, row_field}
use Rattle.calls.specs.Accounting.{counted_rows}

-- all-zero rows left out
abbrev pub rows_bytes : List Counters → List ℕ
rows_bytes rs = encode (map row_field (counted_rows rs))
