-- FORMAT.md, "Accounting rows": the data types whose buckets are counted.
use Rattle.std.specs.Prelude.{ℕ}
use Rattle.format.specs.AllocV4.{free, user, need_discard_type}
use Rattle.format.specs.declared.data_types.DataType.{DataType}
use Rattle.format.specs.declared.data_types.DataType.TheVariants.{Free, User, NeedDiscard}

-- the number of a data type
abbrev pub type_number : DataType → ℕ
type_number Free = free
type_number User = user
type_number NeedDiscard = need_discard_type
