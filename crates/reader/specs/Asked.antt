-- What is asked of a list: that it is of a call, or of any.
use Rattle.std.specs.Prelude.{ℕ, Bool, true, false}
use Rattle.reader.specs.declared.asked.Asked.{Asked}
use Rattle.reader.specs.declared.asked.Asked.TheVariants.{Call, Any}

-- the call whose requests may stand
abbrev pub call_asked : Asked → ℕ
call_asked (Call c) = c
call_asked (Any c) = c

-- whether the head may name any call
abbrev pub any_asked : Asked → Bool
any_asked (Call c) = false
any_asked (Any c) = true
