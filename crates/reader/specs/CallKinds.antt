-- FORMAT.md, "Call list": the calls, by the byte of field 1 that names each.
use Rattle.std.specs.Prelude.{◌≡◌, ℕ, Result, Ok, Err}
use Rattle.reader.specs.declared.call_kinds.Call.{Call}
use Rattle.reader.specs.declared.call_kinds.UnknownCall.{UnknownCall}
use Rattle.reader.specs.declared.call_kinds.Call.TheVariants.{Place, Release, Discard}

-- the number of a call
abbrev pub call_number : Call → ℕ
call_number Place = 1
call_number Release = 2
call_number Discard = 3

-- the call with this number, or none has it
abbrev pub CallNamed : ℕ → Result Call UnknownCall → Type 0
CallNamed n (Ok c) = n ≡ call_number c
CallNamed n (Err e) = (e.0 ≡ n) × ((c : Call) → n ≡ call_number c → ⊥)
