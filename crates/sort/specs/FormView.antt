-- A list that was read, as its sorted form.
use Rattle.std.specs.Prelude.{ℕ, List}
use Rattle.wire.specs.Bytes.{All}
use Rattle.sort.specs.Form.{Placed, form_bytes}
use Rattle.sort.specs.declared.form.SortedForm.TheInside.{Inside}

abbrev pub form_view : Inside → List ℕ
form_view f = form_bytes f.list.now f.head f.places.now

-- fields stand at its places
abbrev pub IsForm : Inside → Type 0
IsForm f = All (Placed f.list.now) f.places.now
