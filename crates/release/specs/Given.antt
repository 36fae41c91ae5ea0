-- The change list that a release makes of what it is given.
use Rattle.std.specs.Prelude.{ℕ, List, [], ◌∷◌}
use Rattle.calls.specs.ChangeList.{change_bytes}
use Rattle.calls.specs.Release.{release_batch}
use Rattle.release_keys.specs.Given.{volume_in, requests_in}
use Rattle.reader.specs.declared.read_list.ReadList.{ReadList}

-- its bytes
abbrev pub change_of : ReadList → List ℕ
change_of r = change_bytes (release_batch (volume_in r) (requests_in r) ∷ [])
