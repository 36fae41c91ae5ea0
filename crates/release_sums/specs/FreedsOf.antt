-- The released pieces of a list, and those that are left.
use Rattle.std.specs.Prelude.{List, take}
use Rattle.calls.specs.CallList as calls
use Rattle.calls.specs.CallList.{freed_of}
use Rattle.reader.specs.declared.listed.FixedBody.{Ghosts}
use Rattle.reader.specs.declared.listed.ListedLeft.{ListedLeft}
use Rattle.release_sums.specs.Freeds.{freed_held, freeds_in}
use Rattle.release_sums.specs.declared.requests.Freed.{Freed}
use Rattle.release_sums.specs.declared.requests.Freeds.{Freeds}

-- a released piece as a body, of 10 bytes
abbrev pub freed_body : Ghosts Freed
freed_body = record { Seen = calls.Freed; seen = λ r. freed_held r; width = 10; read = λ s. freed_of (take 10 s) }

abbrev pub freeds_of : Freeds → List calls.Freed
freeds_of f = freeds_in f.pieces.list.now f.pieces.places.now

abbrev pub freeds_left : ListedLeft Freed freed_body → List calls.Freed
freeds_left l = freeds_in l.listed.list.now l.listed.places.now
