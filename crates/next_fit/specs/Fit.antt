-- Next fit, one piece after the other: the slots of pieces as the code holds them, which bucket is open, and how much of it is used.
use Rattle.std.specs.Prelude.{ℕ, ◌+◌, List, [], ◌∷◌, map}
use Rattle.calls.specs.Pieces as layouts
use Rattle.calls.specs.Pieces.{next_fit}
use Rattle.reader.specs.declared.piece.Piece.{Piece}
use Rattle.next_fit.specs.declared.slot.OpenBucket.{OpenBucket}
use Rattle.next_fit.specs.declared.slot.Slot.{Slot}
use Rattle.next_fit.specs.declared.slot.Fit.{Fit}

-- a slot as a table holds it
abbrev pub slot_in : Slot → layouts.Slot
slot_in s = record { index = s.index; offset = s.offset }

-- and as next fit finds it
abbrev pub fit_in : Fit → layouts.Slot
fit_in f = record { index = f.index; offset = f.offset }

-- a slot by next fit, as it is put into a table
abbrev pub table_slot : layouts.Slot → Slot
table_slot t = record { index = t.index; offset = t.offset }

-- the slots of a table
unfoldable pub slots_in : List Slot → List layouts.Slot
slots_in ts = map slot_in ts

-- at first the first bucket is open, and none of it is used
abbrev pub unused : OpenBucket
unused = record { index = 0; used = 0 }

-- the first of some slots
unfoldable pub first_of : List layouts.Slot → layouts.Slot
first_of [] = record { index = 0; offset = 0 }
first_of (t ∷ ts) = t

-- the slot of a piece, by next fit
unfoldable pub fit_slot : ℕ → OpenBucket → Piece → layouts.Slot
fit_slot bucket o p = first_of (next_fit bucket o.index o.used (p.stored ∷ []))

-- the bucket that is open after a piece: that of its slot
unfoldable pub fit_piece : ℕ → OpenBucket → Piece → OpenBucket
fit_piece bucket o p = let t = fit_slot bucket o p in record { index = t.index; used = t.offset + p.stored }

-- the bucket that is open after each of some pieces
unfoldable pub lay : ℕ → OpenBucket → List Piece → OpenBucket
lay bucket o [] = o
lay bucket o (p ∷ ps) = lay bucket (fit_piece bucket o p) ps
