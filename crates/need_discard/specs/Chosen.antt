-- Which alloc keys are discarded.
use Rattle.std.specs.Prelude.{ℕ, List, [], Bool, ◌&&◌, eqb, leb, length}
use Rattle.wire.specs.Keys.{Key}
use Rattle.format.specs.Packing.{get}
use Rattle.format.specs.AllocV4.{data_type, need_discard_type}
use Rattle.calls.specs.Lists.{those}
use Rattle.calls.specs.CallList.{Trees}
use Rattle.calls.specs.Discard.{gen_taken, is_discarded}
use Rattle.reader.specs.KeyHere.{key_here}

-- what a discard looks at beside an alloc key: the need-discard keys alone
abbrev pub need_trees : List Key → Trees
need_trees needs = record { alloc = []; lru = []; freespace = []; need_discard = needs; backpointers = []; gens = [] }

-- an alloc value of 56 bytes or more, of a bucket that waits, with a generation that is taken
abbrev pub is_value_taken : List ℕ → Bool
is_value_taken value = leb 56 (length value) && (eqb (get data_type value) need_discard_type && gen_taken value)

-- those of some alloc keys that are discarded, in their order
abbrev pub discarded_from : List Key → List Key → List Key
discarded_from needs alloc = those (is_discarded (need_trees needs)) alloc

-- the places of those of the alloc keys at some places of a list that are discarded, in their order
abbrev pub places_discarded : List Key → List ℕ → List ℕ → List ℕ
places_discarded needs s places = those (λ at. is_discarded (need_trees needs) (key_here s at)) places
