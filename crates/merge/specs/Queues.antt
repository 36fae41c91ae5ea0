-- What a queue of keys makes of sorted keys, as the code goes about it: the queue's last key at each position, in order, some at a time.
use Rattle.std.specs.Prelude.{Bool, cond, List, [], ◌∷◌, ◌++◌, eqb}
use Rattle.wire.specs.Keys.{Key}
use Rattle.wire.specs.Order.{cmp, pos_less}
use Rattle.wire.specs.declared.bpos.Bpos.{Bpos}
use Rattle.calls.specs.Lists.{in_order}
use Rattle.calls.specs.Trees.{on_eq, upsert}
use Rattle.sorting.specs.Bounds.{Bound, upper, over, under}

-- keys ascend strictly
unfoldable pub ascending : List Key → Bool
ascending ks = in_order (λ a b. pos_less a.pos b.pos) ks

-- a queue's last key at each position, in order of position
unfoldable pub gather_on : List Key → List Key → List Key
gather_on g [] = g
gather_on g (k ∷ ks) = gather_on (upsert k g) ks

abbrev pub gather : List Key → List Key
gather q = gather_on [] q

-- those above a bound
unfoldable pub above : Bound → List Key → List Key
above b [] = []
above b (k ∷ ks) = cond (over b k.pos) (k ∷ above b ks) (above b ks)

-- those in front that are below a bound, and what is left
unfoldable pub below : Bound → List Key → List Key
below b [] = []
below b (x ∷ xs) = cond (under b x.pos) (x ∷ below b xs) []

unfoldable pub beyond : Bound → List Key → List Key
beyond b [] = []
beyond b (x ∷ xs) = cond (under b x.pos) (beyond b xs) (x ∷ xs)

-- without a first key at p
unfoldable pub skip_at : Bpos → List Key → List Key
skip_at p [] = []
skip_at p (x ∷ xs) = on_eq (cmp p x.pos) xs (x ∷ xs)

-- a queued key as it is written: a deletion is not
unfoldable pub shown : Key → List Key
shown k = cond (eqb k.type 0) [] (k ∷ [])

-- what sorted keys g of a queue make of the front of sorted keys, and what is left after the last of them
unfoldable pub front : List Key → List Key → List Key
front [] l = []
front (k ∷ g) l = below (upper k.pos) l ++ (shown k ++ front g (skip_at k.pos (beyond (upper k.pos) l)))

unfoldable pub back : List Key → List Key → List Key
back [] l = l
back (k ∷ g) l = back g (skip_at k.pos (beyond (upper k.pos) l))
