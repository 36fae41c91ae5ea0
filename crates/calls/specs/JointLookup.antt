-- FORMAT.md, "Generations of many buckets": one walk over the keys of tree 14, in their order, for a list of buckets.
use Rattle.std.specs.Prelude.{ℕ, List, [], ◌∷◌, map, cond, length}
use Rattle.wire.specs.Keys.{Key}
use Rattle.wire.specs.Order.{pos_less}
use Rattle.wire.specs.Positions.{gens_at}
use Rattle.wire.specs.declared.bpos.Bpos.{Bpos}
use Rattle.wire.specs.declared.kinds.Bucket.{Bucket}
use Rattle.calls.specs.Lists.{last_or}
use Rattle.calls.specs.Generations.{gen_of}

-- the keys up to and with the first past a position
unfoldable pub up_to_past : Bpos → List Key → List Key
up_to_past p [] = []
up_to_past p (k ∷ ks) = k ∷ cond (pos_less p k.pos) [] (up_to_past p ks)

-- the keys that the walk visits: it ends with the first past the last bucket's record, and visits none for no buckets
unfoldable pub keys_visited : List Key → List Bucket → List Key
keys_visited gens [] = []
keys_visited gens (b ∷ bs) = up_to_past (gens_at (last_or b bs)) gens

-- What it tells: the generation of each bucket, as the keys visited have it, and how many these are.
pub record JointLookup : Type 0 where
  pub generations : List ℕ
  pub visited : ℕ

unfoldable pub joint_lookup : List Key → List Bucket → JointLookup
joint_lookup gens bs =
    let ks = keys_visited gens bs in record { generations = map (gen_of ks) bs; visited = length ks }
