-- A generation record that is queued for an emptied bucket.
use Rattle.std.specs.Prelude.{cond, List, Option, None, Some}
use Rattle.wire.specs.Keys.{Key}
use Rattle.wire.specs.Held.{key_in}
use Rattle.wire.specs.Order.{pos_same}
use Rattle.wire.specs.Positions.{gens_at}
use Rattle.wire.specs.declared.keys.Bkey.{Bkey}
use Rattle.wire.specs.declared.kinds.Bucket.{Bucket}
use Rattle.format.specs.Gens.{with_gen}
use Rattle.calls.specs.Generations.{gen_key}
use Rattle.calls.specs.Trees.{with_value}
use Rattle.release_keys.specs.declared.freed_buckets.EmptiedBucket.{EmptiedBucket}

-- the record that a bucket's continues: the last one queued where it stands at the same place, or the one of the tree
abbrev pub continued : List Key → Option Bkey → Bucket → Key
continued gens None b = gen_key gens b
continued gens (Some last) b = cond (pos_same last.head.pos (gens_at b)) (key_in last) (gen_key gens b)

-- the next one queued: that record with the bucket's generation
abbrev pub next_queued : List Key → Option Bkey → EmptiedBucket → Key
next_queued gens last e = with_value (continued gens last e.bucket) (with_gen e.bucket e.generation (continued gens last e.bucket).value)
