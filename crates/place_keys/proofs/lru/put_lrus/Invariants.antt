-- The loop's invariant: what is left are the keys from index i on, and the root is wanted so far, or by one of their buckets.
use Rattle.std.proofs.Common.{◌≡◌, map, drop, length, ◌||◌, List}
use mathlib.Core.List.{flat_map}
use Rattle.std.specs.Int.NonZero.{non_zero_u64_get}
use Rattle.wire.specs.Output.{with_bytes}
use Rattle.calls.specs.Extents as calls
use Rattle.calls.specs.Lru.{lru_keys, lru_wanted}
use Rattle.calls.specs.Place.{dirty_in}
use Rattle.change_fields.specs.FieldBytes.{keys_bytes}
use Rattle.place_keys.specs.Plan.{Dirty}
use Rattle.place_keys.proofs.lru.put_lrus.Given as goal

abbrev pub invariant-loop-b : goal.invariant-loop-b
invariant-loop-b l =
    (ps : List calls.Placed) → Dirty ps l.taken l.dirty
    → (with_bytes l.out (keys_bytes 10 (flat_map (λ b. lru_keys (non_zero_u64_get l.sectors) b (dirty_in ps b)) (drop (length l.yielded) l.taken)))
    ≡ with_bytes l.fn.out (keys_bytes 10 (flat_map (λ b. lru_keys (non_zero_u64_get l.sectors) b (dirty_in ps b)) l.taken)))
    × ((l.root_wanted || lru_wanted (non_zero_u64_get l.sectors) (map (dirty_in ps) (drop (length l.yielded) l.taken))) ≡ lru_wanted (non_zero_u64_get l.sectors) (map (dirty_in ps) l.taken))
