-- The loop of `need_discards::put_need_discards`.
use Rattle.std.proofs.Common.{◌≡◌, drop, map}
use Rattle.wire.specs.Output.{with_bytes}
use Rattle.calls.specs.Lru.{need_discard_key}
use Rattle.change_fields.specs.FieldBytes.{keys_bytes}
use Rattle.release_keys.specs.Emptied.{emptied_buckets}
use Rattle.release_keys.proofs.need_discards.put_need_discards.Given as goal

abbrev pub invariant-loop-e : goal.invariant-loop-e
invariant-loop-e l =
    with_bytes l.out (keys_bytes 12 (map (need_discard_key l.journal) (emptied_buckets (drop l.e-index l.emptied))))
    ≡ with_bytes l.fn.out (keys_bytes 12 (map (need_discard_key l.journal) (emptied_buckets l.emptied)))
