-- `need_discards::put_need_discards` meets its contract.
use Rattle.std.proofs.Common.{◌∙◌, sym, arith, map, List, ℕ}
use Rattle.wire.proofs.AppendLaws.{loop-turn, loop-end}
use Rattle.wire.proofs.EncodeLaws.{encode-none, encode-next}
use Rattle.calls.specs.Lru.{need_discard_key}
use Rattle.change_fields.specs.FieldBytes.{keys_bytes}
use Rattle.release_keys.specs.Emptied.{emptied_buckets}
use Rattle.release_keys.specs.declared.freed_buckets.EmptiedBucket.{EmptiedBucket}
use Rattle.release_keys.proofs.GenRecordLaws.{no_emptied}
use Rattle.release_keys.proofs.KeyLaws.{wait-is}
use Rattle.release_keys.proofs.need_discards.put_need_discards.Goals as goal

abbrev bytes : ℕ → List EmptiedBucket → List ℕ
bytes journal rows = keys_bytes 12 (map (need_discard_key journal) (emptied_buckets rows))

pub loop-e-preserved : goal.loop-e-preserved
loop-e-preserved c =
    loop-turn (bytes c.args.journal) c.args.emptied.now c.loop-e.e-index no_emptied _ c.loop-e.out c.put_new_key.new.out (omega arith) (encode-next _ _) (rw (c.tag.ensures, c.number.ensures, wait-is c.args.journal _ _ c.need_discard_at.ensures) at c.put_new_key.ensures)
    ∙ c.loop-e.invariant

pub returns : goal.returns
returns c = sym (loop-end (bytes c.args.journal) c.args.emptied.now c.loop-e.e-index c.loop-e.out (omega arith) encode-none) ∙ c.loop-e.invariant
