-- A list that was read has the places of the fields of its sorted form behind field 1, in their order.
use mathlib.Core.List.{append-nil}
use Prim.Native.Nat.{ℕ}
use Rattle.wire.specs.Fields.{fields}
use Rattle.calls.proofs.encoding.Blocks.{flat}
use Rattle.reader.specs.Readings.{Read}
use Rattle.reader.specs.declared.read_list.ReadList.{ReadList}
use Rattle.sort.proofs.TableBytes.{Standing, standing-tag, standing-on}
use Rattle.sort.proofs.FormBlocks.{table_blocks}

pub table-stands : {call : ℕ} {r : ReadList} → Read call r → Standing r.list.now r.places.now (flat (table_blocks call (fields r.list.now)))
unfolding flat
table-stands {call} {r} q =
    rw (q.places, append-nil)
    (standing-on (standing-tag q.bytes q.alloc.places)
    (standing-on (standing-tag q.bytes q.lru.places)
    (standing-on (standing-tag q.bytes q.freespace.places)
    (standing-on (standing-tag q.bytes q.need_discard.places)
    (standing-on (standing-tag q.bytes q.backpointers.places)
    (standing-on (standing-tag q.bytes q.gens.places) (standing-on (standing-tag q.bytes q.reserved.places) (standing-tag q.bytes q.requests))))))))
