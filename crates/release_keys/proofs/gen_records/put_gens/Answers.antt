-- `gen_records::put_gens` meets its contract.
use Rattle.release_keys.proofs.GenRecordLaws.{range_at, generation-at, queue-starts, queue-turn, queue-ends}
use Rattle.release_keys.proofs.gen_records.put_gens.Goals as goal

pub loop-e-init : goal.loop-e-init
loop-e-init c = λ generation_of e. queue-starts _ generation_of _ _

pub next_record-key-requires : goal.next_record-key-requires
next_record-key-requires c = range_at c.args.emptied.now c.requires.0 c.loop-e.e-index c.loop-e-test.true

pub loop-e-preserved : goal.loop-e-preserved
loop-e-preserved c =
    let n = c.next_record-key in
    λ generation_of e.
    queue-turn (c.loop-e.invariant generation_of e) c.requires.1 c.loop-e-test.true _ n.result (generation-at generation_of c.args.emptied.now c.loop-e.e-index c.loop-e-test.true e) n.ensures (rw c.tag.ensures at c.put_key.ensures)

pub returns : goal.returns
returns c generation_of e = queue-ends (c.loop-e.invariant generation_of e) c.loop-e-test.false
