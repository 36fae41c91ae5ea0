use Rattle.std.proofs.Common.{◌∙◌, ap, sym, map, List, ℕ}
use Rattle.wire.specs.Encode.{key_field}
use Rattle.wire.specs.Output.{with_bytes}
use Rattle.change_fields.specs.FieldBytes.{keys_bytes}
use Rattle.change_fields.proofs.FieldLists.{fields-next, fields-none}
use Rattle.release_keys.specs.declared.table.FreedBucket.{FreedBucket}
use Rattle.release_keys.specs.HeldOf.{held_left}
use Rattle.release_keys.specs.Tables.{freed_key}
use Rattle.release_keys.proofs.KeyLaws.{run-put, all-put}
use Rattle.release_keys.proofs.RowLaws.{keys-are, rows-held}
use Rattle.release_keys.proofs.alloc_keys.put_allocs.Goals as goal

abbrev bytes : ℕ → List ℕ → List FreedBucket → List ℕ
bytes journal s rows = keys_bytes 4 (map (freed_key journal s) rows)

pub loop-h-init : goal.loop-h-init
loop-h-init c =
    let t = c.args.table.now.freed in
    let i = c.into_iter-h-iterator.ensures.into_iter_gives in
    let e = ap held_left i ∙ c.iter-h-items.ensures.0 in
    (rw i c.iter-h-items.ensures.1, ap (λ l. with_bytes c.args.out.now (bytes t.read.head.journal t.read.alloc.list.now l)) e)

pub loop-h-preserved : goal.loop-h-preserved
loop-h-preserved c =
    let v = c.loop-h.invariant in
    let s = c.in-Some.ensures.steps in
    let g = freed_key c.args.table.now.freed.read.head.journal c.args.table.now.freed.read.alloc.list.now in
    let w = rw (c.tag.ensures, c.freed_key.ensures, c.read.ensures, s.1.0 ∙ v.0.0) at c.put_key.ensures in
    ((s.2.0 ∙ v.0.0, s.2.1 ∙ v.0.1), run-put c.loop-h.out _ _ (fields-next (key_field 4) (ap (map g) s.0)) w ∙ v.1)

pub returns : goal.returns
returns c =
    let t = c.args.table.now.freed in
    let g = freed_key t.read.head.journal t.read.alloc.list.now in
    sym (all-put c.loop-h.out (fields-none (key_field 4) (ap (map g) c.in-None.ensures.steps))) ∙ c.loop-h.invariant.1
    ∙ ap (λ ks. with_bytes c.args.out.now (keys_bytes 4 ks)) (keys-are t.tabled (rows-held t.tabled c.args.table.now.none_refuses))
