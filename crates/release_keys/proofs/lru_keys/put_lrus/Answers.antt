use Rattle.std.proofs.Common.{◌∙◌, ap, sym, List, ℕ}
use mathlib.Core.List.{flat_map}
use Rattle.wire.specs.Encode.{key_field}
use Rattle.wire.specs.Output.{with_bytes}
use Rattle.change_fields.specs.FieldBytes.{keys_bytes}
use Rattle.change_fields.proofs.FieldLists.{flat-next, flat-none}
use Rattle.release_keys.specs.declared.table.FreedBucket.{FreedBucket}
use Rattle.release_keys.specs.HeldOf.{held_left}
use Rattle.release_keys.specs.Tables.{row_lru}
use Rattle.release_keys.proofs.KeyLaws.{run-put, all-put}
use Rattle.release_keys.proofs.RowLaws.{lrus-are}
use Rattle.release_keys.proofs.lru_keys.put_lrus.Goals as goal

abbrev bytes : ℕ → List ℕ → List FreedBucket → List ℕ
bytes sectors s rows = keys_bytes 10 (flat_map (row_lru sectors s) rows)

pub loop-h-init : goal.loop-h-init
loop-h-init c =
    let t = c.args.table.now.freed in
    let i = c.into_iter-h-iterator.ensures.into_iter_gives in
    let e = ap held_left i ∙ c.iter-h-items.ensures.0 in
    (rw i c.iter-h-items.ensures.1, ap (λ l. with_bytes c.args.out.now (bytes t.read.head.bucket_sectors t.read.alloc.list.now l)) e)

pub loop-h-preserved : goal.loop-h-preserved
loop-h-preserved c =
    let v = c.loop-h.invariant in
    let s = c.in-Some.ensures.steps in
    let h = c.in-Some.h in
    let g = row_lru c.args.table.now.freed.read.head.bucket_sectors c.args.table.now.freed.read.alloc.list.now in
    let w = rw (s.1.1 ∙ v.0.1, s.1.0 ∙ v.0.0) at c.put_bucket_lru.ensures in
    ((s.2.0 ∙ v.0.0, s.2.1 ∙ v.0.1), run-put c.loop-h.out _ _ (flat-next (key_field 10) g s.0) w ∙ v.1)

pub returns : goal.returns
returns c =
    let t = c.args.table.now.freed in
    let g = row_lru t.read.head.bucket_sectors t.read.alloc.list.now in
    sym (all-put c.loop-h.out (flat-none (key_field 10) g c.in-None.ensures.steps)) ∙ c.loop-h.invariant.1
    ∙ ap (λ ks. with_bytes c.args.out.now (keys_bytes 10 ks)) (lrus-are t.tabled)
