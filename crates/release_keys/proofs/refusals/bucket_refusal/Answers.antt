use Rattle.std.proofs.Common.{◌≤◌, ◌∙◌, ap, sym, arith, length}
use Rattle.std.proofs.lemmas.Result.{err_from_is_err_and}
use Rattle.format.specs.Packing.{get}
use Rattle.format.specs.AllocV4.{dirty_sectors}
use Rattle.calls.specs.Generations.{gen_short}
use Rattle.reader.specs.KeyHere.{key_here}
use Rattle.release_keys.proofs.RefusalLaws.{key-some, key-none, row-15, row-16, row-17, row-18, row-19, row-room, row-kept}
use Rattle.release_keys.proofs.refusals.bucket_refusal.Goals as goal
use Rattle.release_keys.proofs.refusals.bucket_refusal.Goals.{else-dirty-f-2-via-then-dirty-f-2+else-gen_short, else-dirty-f-2-via-else-dirty-f-2}

pub returns-in_err-key : goal.returns-in_err-key
returns-in_err-key c =
    let z = key-none _ c.key.ensures.key c.ok_or.ensures.ok_part c.ok_or.ensures.value c.in_err-key.was in
    let p = err_from_is_err_and c.from_residual.result c.from_residual.ensures.1 in
    rw (p.1, p.2 ∙ z.0) (sym (row-15 c.requires.0 z.1))

pub key-requires : goal.key-requires
key-requires c = c.requires.0.key.whole

pub returns-then-value-lt56 : goal.returns-then-value-lt56
returns-then-value-lt56 c =
    let k = key-some _ c.key.ensures.key c.ok_or.ensures.ok_part c.in_ok-key.was in
    sym (row-16 c.requires.0 c.in_ok-key.key.at k.1 (omega (arith, ap length (rw k.0 at c.value-value.ensures))))

pub returns-then-read-dirty : goal.returns-then-read-dirty
returns-then-read-dirty c =
    let k = key-some _ c.key.ensures.key c.ok_or.ensures.ok_part c.in_ok-key.was in
    let e = rw k.0 at c.value-value.ensures in
    let long : 56 ≤ length (key_here c.args.read.now.alloc.list.now c.in_ok-key.key.at).value = omega (arith, ap length e) in
    let d = c.dirty_sectors-dirty.ensures ∙ ap (get dirty_sectors) e in
    sym (row-17 c.requires.0 c.in_ok-key.key.at k.1 long (omega (arith, d)))

pub returns-then-dirty-f : goal.returns-then-dirty-f
returns-then-dirty-f c =
    let k = key-some _ c.key.ensures.key c.ok_or.ensures.ok_part c.in_ok-key.was in
    let e = rw k.0 at c.value-value.ensures in
    let long : 56 ≤ length (key_here c.args.read.now.alloc.list.now c.in_ok-key.key.at).value = omega (arith, ap length e) in
    let d = c.dirty_sectors-dirty.ensures ∙ ap (get dirty_sectors) e in
    sym (row-18 c.requires.0 c.in_ok-key.key.at k.1 long (omega (arith, d)) (omega (arith, d)))

pub returns-then-gen_short : goal.returns-then-gen_short
returns-then-gen_short c =
    let k = key-some _ c.key.ensures.key c.ok_or.ensures.ok_part c.in_ok-key.was in
    let e = rw k.0 at c.value-value.ensures in
    let long : 56 ≤ length (key_here c.args.read.now.alloc.list.now c.in_ok-key.key.at).value = omega (arith, ap length e) in
    let d = c.dirty_sectors-dirty.ensures ∙ ap (get dirty_sectors) e in
    sym (row-19 c.requires.0 c.in_ok-key.key.at k.1 long (omega (arith, d)) (sym d ∙ c.if-dirty-f-2.true) (sym (c.gen_short.ensures ∙ ap (λ gens. gen_short gens c.args.f.bucket) c.requires.1) ∙ c.if-gen_short.true))

pub returns : goal.returns
returns c =
    let k = key-some _ c.key.ensures.key c.ok_or.ensures.ok_part c.in_ok-key.was in
    let e = rw k.0 at c.value-value.ensures in
    let long : 56 ≤ length (key_here c.args.read.now.alloc.list.now c.in_ok-key.key.at).value = omega (arith, ap length e) in
    let d = c.dirty_sectors-dirty.ensures ∙ ap (get dirty_sectors) e in
    elim c.else-dirty-f-2.branch [
      | else-dirty-f-2-via-then-dirty-f-2+else-gen_short w ↦
          sym (row-room c.requires.0 c.in_ok-key.key.at k.1 long (omega (arith, d)) (sym d ∙ w.if-dirty-f-2.true) (sym (w.gen_short.ensures ∙ ap (λ gens. gen_short gens c.args.f.bucket) c.requires.1) ∙ w.if-gen_short.false))
      | else-dirty-f-2-via-else-dirty-f-2 w ↦
          sym (row-kept c.requires.0 c.in_ok-key.key.at k.1 long (omega (arith, d)) (omega (arith, d)) (λ z. w.if-dirty-f-2.false (d ∙ z)))
    ]
