use Rattle.std.proofs.Common.{◌≡◌, ◌∙◌, ap, refl, arith}
use Rattle.wire.specs.Numbers.{le_bytes}
use Rattle.wire.proofs.AppendLaws.{bytes_32, bytes_64, low_8}
use Rattle.format.specs.Packing.{store, get}
use Rattle.format.specs.AllocV4.{flags, gen, emptied, emptied_flags, next_gen}
use Rattle.format.proofs.alloc.emptied.Goals as goal

pub returns : goal.returns
unfolding emptied store get le_bytes
returns c =
    let v = c.args.v.now in
    let f : c.emptied_flags-flags.result ≡ emptied_flags (get flags v) = c.emptied_flags-flags.ensures ∙ ap emptied_flags (rw c.as_slice.ensures.gives at c.le32.ensures) in
    let g : c.next_gen-g.result ≡ next_gen (get gen v) = c.next_gen-g.ensures ∙ ap next_gen (rw c.as_slice-2.ensures.gives at c.generation.ensures) in
    rw (
      c.put-7.ensures.stored,
      c.put-6.ensures.stored,
      c.put-5.ensures.stored,
      c.put-4.ensures.stored,
      c.put-3.ensures.stored,
      c.put-2.ensures.stored,
      c.put.ensures.stored,
      c.to_le_bytes.ensures,
      c.to_le_bytes-2.ensures,
      c.to_le_bytes-3.ensures,
      c.number.ensures,
      bytes_32,
      bytes_64,
      ← low_8 c.next_gen-g.result (omega arith),
      f,
      g,
    ) refl
