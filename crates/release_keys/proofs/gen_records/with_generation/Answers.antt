-- `gen_records::with_generation` meets its contract.
use Rattle.std.proofs.Common.{ap, sym, arith, length, List, ℕ}
use Rattle.wire.specs.Held.{key_in}
use Rattle.calls.specs.Trees.{with_value}
use Rattle.release_keys.proofs.GenRecordLaws.{generation-past}
use Rattle.release_keys.proofs.gen_records.with_generation.Goals as goal

pub returns-else-gens_byte-as_slice : goal.returns-else-gens_byte-as_slice
returns-else-gens_byte-as_slice c =
    let k = c.args.k in
    ap (λ (l : List ℕ). with_value (key_in k) l) (sym (generation-past c.args.e.bucket c.args.e.generation k.value (omega (arith, c.gens_byte.ensures, ap (λ (l : List ℕ). length l) c.as_slice.ensures.gives))))
