use Rattle.std.proofs.Common.{ℕ, pos, ◌∷◌, arith, ap, ◌∙◌}
use lib.Signed.{◌<ℤ◌, ◌≤ℤ◌}
use mir.Syntax.{w64}
use Rattle.std.specs.Int.RustNames.{unsigned_abs}
use Rattle.std.proofs.lemmas.Int.{ints, to_z-of_z}
use Rattle.wire.specs.declared.output.Output.{Output}
use Rattle.wire.specs.Output.{with_bytes}
use Rattle.wire.proofs.AppendLaws.{then}
use Rattle.lines.specs.Digits.{decimal}
use Rattle.lines.proofs.DigitLaws.{signed-plus, signed-minus}
use Rattle.lines.proofs.digits.put_signed.Goals as goal
use Rattle.lines.proofs.digits.put_signed.Goals.{then-n-lt0, else-n-lt0}

pub returns : goal.returns
returns c =
    let n = c.args.n in
    let m = c.unsigned_abs.ensures.value ∙ ap unsigned_abs (to_z-of_z w64 n c.ranges.n) in
    elim c.if-n-lt0.branch [
      | then-n-lt0 w ↦
          let below : n <ℤ pos 0 = omega (arith, ints) in
          then _ _ _ (w.out-is ∙ w.put_u8.ensures) c.put_decimal.ensures
          ∙ ap (with_bytes c.args.out.now) (ap (λ (k : ℕ). 45 ∷ decimal k) m ∙ signed-minus n c.ranges.n below)
      | else-n-lt0 w ↦
          let from : pos 0 ≤ℤ n = omega (arith, ints) in
          c.put_decimal.ensures ∙ ap (λ (o : Output). with_bytes o (decimal c.unsigned_abs.result)) w.out-is
          ∙ ap (with_bytes c.args.out.now) (ap decimal m ∙ signed-plus n c.ranges.n from)
    ]
