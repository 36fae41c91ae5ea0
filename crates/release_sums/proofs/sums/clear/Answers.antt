-- `sums::clear` meets its contract.
use Rattle.std.proofs.Common.{ap, ◌∙◌, ◌++◌, drop, replicate, ℕ, List, length-take-le}
use Rattle.release_sums.proofs.sums.clear.Goals as goal

pub returns : goal.returns
returns c =
    ap (λ (l : List ℕ). l ++ drop 65536 c.args.sums.now)
    (c.fill.ensures.after (λ y h. h) ∙ ap (λ (n : ℕ). replicate n 0) (length-take-le 65536 c.args.sums.now c.requires))
