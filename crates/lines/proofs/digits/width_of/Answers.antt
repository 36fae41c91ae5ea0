use Rattle.lines.proofs.DigitLaws.{width-by}
use Rattle.lines.proofs.digits.width_of.Goals as goal

pub returns : goal.returns
returns c =
    let e = c.checked_ilog10.ensures in
    rw c.unwrap_or.ensures (width-by c.args.n c.checked_ilog10.result e.none e.power_le e.next_power_gt e.bound)
