-- One stretch more, or the end.
use Rattle.std.proofs.Common.{◌≡◌, ◌-◌, ℕ, List, take, drop, length, length-drop, arith}
use lib.Seq.{take_all}
use Rattle.wire.proofs.NumberLaws.{all_drop}
use Rattle.merge.proofs.SectionLaws.{writing-on, writing-end, writing-out}
use Rattle.merge.proofs.below.Rest.put_below.Goals as goal

-- the keys from an index on
keys-left : (l : List ℕ) (n : ℕ) → take (length l - n) (drop n l) ≡ drop n l
keys-left l n = take_all (length l - n) (drop n l) (omega (arith, length-drop n l))

pub returns-in_default-pass_below : goal.returns-in_default-pass_below
returns-in_default-pass_below c =
    let e = c.in_default-pass_below.ensures in
    writing-end _ _ _ _ c.loop-self.invariant.0 e.0 e.1

pub loop-self-preserved : goal.loop-self-preserved
loop-self-preserved c =
    let e = keys-left c.loop-self.self-inside.keys.now c.in-Some.s.n in (
      writing-on _ _ _ _ c.loop-self.invariant.0 c.in-Some.ensures c.put_slice.ensures e,
      rw e (all_drop _ c.loop-self.invariant.1),
    )

pub returns : goal.returns
returns c = writing-out _ _ _ _ c.loop-self.invariant.0 (omega arith)
