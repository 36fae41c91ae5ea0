-- No key, the first at pos, or another.
use Rattle.std.proofs.Common.{◌≡◌, ◌∙◌, ap, sym, arith, List, ℕ, ◌-◌, length, drop, take, length-drop}
use lib.Seq.{take_all}
use Rattle.wire.specs.Keys.{Key}
use Rattle.sorting.specs.EntryPlaces.{entries_at}
use Rattle.merge.specs.Merging.{Left}
use Rattle.merge.proofs.MergeLaws.{skip-none, skip-it, skip-other}
use Rattle.merge.proofs.below.Rest.skip_at.Goals as goal

-- the same section and count, with other keys
same : (t n : ℕ) {ks ls : List Key} → ks ≡ ls → ◌≡◌ {A = Left} (record { section = t; keys = ks; count = n }) (record { section = t; keys = ls; count = n })
same t n e = ap (λ (k : List Key). record { section = t; keys = k; count = n }) e

pub returns-in_default : goal.returns-in_default
returns-in_default c = rw (← c.self.view_is) (same _ _ (sym (skip-none _ _ _ _ (omega arith))))

pub returns-then-pos_same : goal.returns-then-pos_same
returns-then-pos_same c =
    let i = c.self.inside in
    let e : take (length i.keys.now - 1) (drop 1 i.keys.now) ≡ drop 1 i.keys.now =
    take_all (length i.keys.now - 1) (drop 1 i.keys.now) (omega (arith, length-drop 1 i.keys.now)) in
    rw (← c.self.view_is)
    (same _ _
    (ap (entries_at i.section i.vol.now) e
    ∙ sym (skip-it _ _ _ _ (omega arith) (cc (c.pos.ensures, c.pos_same.ensures, c.if-pos_same.true)))))

pub returns-else-pos_same : goal.returns-else-pos_same
returns-else-pos_same c =
    rw (← c.self.view_is)
    (same _ _ (sym (skip-other _ _ _ _ (omega arith) (cc (c.pos.ensures, c.pos_same.ensures, c.if-pos_same.false)))))
