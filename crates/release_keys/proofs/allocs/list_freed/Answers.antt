use Rattle.std.proofs.Common.{arith, ap, sym, refl, ◌∙◌, drop}
use Rattle.release_sums.specs.SumsLeft.{sums_from}
use Rattle.release_sums.proofs.ClearLaws.{cleared}
use Rattle.release_keys.specs.Given.{volume_in, requests_in}
use Rattle.release_keys.proofs.AllocLaws.{sums-up, sums-few, tables-listed, all-taken}
use Rattle.release_keys.proofs.allocs.list_freed.Goals as goal

pub list_sums-n-requires-clause-sums : goal.list_sums-n-requires-clause-sums
list_sums-n-requires-clause-sums c =
    let p = c.requires.0 in
    let g = c.args.read in
    let m = rw (c.of.ensures, c.requires.2) at c.add_up.ensures.summed in
    let few = sums-few (volume_in g) (requests_in g) m.0 p.checked in
    rw m.2 (omega (arith, few, p.requested.count, p.few), sums-up (volume_in g) (requests_in g) m.0 p.checked)

pub invariant_of-result : goal.invariant_of-result
invariant_of-result c =
    let p = c.requires.0 in
    let g = c.args.read in
    let m = rw (c.of.ensures, c.requires.2) at c.add_up.ensures.summed in
    let l = c.list_sums-n.ensures.listed in
    record {
      same_sectors = c.requires.2;
      checked = p;
      tabled = tables-listed (volume_in g) (requests_in g) m.0 p.checked g.alloc.list.now _ (l.0 ∙ ap (λ n. sums_from n c.add_up.new.self.sums.now) m.2) l.1;
    }

pub invariant_of-scratch : goal.invariant_of-scratch
invariant_of-scratch c =
    let t = c.list_sums-n.ensures.table in
    let name = t.0.0 ∙ c.add_up.ensures.same_reference ∙ c.new-sums.ensures.same_reference in
    let past = t.0.1 ∙ c.add_up.ensures.summed.1 ∙ ap (drop 65536) c.new-sums.ensures.same_sums in
    record {
      cleared = cleared c.args.scratch.now.sums.now _ c.args.scratch.now.cleared.long (c.lent-2-1.given.1.1 (sym name) ∙ all-taken c.list_sums-n.new.sums.sums.now c.args.scratch.now.sums.now t.1 past);
    }

pub returns-clause-tabled : goal.returns-clause-tabled
returns-clause-tabled c =
    let t = c.list_sums-n.ensures.table in
    let name = t.0.0 ∙ c.add_up.ensures.same_reference ∙ c.new-sums.ensures.same_reference in
    let past = t.0.1 ∙ c.add_up.ensures.summed.1 ∙ ap (drop 65536) c.new-sums.ensures.same_sums in
    (refl, c.lent-2-1.given.1.1 (sym name) ∙ all-taken c.list_sums-n.new.sums.sums.now c.args.scratch.now.sums.now t.1 past)
