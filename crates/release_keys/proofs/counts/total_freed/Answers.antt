use Rattle.std.proofs.Common.{rules, tests, ◌<◌, ◌∙◌, ap, arith}
use Rattle.std.specs.List.{sum_by}
use Rattle.std.proofs.lemmas.Iterator.{YieldsList-from_map}
use Rattle.std.proofs.lemmas.Iterator.Consumers.{YieldsList-from_first, sum_by_from_yields_List, fits_by_from_yields_list}
use Rattle.calls.specs.CallList.{Freed}
use Rattle.release_sums.specs.Freeds.{freed_held}
use Rattle.release_sums.specs.FreedsOf.{freeds_left}
use Rattle.release_keys.specs.Given.{requests_in}
use Rattle.release_keys.proofs.CountLaws.{sum-total, total-most}
use Rattle.release_keys.proofs.counts.total_freed.Goals as goal

pub sum-requires-clause-fits : goal.sum-requires-clause-fits
sum-requires-clause-fits c =
    let t = c.args.table.now in
    let rs = requests_in t.read in
    let p = t.checked in
    let few : sum_by (λ (x : Freed). x.sectors) rs < 18446744073709551616 =
    omega (arith, sum-total (λ (x : Freed). x.sectors) rs, total-most t.read.head.bucket_sectors rs p.checked, p.requested.count, p.few) in
    fits_by_from_yields_list (λ (x : Freed). x.sectors) rs _ _
    (YieldsList-from_map _ (λ (x : Freed). x.sectors) (YieldsList-from_first freed_held freeds_left rs (ap freeds_left c.map.ensures.source ∙ c.iter.ensures ∙ c.freeds.ensures)) c.map.ensures.closure (λ x r q k. search (rules, tests)))
    few

pub returns : goal.returns
returns c =
    let t = c.args.table.now in
    let rs = requests_in t.read in
    let p = t.checked in
    let e = sum_by_from_yields_List (λ (x : Freed). x.sectors) rs _ c.sum.result c.sum.ensures.ran
    (YieldsList-from_map _ (λ (x : Freed). x.sectors) (YieldsList-from_first freed_held freeds_left rs (ap freeds_left c.map.ensures.source ∙ c.iter.ensures ∙ c.freeds.ensures)) c.map.ensures.closure (λ x r q k. search (rules, tests)))
    ∙ sum-total (λ (x : Freed). x.sectors) rs in
    (omega (arith, e, total-most t.read.head.bucket_sectors rs p.checked, p.requested.count, p.few), e)
