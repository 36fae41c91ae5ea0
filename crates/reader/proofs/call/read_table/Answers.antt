use Rattle.std.proofs.Common.{Option, Result, sym, refl, ◌∙◌, ap, rules}
use Rattle.std.proofs.lemmas.Result.{err_from_is_err_and}
use Rattle.std.specs.Option.{ok_or}
use Rattle.reader.specs.Refusals.{number_in}
use Rattle.reader.specs.declared.survey.Laid.{Laid}
use Rattle.reader.specs.declared.refusal.Refusal.{Refusal}
use Rattle.reader.specs.declared.refusal.Refusal.TheVariants.{Layout}
use Rattle.reader.proofs.ListRefusalLaws.{broken}
use Rattle.reader.proofs.ReadLaws.{past-asked, read_past, table_fits, table-sortable, read-ordered, read_twice, read-sorted}
use Rattle.reader.proofs.call.read_table.Goals as goal

pub returns-in_err-laid : goal.returns-in_err-laid
returns-in_err-laid c =
    let p = err_from_is_err_and c.from_residual.result c.from_residual.ensures.1 in
    let none = c.in_err-laid.ensures.ok_part in
    let layout = ap (λ (r : Result Laid Refusal). number_in r) (c.in_err-laid.ensures.value ∙ ap (λ (o : Option Laid). ok_or o Layout) none) in
    rw (p.1, p.2, layout) (broken _ _ _ (c.survey_asked.ensures.broken none))

pub read_head-first-requires : goal.read_head-first-requires
read_head-first-requires c = (c.survey_asked.ensures.found _ c.in_ok-laid.ensures.ok_part).inside

pub past_refusal-requires : goal.past_refusal-requires
past_refusal-requires c = past-asked (c.survey_asked.ensures.found _ c.in_ok-laid.ensures.ok_part) _ c.read_head-first.ensures

pub returns-in_default : goal.returns-in_default
returns-in_default c =
    read_past (c.survey_asked.ensures.found _ c.in_ok-laid.ensures.ok_part) _ c.read_head-first.ensures _ (sym c.counts_within.ensures ∙ c.in_default.is) c.past_refusal.ensures

pub ends_of-ends-requires : goal.ends_of-ends-requires
ends_of-ends-requires c =
    table_fits (c.survey_asked.ensures.found _ c.in_ok-laid.ensures.ok_part) _ c.read_head-first.ensures (sym c.counts_within.ensures ∙ c.in-Some.is)

pub returns-then-laid : goal.returns-then-laid
returns-then-laid c =
    read-ordered (c.survey_asked.ensures.found _ c.in_ok-laid.ensures.ok_part) _ c.read_head-first.ensures (sym c.counts_within.ensures ∙ c.in-Some.is) _
    c.ends_of-ends.ensures c.if-laid.true

pub sort_table-requires : goal.sort_table-requires
sort_table-requires c =
    table-sortable (c.survey_asked.ensures.found _ c.in_ok-laid.ensures.ok_part) _ c.read_head-first.ensures (sym c.counts_within.ensures ∙ c.in-Some.is) _
    c.ends_of-ends.ensures

pub returns-in_err-sort_table : goal.returns-in_err-sort_table
returns-in_err-sort_table c =
    let p = err_from_is_err_and c.from_residual-in_err-sort_table.result c.from_residual-in_err-sort_table.ensures.1 in
    rw (p.1, p.2)
    (read_twice (c.survey_asked.ensures.found _ c.in_ok-laid.ensures.ok_part) _ c.read_head-first.ensures (sym c.counts_within.ensures ∙ c.in-Some.is)
    _ refl c.in_err-sort_table.ensures)

pub returns : goal.returns
returns c =
    read-sorted (c.survey_asked.ensures.found _ c.in_ok-laid.ensures.ok_part) _ c.read_head-first.ensures (sym c.counts_within.ensures ∙ c.in-Some.is) _
    c.ends_of-ends.ensures (search rules) _ refl c.in_ok-sort_table.ensures
