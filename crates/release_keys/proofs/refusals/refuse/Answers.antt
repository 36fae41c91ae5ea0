use Rattle.std.proofs.Common.{◌∙◌, ap, sym, drop_of_length-le}
use Rattle.std.proofs.lemmas.Result.{err_from_is_err_and}
use Rattle.calls.specs.Release.{bucket_refusal}
use Rattle.calls.proofs.answers.RefusalLaws.{verdict-map-stop, verdict-map-next, verdict-map-none}
use Rattle.reader.proofs.NumberLaws.{refused-some}
use Rattle.release_keys.specs.Given.{volume_in, requests_in}
use Rattle.release_keys.specs.Tables.{row_buckets}
use Rattle.release_keys.proofs.RowLaws.{rows-next, rows-verdict}
use Rattle.release_keys.proofs.refusals.refuse.Goals as goal

pub bucket_refusal-requires : goal.bucket_refusal-requires
bucket_refusal-requires c = (c.args.table.now.tabled.at c.loop-f.f-index c.loop-f-test.true, c.requires)

pub returns-in_err-bucket_refusal : goal.returns-in_err-bucket_refusal
returns-in_err-bucket_refusal c =
    let t = c.args.table.now in
    let p = err_from_is_err_and c.from_residual.result c.from_residual.ensures.1 in
    let h = c.in_err-bucket_refusal.ensures in
    let next = ap row_buckets (rows-next t.buckets.now c.loop-f.f-index c.loop-f-test.true) in
    rw (p.1, p.2)
    (h ∙ sym (verdict-map-stop (bucket_refusal (volume_in t.read) (requests_in t.read)) next (λ z. refused-some c.in_err-bucket_refusal.field-0.0 (h ∙ z))) ∙ c.loop-f.invariant ∙ rows-verdict t.tabled)

pub loop-f-preserved : goal.loop-f-preserved
loop-f-preserved c =
    let t = c.args.table.now in
    let next = ap row_buckets (rows-next t.buckets.now c.loop-f.f-index c.loop-f-test.true) in
    sym (verdict-map-next (bucket_refusal (volume_in t.read) (requests_in t.read)) next (sym c.in_ok-bucket_refusal.ensures)) ∙ c.loop-f.invariant

pub returns : goal.returns
returns c =
    let t = c.args.table.now in
    sym (verdict-map-none (bucket_refusal (volume_in t.read) (requests_in t.read)) (ap row_buckets (drop_of_length-le t.buckets.now c.loop-f-test.false))) ∙ c.loop-f.invariant ∙ rows-verdict t.tabled
