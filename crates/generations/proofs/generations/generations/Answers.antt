use Rattle.std.proofs.Common.{◌≡◌, ap, sym, ◌∙◌, length, rules, None}
use Rattle.wire.specs.Kinds.{buckets_in}
use Rattle.calls.specs.Answers.{generations, generations_outcome}
use Rattle.reader.specs.Readings.{refusal_of}
use Rattle.reader.specs.Refusals.{looked_up_by}
use Rattle.reader.proofs.LendingLaws.{refused-or-read}
use Rattle.generations.proofs.OutcomeLaws.{not-ascending, volume-refused}
use Rattle.generations.proofs.generations.generations.Goals as goal

pub returns-then-not-ascend : goal.returns-then-not-ascend
returns-then-not-ascend c = not-ascending c.args.volume.now _ c.args.out.now (sym c.ascend.ensures ∙ c.if-not-ascend.true)

pub returns : goal.returns
returns c =
    let a = c.args in
    let e = c.with_list.ensures in
    let bs = buckets_in a.buckets.now in
    refused-or-read (refusal_of None a.volume.now)
    (λ l.
    let r = e.refused l in
    ap (looked_up_by c.with_list.result) r.2
    ∙ volume-refused a.volume.now bs a.out.now (sym c.ascend.ensures ∙ c.if-not-ascend.false) c.with_list.result r.0 l)
    (λ z.
    let m = e.answered z in
    let h : looked_up_by c.with_list.result m.out-left.now ≡ generations_outcome (generations m.list.now.list.now bs (length m.out-shown.now)) m.out-shown.now = search rules in
    rw (← m.is_of, ← m.out-shows, ← m.out-leaves) h)
