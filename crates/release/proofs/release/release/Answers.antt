-- `release::release` meets its contract.
use Rattle.std.proofs.Common.{◌≡◌, ◌≤◌, ◌∙◌, ap, sym, arith, length, rules, Some, List, ℕ}
use Rattle.calls.specs.Answers.{Answer, release, outcome, scratch_after}
use Rattle.reader.specs.Refusals.{made_by}
use Rattle.reader.specs.Readings.{refusal_of}
use Rattle.reader.proofs.LendingLaws.{refused-or-read, moved, list-answered}
use Rattle.release_sums.specs.Summing.{Cleared}
use Rattle.release_sums.proofs.ClearLaws.{cleared, cleared-length}
use Rattle.release.proofs.ReadLaws.{release-refused, cleared-after, scratch-long}
use Rattle.release.proofs.release.release.Goals as goal

pub with_list-requires : goal.with_list-requires
with_list-requires c =
    record {
      callable = λ r t o q e k x.
          let ready : Cleared t.now = rw k (cleared c.args.scratch.now _ (omega arith) c.clear.ensures) in
          search rules;
    }

pub returns : goal.returns
returns c =
    let a = c.args in
    let e = c.with_list.ensures in
    let l : 65536 ≤ length a.scratch.now = omega arith in
    let n = cleared-length a.scratch.now _ l c.clear.ensures in
    let by : List ℕ → ℕ → Answer = λ s room. release s (length a.scratch.now) room in (
      list-answered by (Some c.number.result) c.with_list.result e.refused (rw c.number.ensures (release-refused a.list.now (length a.scratch.now) (length a.out.now) l))
          (λ z.
          let m = e.answered z in
          let h : (made_by c.with_list.result m.out-left.now ≡ outcome (release m.list.now.list.now (length m.scratch-shown.now) (length m.out-shown.now)) m.out-shown.now)
          × (m.scratch-left.now ≡ scratch_after m.scratch-shown.now) = search rules in
          let k : length m.scratch-shown.now ≡ length a.scratch.now = ap length m.scratch-shows ∙ n in
          moved by c.with_list.result m.is_of m.out-shows m.out-leaves (rw k at h.0)),
      refused-or-read (refusal_of (Some c.number.result) a.list.now) (λ p. (e.refused p).1 ∙ c.clear.ensures ∙ sym (scratch-long _ l))
          (λ z.
          let m = e.answered z in
          let h : (made_by c.with_list.result m.out-left.now ≡ outcome (release m.list.now.list.now (length m.scratch-shown.now) (length m.out-shown.now)) m.out-shown.now)
          × (m.scratch-left.now ≡ scratch_after m.scratch-shown.now) = search rules in
          sym m.scratch-leaves ∙ h.1 ∙ ap scratch_after m.scratch-shows ∙ cleared-after a.scratch.now _ l c.clear.ensures),
    )
