use Rattle.std.proofs.Common.{refl, arith, ap, sym, length, ◌∙◌}
use Rattle.wire.specs.Positions.{bucket_in}
use Rattle.wire.proofs.AppendLaws.{with-none}
use Rattle.reader.specs.ListedKeys.{key_listed}
use Rattle.discard.proofs.EmitLaws.{shown-all, shown-here, shown-left, first-of}
use Rattle.discard.proofs.RunLaws.{runs-none, runs-start, run-turn, run-end, with_size, bucket-fits}
use Rattle.discard.proofs.runs.put_runs.Goals as goal

pub returns-in_default : goal.returns-in_default
returns-in_default c = rw (runs-none (first-of c.iter-others.ensures c.in_default.ensures.steps)) (sym (with-none c.args.out.now))

pub next_bucket-requires : goal.next_bucket-requires
next_bucket-requires c = bucket-fits (shown-here (first-of c.iter-others.ensures c.in-Some.ensures.steps.keys) (shown-all c.args.d.now.shown)) c.bucket.ensures

pub loop-key-init : goal.loop-key-init
loop-key-init c =
    let s = first-of c.iter-others.ensures c.in-Some.ensures.steps.keys in
    rw c.into_iter-key-iterator.ensures.into_iter_gives (
      shown-left s (shown-all c.args.d.now.shown),
      omega (arith, ap length s, c.args.d.now.shown.few),
      rw (runs-start s (rw c.bucket.ensures at c.next_bucket.ensures)) refl,
    )

pub with_bucket-r-requires : goal.with_bucket-r-requires
with_bucket-r-requires c =
    let i = c.loop-key.invariant in
    let s = c.in-Some-key.ensures.steps.keys in
    (rw c.bucket-b.ensures (shown-here s i.0).below, omega (arith, ap length s, i.1))

pub loop-key-preserved : goal.loop-key-preserved
loop-key-preserved c =
    let l = c.loop-key in
    let i = l.invariant in
    let s = c.in-Some-key.ensures.steps.keys in
    let b = c.bucket-b.ensures in
    let w = rw b at c.with_bucket-r.ensures in (
      shown-left s i.0,
      rw w (omega (arith, ap length s, with_size l.r (bucket_in (key_listed c.in-Some-key.key).pos), i.1)),
      rw w (run-turn l.r l.out c.put_ended.new.out s (rw b at c.put_ended.ensures) ∙ i.2),
    )

pub returns : goal.returns
returns c = run-end c.loop-key.r c.loop-key.out c.put_run.new.out c.in-None.ensures.steps c.put_run.ensures ∙ c.loop-key.invariant.2
