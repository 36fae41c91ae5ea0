use Rattle.std.proofs.Common.{refl, arith, sym, subst}
use lib.ListN.{length-map}
use Rattle.calls.proofs.lists.AllLaws.{all-nth}
use Rattle.reader.specs.KeyHere.{key_here}
use Rattle.reader.specs.ListedKeys.{keys_listed}
use Rattle.reader.specs.Located.{no_key}
use Rattle.need_discard.specs.Kept.{NeedKept}
use Rattle.need_discard.proofs.TableLaws.{empty-entries, noted-entries, all-entries, step-within, step-key, step-rest}
use Rattle.need_discard.proofs.waiting.note_waiting.Goals as goal

pub note_key-requires : goal.note_key-requires
note_key-requires c =
    let i = c.loop-i.invariant in
    let all = keys_listed c.args.keys.now in
    let l = step-within all c.loop-i.i i.2 c.in-Some.ensures.steps.keys in (
      subst NeedKept (sym (step-key all c.loop-i.i i.2 c.in-Some.ensures.steps.keys)) (all-nth no_key c.requires.0 c.loop-i.i l),
      omega (arith, l, length-map c.args.keys.now.places.now (key_here c.args.keys.now.list.now)),
    )

pub loop-i-init : goal.loop-i-init
loop-i-init c = (tt, tt, rw c.iter-key-items.ensures refl, c.told-table, rw c.requires.2 (empty-entries (keys_listed c.args.keys.now)))

pub loop-i-preserved : goal.loop-i-preserved
loop-i-preserved c =
    let n = c.loop-i.i in
    let i = c.loop-i.invariant in
    let all = keys_listed c.args.keys.now in
    let s = c.in-Some.ensures.steps.keys in (
      tt,
      tt,
      step-rest all n i.2 s,
      c.note_key.array_long,
      rw (c.note_key.ensures, step-key all n i.2 s) (noted-entries all c.loop-i.table n (step-within all n i.2 s) i.3 i.4),
    )

pub returns : goal.returns
returns c = let i = c.loop-i.invariant in all-entries (keys_listed c.args.keys.now) c.loop-i.table c.loop-i.i i.2 c.in-None.ensures.steps i.4
