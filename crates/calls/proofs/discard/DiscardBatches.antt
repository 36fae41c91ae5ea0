-- The claim holds after every number of a discard's batches.
use mathlib.Core.Path.{◌≡◌, sym, subst}
use mathlib.Core.List.{List}
use Prim.Native.Nat.{ℕ}
use lib.ListN.{take}
use Rattle.wire.proofs.NumberLaws.{all_take}
use Rattle.calls.specs.CallList.{Volume, volume_bytes}
use Rattle.calls.specs.Discard.{discard_batches}
use Rattle.calls.specs.Apply.{apply_batches}
use Rattle.calls.specs.Answers.{read_volume, discard}
use Rattle.calls.specs.History.{Clean, State, discarding, Step, after, Allowed, History, start, Claim, GensAgree}
use Rattle.calls.proofs.answers.AnswerLaws.{discarded}
use Rattle.calls.proofs.encoding.ApplyLaws.{apply-fits}
use Rattle.calls.proofs.history.ClaimLaws.{claimed, gens-agree, sectors-same}
use Rattle.calls.proofs.history.Demand3.{offered_by, keeps-demand, kept-clean}
use Rattle.calls.proofs.discard.DiscardFits.{discard-fits}
use Rattle.calls.proofs.discard.DiscardLaws.{discard-sound, discard-gens}
use Rattle.calls.proofs.history.HistoryKeeps.{history-keeps, found}
use Rattle.calls.proofs.history.Phases.{Good}
use Rattle.calls.proofs.trees.SixTrees.{trees-order}
use Rattle.calls.proofs.history.View.{view, GensHeld}
use Rattle.calls.proofs.encoding.VolumeTrip.{call-laid, laid-fits, laid-ok, read_back}

-- the state after the first n batches of a discard of a list
abbrev pub batches_applied : ℕ → List ℕ → State → State
batches_applied n s st =
    record { volume = volume_bytes (apply_batches (take n (discard_batches (read_volume s))) (read_volume s)); live = st.live }

-- the claim of a state, by what is read of it
claim-of : (clean : List ℕ) (st : State) (w : Volume) → read_volume st.volume ≡ w
    → Good w.head.bucket_sectors (offered_by clean) (view w st.live) → GensHeld w → Claim clean st × GensAgree st
claim-of clean st w e g h = (
  claimed clean st (subst (λ (u : Volume). Good u.head.bucket_sectors (offered_by clean) (view u st.live)) (sym e) g),
  gens-agree st (subst GensHeld (sym e) h),
)

pub discard-batches : (clean : List ℕ) → Clean clean → (steps : List Step) → History (start clean) steps
    → (s : List ℕ) (room : ℕ) → Allowed (after (start clean) steps) (record { call = discarding; list = s; scratch = 0; room = room; apply_room = 0 })
    → (discard s room).number ≡ 0 → (n : ℕ)
    → Claim clean (batches_applied n s (after (start clean) steps)) × GensAgree (batches_applied n s (after (start clean) steps))
discard-batches clean c steps h s room a e n =
    let st = after (start clean) steps in
    let step : Step = record { call = discarding; list = s; scratch = 0; room = room; apply_room = 0 } in
    let keeps = keeps-demand (offered_by clean) in
    let d = discarded s room e in
    let k = found keeps st step (history-keeps keeps steps (start clean) (kept-clean clean c) h) a d.once in
    let l = call-laid 3 a.bytes d.laid_out in
    let ok = laid-ok l d.once in
    let o = trees-order ok.trees in
    let f = discard-fits a.bytes d.laid_out d.once d.within in
    let v = read_volume s in
    let w = apply_batches (take n (discard_batches v)) v in
    let fit = apply-fits (all_take n f.0) (all_take n f.1) (laid-fits l) ok in
    let back : read_volume (volume_bytes w) ≡ w = read_back fit.0 fit.1 in
    let g = discard-sound v.head.bucket_sectors (offered_by clean) st.live v
    (record { good = k.good; alloc = o.alloc.0; freespace = o.freespace.0; need_discard = o.need_discard.0 }) o.alloc.1 n in
    let good : Good w.head.bucket_sectors (offered_by clean) (view w st.live) = rw (sectors-same (take n (discard_batches v)) v) g.good in
    claim-of clean (batches_applied n s st) w back good (discard-gens v o.alloc.0 o.alloc.1 k.gens n)
