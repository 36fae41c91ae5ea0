-- Demand 3: what is claimed of every history.
use mathlib.Core.Bool.{Bool}
use mathlib.Core.List.{List, [], ◌∷◌}
use mathlib.Core.Option.{none-ne-some}
use Prim.Native.Nat.{ℕ}
use Rattle.calls.specs.CallList.{Volume}
use Rattle.calls.specs.Trees.{lookup}
use Rattle.calls.specs.ChangeList.{Batch}
use Rattle.calls.specs.Discard.{discard_batches}
use Rattle.calls.specs.Apply.{apply_batch, apply_batches, apply_trees, with_roots}
use Rattle.calls.specs.Answers.{read_call, read_volume}
use Rattle.calls.specs.History.{Clean, Live, Step, after, History, start, is_free, Claim, GensAgree}
use Rattle.calls.proofs.history.ClaimLaws.{claimed, clean-good, clean-gens, gens-agree, sectors-same}
use Rattle.calls.proofs.discard.DiscardLaws.{discard-all, discard-gens, after-all}
use Rattle.calls.proofs.history.HistoryKeeps.{Keeps, history-keeps}
use Rattle.calls.proofs.history.Phases.{Good}
use Rattle.calls.proofs.place.ReadFits.{gens-small, sectors-small}
use Rattle.calls.proofs.place.PlaceLaws.{place-keeps, place-gens}
use Rattle.calls.proofs.release.ReleaseLaws.{releasing-good, release-gens}
use Rattle.calls.proofs.trees.SixTrees.{trees-order}
use Rattle.calls.proofs.trees.TreeLaws.{Typed, typed-apply_queue}
use Rattle.calls.proofs.history.View.{bucket, view, GensHeld}

-- the buckets that the clean volume offers
abbrev pub offered_by : List ℕ → ℕ → Bool
offered_by clean n = is_free (start clean) (bucket n)

-- What every state of a history keeps.
pub record ClaimKept (offered : ℕ → Bool) (v : Volume) (live : List Live) : Type 0 where
  pub good : Good v.head.bucket_sectors offered (view v live)
  pub typed : Typed v.trees.alloc
  pub gens : GensHeld v

-- no batch brings an alloc key of type 0
typed-batches : (bs : List Batch) (v : Volume) → Typed v.trees.alloc → Typed (apply_batches bs v).trees.alloc
unfolding apply_batches apply_batch apply_trees
typed-batches [] v t = t
typed-batches (b ∷ bs) v t = typed-batches bs (apply_batch b v) (typed-apply_queue b.trees.alloc v.trees.alloc t)

-- each applied call keeps it
pub keeps-demand : (offered : ℕ → Bool) → Keeps (ClaimKept offered)
unfolding apply_batch apply_trees with_roots
keeps-demand offered =
    record {
      same = λ v w live t r b h. record { good = rw (b, t, r) h.good; typed = rw t h.typed; gens = rw t h.gens };
      place = λ s live r ok h.
          let c = read_call s in
          record {
            good = place-keeps c ok (trees-order r.trees).freespace.0 live offered h.good (sectors-small r.bytes) (gens-small r.bytes);
            typed = typed-apply_queue _ c.volume.trees.alloc h.typed;
            gens = place-gens c (gens-small r.bytes) h.gens;
          };
      release = λ s live left r ok named h.
          let v = read_volume s in
          let rs = (read_call s).releases in
          record {
            good = releasing-good v rs live left ok (sectors-small r.bytes) h.typed named offered h.good;
            typed = typed-apply_queue _ v.trees.alloc h.typed;
            gens = release-gens v rs ok h.gens;
          };
      discard = λ s live r h.
          let v = read_volume s in
          let o = trees-order r.trees in
          record {
            good = rw (sectors-same (discard_batches v) v)
                (discard-all v.head.bucket_sectors offered live v
                (record { good = h.good; alloc = o.alloc.0; freespace = o.freespace.0; need_discard = o.need_discard.0 })
                o.alloc.1).good;
            typed = typed-batches (discard_batches v) v h.typed;
            gens = after-all v GensHeld (discard-gens v o.alloc.0 o.alloc.1 h.gens);
          };
    }

typed-none : Typed []
unfolding lookup
typed-none p k e = absurd (none-ne-some k e)

-- no piece is live on a clean volume, and no key but runs is there
pub kept-clean : (clean : List ℕ) → Clean clean → ClaimKept (offered_by clean) (read_volume clean) []
kept-clean clean c =
    record {
      good = clean-good (read_volume clean).head.bucket_sectors clean c;
      typed = rw c.alloc typed-none;
      gens = clean-gens clean c;
    }

-- Demand 3, of every history from a clean volume; and beside it, that tree 14 has each bucket's generation.
pub demand3 : (clean : List ℕ) → Clean clean → (steps : List Step) → History (start clean) steps
    → Claim clean (after (start clean) steps) × GensAgree (after (start clean) steps)
demand3 clean c steps h =
    let k = history-keeps (keeps-demand (offered_by clean)) steps (start clean) (kept-clean clean c) h in
    (claimed clean (after (start clean) steps) k.good, gens-agree (after (start clean) steps) k.gens)
