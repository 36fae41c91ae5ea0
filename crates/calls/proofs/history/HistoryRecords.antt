-- In every history from a clean volume each key of tree 14 is a generation record of 256 bytes.
use mathlib.Core.Path.{◌≡◌, refl, ◌∙◌}
use mathlib.Core.List.{List, [], ◌∷◌}
use mathlib.Core.Option.{Option, none, some}
use Prim.Native.Nat.{ℕ}
use lib.ListN.{length, length-replicate}
use Rattle.wire.specs.Keys.{Key}
use Rattle.wire.specs.Positions.{gens_at}
use Rattle.wire.specs.declared.kinds.Bucket.{Bucket}
use Rattle.wire.specs.Bytes.{All, none as nothing, more}
use Rattle.format.specs.Gens.{no_gens}
use Rattle.format.proofs.GenLaws.{gens-length}
use Rattle.calls.specs.Lists.{from_option}
use Rattle.calls.specs.CallList.{Volume}
use Rattle.calls.specs.Trees.{lookup, new_key, apply_queue}
use Rattle.calls.specs.Generations.{gen_record, gen_key, gen_queued}
use Rattle.calls.specs.Release.{gens_queued, release_batch}
use Rattle.calls.specs.Discard.{discard_batch}
use Rattle.calls.specs.Apply.{apply_trees, apply_batch}
use Rattle.calls.specs.Answers.{read_call, read_volume}
use Rattle.calls.specs.History.{Clean, Step, after, History, start}
use Rattle.calls.proofs.encoding.ApplyLaws.{all-apply_queue}
use Rattle.calls.proofs.discard.DiscardLaws.{discard-keeps, after-all}
use Rattle.calls.proofs.release.GensLaws.{type-30, key-is}
use Rattle.calls.proofs.history.HistoryKeeps.{Keeps, history-keeps}
use Rattle.calls.proofs.place.PlaceLaws.{place-gens-same}
use Rattle.calls.proofs.trees.SixTrees.{trees-order}
use Rattle.calls.proofs.trees.TreeLaws.{lookup-all}

-- a generation record with a byte for each of its buckets
abbrev pub Record256 : Key → Type 0
Record256 k = (k.type ≡ 30) × (length k.value ≡ 256)

no-gens-length : length no_gens ≡ 256
unfolding no_gens
no-gens-length = length-replicate {A = ℕ} 256 0

-- ---- what a release queues
module _ (gens : List Key) (all : All Record256 gens) where
  key-length : (b : Bucket) → length (gen_key gens b).value ≡ 256
  unfolding gen_key gen_record
  key-length b = go (gen_record gens b) refl
    where
      go : (o : Option Key) → gen_record gens b ≡ o → length (from_option (new_key 30 0 (gens_at b) no_gens) (λ k. k) o).value ≡ 256
      go none e = no-gens-length
      go (some k) e = (lookup-all (gens_at b) k all (type-30 (lookup (gens_at b) gens) k e).0).1

  queued-record : (b : Bucket) (generation : ℕ) → Record256 (gen_queued gens b generation)
  unfolding gen_queued
  queued-record b generation =
      ((key-is gens b).0, gens-length b generation (gen_key gens b).value ∙ key-length b)

queued-records : (generation : Bucket → ℕ) (records : List Key) (bs : List Bucket) → All Record256 records → All Record256 (gens_queued generation records bs)
unfolding gens_queued
queued-records generation records [] h = nothing
queued-records generation records (b ∷ bs) h =
    let k = queued-record records h b (generation b) in
    more k (queued-records generation (gen_queued records b (generation b) ∷ records) bs (more k h))

-- ---- what each call keeps
abbrev Records : Volume → Type 0
Records v = All Record256 v.trees.gens

keeps-records : Keeps (λ v live. Records v)
unfolding apply_batch apply_trees release_batch discard_batch apply_queue
keeps-records =
    record {
      same = λ v w live t r b h. rw t h;
      place = λ s live r ok h. rw (place-gens-same (read_call s)) h;
      release = λ s live left r ok named h. all-apply_queue (queued-records _ (read_volume s).trees.gens _ h) h;
      discard = λ s live r h.
          let o = (trees-order r.trees).alloc in
          after-all (read_volume s) Records (discard-keeps (read_volume s) o.0 o.1 Records (λ w ks a c g. g) h);
    }

-- ---- the whole
pub history-records : (clean : List ℕ) → Clean clean → (steps : List Step) → History (start clean) steps
    → All Record256 (read_volume (after (start clean) steps).volume).trees.gens
history-records clean c steps h = history-keeps keeps-records steps (start clean) (rw c.gens nothing) h
