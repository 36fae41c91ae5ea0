-- The claim of a state follows from the invariant of what is seen of its volume, and a clean volume has the invariant.
use mathlib.Core.Path.{◌≡◌, refl, ap, sym, ◌∙◌}
use mathlib.Core.Bool.{Bool, true, false, not, ◌&&◌}
use mathlib.Core.List.{List, [], ◌∷◌}
use mathlib.Core.Option.{Option, none, some, none-ne-some, some-injective}
use Prim.Native.Nat.{ℕ, ◌≤◌}
use native.Mathlib.Omega.{arith}
use lib.Dec.{ltb, eqb}
use borrow.Author.Tests.{ltb-true, not-true}
use Rattle.wire.specs.Keys.{Key}
use Rattle.wire.specs.Kinds.{bucket_of}
use Rattle.wire.specs.Positions.{alloc_at}
use Rattle.wire.specs.declared.kinds.Bucket.{Bucket}
use Rattle.wire.specs.Bytes.{All}
use Rattle.format.specs.Packing.{get}
use Rattle.format.specs.AllocV4.{gen, data_type, dirty_sectors, need_discard_type}
use Rattle.calls.specs.Lists.{total, from_option}
use Rattle.calls.specs.CallList.{Volume}
use Rattle.calls.specs.Trees.{lookup}
use Rattle.calls.specs.Freespace.{is_in}
use Rattle.calls.specs.Generations.{gen_of}
use Rattle.calls.specs.ChangeList.{Batch}
use Rattle.calls.specs.Apply.{apply_batch, apply_batches, with_roots}
use Rattle.calls.specs.Answers.{read_volume}
use Rattle.calls.specs.History.{Clean, State, start, sectors_of, alloc_of, generation_of, dirty_of, is_free, is_in_use, is_waiting, Claim, GensAgree}
use Rattle.calls.proofs.lists.AllLaws.{all-imp}
use Rattle.calls.proofs.lists.BoolLaws.{parts}
use Rattle.calls.proofs.freespace.CoverLaws.{in-runs, cover-once}
use Rattle.calls.proofs.history.Phases.{alloc_gen, Phase, idle, free, free_by, wait_by, Good, counted, one_of, alloc_dirty}
use Rattle.calls.proofs.history.View.{bucket, read_alloc, cover_of, view, GensHeld}

-- ---- the claim
-- the value of an alloc key
abbrev value_of : Option Key → Option (List ℕ)
value_of o = from_option none (λ k. some k.value) o

gen-is : (o : Option Key) → from_option none (λ v. some (get gen v)) (value_of o) ≡ alloc_gen (read_alloc o)
gen-is none = refl
gen-is (some k) = refl

dirty-is : (o : Option Key) → from_option 0 (get dirty_sectors) (value_of o) ≡ alloc_dirty (read_alloc o)
dirty-is none = refl
dirty-is (some k) = refl

wait-is : (o : Option Key) (w : Bool) → (from_option false (λ v. eqb (get data_type v) need_discard_type) (value_of o) && w) ≡ wait_by (read_alloc o) w
wait-is none w = refl
wait-is (some k) w = refl

-- free, as the invariant has it
free-is : (st : State) (b : ℕ) → is_free st (bucket b) ≡ free_by (cover_of (read_volume st.volume).trees.freespace b) (is_in (read_volume st.volume).reserved (bucket b))
unfolding is_free
free-is st b =
    ap (λ (t : Bool). t && not (is_in (read_volume st.volume).reserved (bucket b))) (in-runs b (read_volume st.volume).trees.freespace)

pub claimed : (clean : List ℕ) (st : State) → Good (sectors_of st) (λ n. is_free (start clean) (bucket n)) (view (read_volume st.volume) st.live) → Claim clean st
unfolding generation_of dirty_of alloc_of is_in_use is_waiting
claimed clean st g =
    let B = sectors_of st in
    let v = read_volume st.volume in
    let at : Bucket → Option Key = λ b. lookup (alloc_at b) v.trees.alloc in
    let offered : ℕ → Bool = λ n. is_free (start clean) (bucket n) in
    record {
      once = λ d. g.once d.0;
      inside = all-imp (λ p h. record { within = h.0.1; generation = gen-is (at (bucket_of p.first B)) ∙ h.1 }) g.placed;
      dirty = λ b. dirty-is (at b) ∙ counted B offered (view v st.live) g b.0;
      phase = λ b o. rw (free-is st b.0, wait-is (at b)) (one_of B offered (view v st.live) g b.0 o);
    }

-- ---- a clean volume
clean-phase : (c : ℕ) (k : Bool) (w : Bool) (t : Bool) → c ≤ 1 → free_by c k ≡ t → Phase t c k 0 none w
clean-phase c k w true h e =
    let p = parts (ltb 0 c) (not k) e in free refl (omega (arith, ltb-true 0 c p.0)) (not-true k p.1) refl refl refl
clean-phase c k w false h e = idle refl e refl refl

pub clean-good : (B : ℕ) (s : List ℕ) → Clean s → Good B (λ n. is_free (start s) (bucket n)) (view (read_volume s) [])
unfolding total lookup
clean-good B s c =
    let v = read_volume s in
    record {
      once = λ x. omega arith;
      placed = All.none;
      phase = λ b.
          rw c.alloc (clean-phase (cover_of v.trees.freespace b) (is_in v.reserved (bucket b)) ((view v []).waits b) (is_free (start s) (bucket b)) (cover-once b v.trees.freespace c.disjoint) (sym (free-is (start s) b)));
    }

-- ---- generations
pub clean-gens : (s : List ℕ) → Clean s → GensHeld (read_volume s)
unfolding lookup
clean-gens s c b k e = absurd (none-ne-some k (rw c.alloc at e))

pub gens-agree : (st : State) → GensHeld (read_volume st.volume) → GensAgree st
unfolding generation_of alloc_of
gens-agree st h b g e = go (lookup (alloc_at b) (read_volume st.volume).trees.alloc) refl e
  where
    go : (o : Option Key) → lookup (alloc_at b) (read_volume st.volume).trees.alloc ≡ o → from_option none (λ v. some (get gen v)) (value_of o) ≡ some g
        → gen_of (read_volume st.volume).trees.gens b ≡ g
    go none d q = absurd (none-ne-some g q)
    go (some k) d q = h b k d ∙ some-injective (get gen k.value) g q

-- ---- the sectors of a bucket
pub sectors-same : (bs : List Batch) (v : Volume) → (apply_batches bs v).head.bucket_sectors ≡ v.head.bucket_sectors
unfolding apply_batches apply_batch with_roots
sectors-same [] v = refl
sectors-same (b ∷ bs) v = sectors-same bs (apply_batch b v)
