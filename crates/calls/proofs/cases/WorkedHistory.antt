-- The example history, computed: it is a history, with the pieces that it leaves; the claim's tests, computed on each volume that it reaches; and that
-- the theorem applies to it.
use mathlib.Core.Path.{◌≡◌, refl}
use mathlib.Core.Bool.{Bool, true, false, not, ◌&&◌, ◌||◌, cond, false≢true}
use mathlib.Core.List.{List, [], ◌∷◌, zip_with}
use mathlib.Core.Option.{Option, none, some}
use Prim.Native.Nat.{ℕ, zero, suc, ◌+◌}
use lib.Dec.{leb, ltb, eqb}
use borrow.Author.Tests.{ltb-true, eqb-true}
use Rattle.wire.specs.Bytes.{Bytes}
use Rattle.wire.specs.Kinds.{same_bucket, bucket_of, offset_in, sector_within}
use Rattle.calls.specs.Lists.{all_of, total, is_none, from_option, one}
use Rattle.calls.specs.SameFields.{same_bytes, same_field}
use Rattle.calls.specs.Generations.{gen_of}
use Rattle.calls.specs.Computing.{computing}
use Rattle.calls.specs.Answers.{read_call, read_volume, place, release, discard, apply}
use Rattle.calls.specs.History.{Clean, Live, State, Step, answer_to, without_requests, applied_to, placed_pieces, take_out, take_all, advance, after, carried, Allowed, History, start, sectors_of, alloc_of, generation_of, dirty_of, is_free, is_in_use, is_waiting, Claim, GensAgree}
use Rattle.calls.specs.Examples.{bucket, sector}
use Rattle.calls.specs.ExampleHistory.{clean, ran, steps, reached, piece}
use Rattle.calls.proofs.lists.AllLaws.{all-imp, test-all}
use Rattle.calls.proofs.lists.BoolLaws.{parts}
use Rattle.calls.proofs.lists.OftenTest.{often_test, often-tested}
use Rattle.calls.proofs.encoding.OftenLaws.{field-equality}
use Rattle.calls.proofs.history.Demand3.{demand3}

-- numbers below n
abbrev below : ℕ → List ℕ
below zero = []
below (suc n) = n ∷ below n

-- the claim's tests, over the sectors and buckets of the volume
abbrev once_test : State → Bool
once_test st = all_of (λ n. leb (total (λ p. one (sector_within p.first p.length (sector n))) st.live) 1) (below 330)

abbrev inside_test : State → Bool
inside_test st =
    all_of
    (λ p.
    leb (offset_in p.first (sectors_of st) + p.length) (sectors_of st)
    && from_option false (eqb p.generation) (generation_of st (bucket_of p.first (sectors_of st)))) st.live

abbrev dirty_test : State → Bool
dirty_test st =
    all_of
    (λ n.
    eqb (dirty_of st (bucket n)) (total (λ p. cond (same_bucket (bucket_of p.first (sectors_of st)) (bucket n)) p.length 0) st.live))
    (below 41)

abbrev phase_test : State → Bool
phase_test st =
    all_of
    (λ n.
    not (is_free (start clean) (bucket n))
    || eqb (one (is_free st (bucket n)) + one (is_in_use st (bucket n)) + one (is_waiting st (bucket n))) 1) (below 41)

-- beside them: tree 14 has each bucket's generation
abbrev gens_test : State → Bool
gens_test st =
    all_of
    (λ n. from_option true (eqb (gen_of (read_volume st.volume).trees.gens (bucket n))) (generation_of st (bucket n)))
    (below 41)

abbrev claim_test : State → Bool
claim_test st = once_test st && (inside_test st && (dirty_test st && (phase_test st && gens_test st)))

pub live-pieces : reached.live ≡ piece 8 0 4 ∷ piece 16 0 3 ∷ piece 0 1 5 ∷ piece 32 0 5 ∷ []
unfolding computing place release discard apply answer_to without_requests applied_to placed_pieces take_out take_all advance after zip_with
live-pieces = refl

-- ---- the steps are a history

bytes-tested : (s : List ℕ) → all_of (λ b. ltb b 256) s ≡ true → Bytes s
bytes-tested s h = all-imp (λ b e. ltb-true b 256 e) (test-all (λ b. ltb b 256) s h)

-- what a history asks of a step
abbrev allowed_test : State → Step → Bool
allowed_test st s =
    all_of (λ b. ltb b 256) s.list
    && (often_test same_field (carried s.list) (carried st.volume)
    && (eqb (read_call s.list).volume.head.bucket_sectors (sectors_of st)
    && (not (eqb (answer_to s).number 0) || not (is_none (take_all (read_call s.list).releases st.live)))))

allowed : (st : State) (s : Step) → allowed_test st s ≡ true → Allowed st s
allowed st s h =
    let a = parts (all_of (λ b. ltb b 256) s.list) _ h in
    let b = parts (often_test same_field (carried s.list) (carried st.volume)) _ a.1 in
    let c = parts (eqb (read_call s.list).volume.head.bucket_sectors (sectors_of st)) _ b.1 in
    record {
      bytes = bytes-tested s.list a.0;
      same = often-tested field-equality (carried s.list) (carried st.volume) b.0;
      sectors = eqb-true (read_call s.list).volume.head.bucket_sectors (sectors_of st) c.0;
      named = λ e n. go (take_all (read_call s.list).releases st.live) (rw n at c.1);
    }
  where
    go : (o : Option (List Live)) → not (is_none o) ≡ true → (l : List Live) × (o ≡ some l)
    go none h = absurd (false≢true h)
    go (some l) h = (l, refl)

-- the claim's tests hold after each number of steps, and each step is allowed
abbrev worked_test : State → List (State → Step) → Bool
worked_test st [] = claim_test st
worked_test st (f ∷ fs) = claim_test st && (allowed_test st (f st) && worked_test (advance st (f st)) fs)

history : (fs : List (State → Step)) (st : State) → worked_test st fs ≡ true → History st (ran st fs)
history [] st h = tt
history (f ∷ fs) st h =
    let a = parts (claim_test st) (allowed_test st (f st) && worked_test (advance st (f st)) fs) h in
    let b = parts (allowed_test st (f st)) (worked_test (advance st (f st)) fs) a.1 in
    (allowed st (f st) b.0, history fs (advance st (f st)) b.1)

pub clean-volume : Clean clean
unfolding computing
clean-volume =
    record {
      bytes = bytes-tested clean refl;
      laid_out = refl;
      alloc = refl;
      lru = refl;
      need_discard = refl;
      backpointers = refl;
      gens = refl;
      runs = refl;
      disjoint = refl;
    }

pub worked-tests : worked_test (start clean) steps ≡ true
unfolding computing place release discard apply answer_to without_requests applied_to placed_pieces take_out take_all advance carried same_bytes same_field alloc_of generation_of dirty_of is_free is_in_use is_waiting zip_with
worked-tests = refl

pub worked : History (start clean) (ran (start clean) steps)
worked = history steps (start clean) worked-tests

-- so what is claimed of every history holds of it
pub worked-claim : Claim clean reached × GensAgree reached
worked-claim = demand3 clean clean-volume (ran (start clean) steps) worked
