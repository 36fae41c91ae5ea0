-- What an accepted answer tells: its tests held, and its bytes are those of the definition.
use mathlib.Core.Path.{◌≡◌, refl, sym, ap, ◌∙◌}
use mathlib.Core.Bool.{true, not, ◌&&◌}
use mathlib.Core.List.{List, [], ◌∷◌}
use Prim.Native.Nat.{ℕ}
use native.Mathlib.Omega.{arith}
use lib.Dec.{leb, eqb}
use lib.ListN.{length}
use Rattle.wire.specs.Kinds.{bucket_below}
use Rattle.wire.specs.declared.kinds.Bucket.{Bucket}
use Rattle.calls.specs.CallList.{call_laid_out, volume_laid_out, list_laid_out, none_twice, volume_bytes}
use Rattle.calls.specs.Lists.{in_order}
use Rattle.calls.specs.Limits.{list_within, volume_within, buckets_within}
use Rattle.calls.specs.JointLookup.{joint_lookup}
use Rattle.calls.specs.ChangeList.{change_bytes, change_laid_out}
use Rattle.calls.specs.Refusals.{test, verdict}
use Rattle.calls.specs.Place.{place_tests, place_batch, placed_of, walk_of}
use Rattle.calls.specs.Release.{release_tests, release_batch}
use Rattle.calls.specs.Discard.{discard_batches}
use Rattle.calls.specs.Answers.{Answer, answer, read_call, read_volume, next_volume, sorted_form, place, release, discard, apply, sort, GenerationsAnswer, with_visited, generations}
use Rattle.calls.proofs.lists.BoolLaws.{parts}
use Rattle.calls.proofs.answers.RefusalLaws.{verdict-ok, test-ok, verdict-front}

-- an accepted answer: the tests held, and the bytes are written
pub record Accepted (tests bytes : List ℕ) (a : Answer) : Type 0 where
  pub tests-held : verdict tests ≡ 0
  pub written : a.written ≡ bytes

pub accepted : (tests bytes : List ℕ) (room : ℕ) → (answer tests bytes room).number ≡ 0 → Accepted tests bytes (answer tests bytes room)
unfolding answer
accepted tests bytes room h =
    record {
      tests-held = verdict-front tests (test 21 (leb (length bytes) room) ∷ []) h;
      written = rw h;
    }

-- the six answers, one step unfolded
pub place_is : (s : List ℕ) (room : ℕ)
    → place s room
    ≡ answer
    (test 2 (call_laid_out 1 s) ∷ test 22 (none_twice (read_volume s)) ∷ test 3 (list_within (read_call s)) ∷ place_tests (read_call s))
    (change_bytes (place_batch (read_volume s) (placed_of (read_call s)) (walk_of (read_call s)) ∷ [])) room
unfolding place
place_is s room = refl

pub release-is : (s : List ℕ) (scratch room : ℕ)
    → release s scratch room
    ≡ answer
    (test 1 (leb 65536 scratch) ∷ test 2 (call_laid_out 2 s) ∷ test 22 (none_twice (read_volume s)) ∷ test 3 (list_within (read_call s))
    ∷ release_tests (read_volume s) (read_call s).releases)
    (change_bytes (release_batch (read_volume s) (read_call s).releases ∷ [])) room
unfolding release
release-is s scratch room = refl

pub discard-is : (s : List ℕ) (room : ℕ)
    → discard s room
    ≡ answer
    (test 2 (call_laid_out 3 s) ∷ test 22 (none_twice (read_volume s)) ∷ test 3 (list_within (read_call s))
    ∷ test 20 (not (eqb (read_volume s).head.batch 0))
    ∷ [])
    (change_bytes (discard_batches (read_volume s))) room
unfolding discard
discard-is s room = refl

pub apply-is : (s change : List ℕ) (room : ℕ)
    → apply s change room
    ≡ answer
    (test 2 (volume_laid_out s && change_laid_out change) ∷ test 22 (none_twice (read_volume s)) ∷ test 3 (volume_within (read_volume s))
    ∷ test 3 (volume_within (next_volume s change))
    ∷ [])
    (volume_bytes (next_volume s change)) room
unfolding apply
apply-is s change room = refl

pub sort-is : (s : List ℕ) (room : ℕ)
    → sort s room
    ≡ answer (test 2 (list_laid_out s) ∷ test 22 (none_twice (read_volume s)) ∷ test 3 (list_within (read_call s)) ∷ []) (sorted_form s) room
unfolding sort
sort-is s room = refl

pub generations-is : (s : List ℕ) (buckets : List Bucket) (room : ℕ)
    → generations s buckets room
    ≡ with_visited (joint_lookup (read_volume s).trees.gens buckets).visited
    (answer
    (test 2 (volume_laid_out s && in_order bucket_below buckets) ∷ test 22 (none_twice (read_volume s))
    ∷ test 3 (volume_within (read_volume s) && buckets_within buckets)
    ∷ [])
    (joint_lookup (read_volume s).trees.gens buckets).generations room)
unfolding generations
generations-is s buckets room = refl

-- an accepted placement
pub record Placement (s : List ℕ) (a : Answer) : Type 0 where
  pub laid_out : call_laid_out 1 s ≡ true
  pub once : none_twice (read_volume s) ≡ true
  pub within : list_within (read_call s) ≡ true
  pub tests-held : verdict (place_tests (read_call s)) ≡ 0
  pub written : a.written ≡ change_bytes (place_batch (read_volume s) (placed_of (read_call s)) (walk_of (read_call s)) ∷ [])

pub placement : (s : List ℕ) (room : ℕ) → (place s room).number ≡ 0 → Placement s (place s room)
placement s room h =
    let e = place_is s room in
    let a = accepted _ _ room (ap (λ (x : Answer). x.number) (sym e) ∙ h) in
    let two = verdict-ok _ _ a.tests-held in
    let once = verdict-ok _ _ two.1 in
    let three = verdict-ok _ _ once.1 in
    record {
      laid_out = test-ok 2 _ (omega arith) two.0;
      once = test-ok 22 _ (omega arith) once.0;
      within = test-ok 3 _ (omega arith) three.0;
      tests-held = three.1;
      written = ap (λ (x : Answer). x.written) e ∙ a.written;
    }

-- an accepted release
pub record Released (s : List ℕ) (a : Answer) : Type 0 where
  pub laid_out : call_laid_out 2 s ≡ true
  pub once : none_twice (read_volume s) ≡ true
  pub within : list_within (read_call s) ≡ true
  pub tests-held : verdict (release_tests (read_volume s) (read_call s).releases) ≡ 0
  pub written : a.written ≡ change_bytes (release_batch (read_volume s) (read_call s).releases ∷ [])

pub released : (s : List ℕ) (scratch room : ℕ) → (release s scratch room).number ≡ 0 → Released s (release s scratch room)
released s scratch room h =
    let e = release-is s scratch room in
    let a = accepted _ _ room (ap (λ (x : Answer). x.number) (sym e) ∙ h) in
    let one = verdict-ok _ _ a.tests-held in
    let two = verdict-ok _ _ one.1 in
    let once = verdict-ok _ _ two.1 in
    let three = verdict-ok _ _ once.1 in
    record {
      laid_out = test-ok 2 _ (omega arith) two.0;
      once = test-ok 22 _ (omega arith) once.0;
      within = test-ok 3 _ (omega arith) three.0;
      tests-held = three.1;
      written = ap (λ (x : Answer). x.written) e ∙ a.written;
    }

-- an accepted discard
pub record Discarded (s : List ℕ) (a : Answer) : Type 0 where
  pub laid_out : call_laid_out 3 s ≡ true
  pub once : none_twice (read_volume s) ≡ true
  pub within : list_within (read_call s) ≡ true
  pub written : a.written ≡ change_bytes (discard_batches (read_volume s))

pub discarded : (s : List ℕ) (room : ℕ) → (discard s room).number ≡ 0 → Discarded s (discard s room)
discarded s room h =
    let e = discard-is s room in
    let a = accepted _ _ room (ap (λ (x : Answer). x.number) (sym e) ∙ h) in
    let two = verdict-ok _ _ a.tests-held in
    let once = verdict-ok _ _ two.1 in
    let three = verdict-ok _ _ once.1 in
    record {
      laid_out = test-ok 2 _ (omega arith) two.0;
      once = test-ok 22 _ (omega arith) once.0;
      within = test-ok 3 _ (omega arith) three.0;
      written = ap (λ (x : Answer). x.written) e ∙ a.written;
    }

-- an accepted apply writes the next volume
pub applied : (s change : List ℕ) (room : ℕ) → (apply s change room).number ≡ 0 → (apply s change room).written ≡ volume_bytes (next_volume s change)
applied s change room h =
    let e = apply-is s change room in
    ap (λ (x : Answer). x.written) e ∙ (accepted _ _ room (ap (λ (x : Answer). x.number) (sym e) ∙ h)).written

-- an accepted sort
pub record Arranged (s : List ℕ) (a : Answer) : Type 0 where
  pub laid_out : list_laid_out s ≡ true
  pub once : none_twice (read_volume s) ≡ true
  pub within : list_within (read_call s) ≡ true
  pub written : a.written ≡ sorted_form s

pub arranged : (s : List ℕ) (room : ℕ) → (sort s room).number ≡ 0 → Arranged s (sort s room)
arranged s room h =
    let e = sort-is s room in
    let a = accepted _ _ room (ap (λ (x : Answer). x.number) (sym e) ∙ h) in
    let two = verdict-ok _ _ a.tests-held in
    let once = verdict-ok _ _ two.1 in
    let three = verdict-ok _ _ once.1 in
    record {
      laid_out = test-ok 2 _ (omega arith) two.0;
      once = test-ok 22 _ (omega arith) once.0;
      within = test-ok 3 _ (omega arith) three.0;
      written = ap (λ (x : Answer). x.written) e ∙ a.written;
    }

-- an accepted lookup of generations
pub record LookedUp (s : List ℕ) (buckets : List Bucket) (a : GenerationsAnswer) : Type 0 where
  pub laid_out : volume_laid_out s ≡ true
  pub ascend : in_order bucket_below buckets ≡ true
  pub once : none_twice (read_volume s) ≡ true
  pub written : a.written ≡ (joint_lookup (read_volume s).trees.gens buckets).generations

pub looked-up : (s : List ℕ) (buckets : List Bucket) (room : ℕ) → (generations s buckets room).number ≡ 0 → LookedUp s buckets (generations s buckets room)
looked-up s buckets room h =
    let e = generations-is s buckets room in
    let a = accepted _ _ room (ap (λ (x : GenerationsAnswer). x.number) (sym e) ∙ h) in
    let two = verdict-ok _ _ a.tests-held in
    let once = verdict-ok _ _ two.1 in
    let layout = parts _ _ (test-ok 2 _ (omega arith) two.0) in
    record {
      laid_out = layout.0;
      ascend = layout.1;
      once = test-ok 22 _ (omega arith) once.0;
      written = ap (λ (x : GenerationsAnswer). x.written) e ∙ a.written;
    }
