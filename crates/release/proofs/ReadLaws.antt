-- From the list that was read to the keys and pieces that its table finds, and from the call's refusals to the answer.
use mathlib.Core.Path.{◌≡◌, refl, sym, ap, ◌∙◌, subst}
use mathlib.Core.Bool.{Bool, true}
use Rattle.std.proofs.Common.{Some}
use mathlib.Core.List.{List, [], ◌∷◌, ◌++◌, map}
use Prim.Native.Nat.{ℕ, suc, ◌≤◌, ◌<◌}
use native.Mathlib.Omega.{arith}
use lib.ListN.{length, get_or, take, drop, replicate, length-replicate}
use lib.Seq.{drop_at}
use borrow.Author.Tests.{le-leb, lt-leb, lt-ltb, le-ltb}
use Rattle.wire.specs.Keys.{Key}
use Rattle.calls.specs.CallList as calls
use Rattle.calls.specs.CallList.{Volume, Freed, freed_of, keys_ok, keys_ascend, snapshots_ok, call_laid_out, none_twice}
use Rattle.calls.specs.Limits.{list_within}
use Rattle.calls.specs.Answers.{Answer, answer, read_call, read_volume, release, Outcome, made, outcome, scratch_after}
use Rattle.calls.specs.ChangeList.{change_bytes}
use Rattle.calls.specs.Refusals.{test}
use Rattle.calls.specs.Release.{alloc_value, dirty_at, is_emptied, bucket_refusal, release_tests, released_key, released_lru, emptied_gen, unused_change, release_rows, release_batch}
use Rattle.calls.proofs.answers.AnswerLaws.{release-is}
use Rattle.calls.proofs.answers.OutcomeLaws.{answer-next, answer-stops, refused}
use Rattle.calls.proofs.lists.BoolLaws.{parts}
use Rattle.calls.proofs.trees.SixTrees.{EachTree, trees-each}
use Rattle.reader.specs.ListedKeys.{keys_listed}
use Rattle.reader.specs.Heads.{head_in}
use Rattle.reader.specs.Located.{FreedAt, no_freed, FreedsAt}
use Rattle.reader.specs.Readings.{call_refusal, ReadAs}
use Rattle.reader.specs.declared.head.Head.{Head}
use Rattle.reader.specs.declared.read_list.ReadList.{ReadList}
use Rattle.reader.proofs.CheckedLaws.{checked}
use Rattle.reader.proofs.PartsLaws.{passed, read-on, read-refused, freeds-read}
use Rattle.release_sums.specs.Freeds.{freeds_in, Requested}
use Rattle.release_sums.proofs.ClearLaws.{cleared}
use Rattle.release_keys.specs.Given.{volume_of}

-- ---- what offsets find
freeds-map : (s os : List ℕ) (rs : List Freed) → length os ≡ length rs → ((i : ℕ) → i < length os → FreedAt s (get_or os i 0) (get_or rs i no_freed))
    → map (λ at. freed_of (take 10 (drop at s))) os ≡ rs
freeds-map s [] [] e h = refl
freeds-map s [] (r ∷ rs) e h = absurd (omega arith)
freeds-map s (o ∷ os) [] e h = absurd (omega arith)
freeds-map s (o ∷ os) (r ∷ rs) e h = λ x. (h 0 (omega arith)).is x ∷ freeds-map s os rs (omega arith) (λ i l. h (suc i) (omega arith)) x

module _ {s os : List ℕ} {rs : List Freed} (q : FreedsAt s os rs) where
  freeds-found : freeds_in s os ≡ rs
  freeds-found = freeds-map s os rs q.count q.at

  pub requested : Requested s os
  requested = subst (λ (l : List Freed). FreedsAt s os l) (sym freeds-found) q

-- ---- what a release reads of a volume
same_tests : (v : Volume) (rs : List Freed) → release_tests (volume_of v.head v.trees.alloc v.trees.gens) rs ≡ release_tests v rs
unfolding release_tests bucket_refusal is_emptied dirty_at alloc_value
same_tests v rs = refl

same-batch : (v : Volume) (rs : List Freed) → release_batch (volume_of v.head v.trees.alloc v.trees.gens) rs ≡ release_batch v rs
unfolding release_batch released_key released_lru emptied_gen release_rows unused_change is_emptied dirty_at alloc_value
same-batch v rs = refl

-- the answer after refusals 1 to 3, by what is read
abbrev answer_of : calls.Head → List Key → List Key → List Freed → ℕ → Answer
answer_of h alloc gens rs room = answer (release_tests (volume_of h alloc gens) rs) (change_bytes (release_batch (volume_of h alloc gens) rs ∷ [])) room

-- ---- refusals 1 to 3
module _ (s : List ℕ) (n room : ℕ) where
  abbrev bytes : List ℕ
  bytes = change_bytes (release_batch (read_volume s) (read_call s).releases ∷ [])

  abbrev later : List ℕ
  later = release_tests (read_volume s) (read_call s).releases

  abbrev first : Bool → Answer
  first t = answer (test 1 t ∷ test 2 (call_laid_out 2 s) ∷ test 22 (none_twice (read_volume s)) ∷ test 3 (list_within (read_call s)) ∷ later) bytes room

  short-answer : n < 65536 → release s n room ≡ record { number = 1; written = [] }
  short-answer h =
      release-is s n room ∙ ap first (lt-leb 65536 n h)
      ∙ answer-stops 1 (test 2 (call_laid_out 2 s) ∷ test 22 (none_twice (read_volume s)) ∷ test 3 (list_within (read_call s)) ∷ later) bytes room (λ z. omega arith)

  past-1 : 65536 ≤ n → release s n room ≡ answer (test 2 (call_laid_out 2 s) ∷ test 22 (none_twice (read_volume s)) ∷ test 3 (list_within (read_call s)) ∷ later) bytes room
  past-1 h =
      release-is s n room ∙ ap first (le-leb 65536 n h)
      ∙ answer-next 0 (test 2 (call_laid_out 2 s) ∷ test 22 (none_twice (read_volume s)) ∷ test 3 (list_within (read_call s)) ∷ later) bytes room refl

  pub release-refused : 65536 ≤ n → 0 < call_refusal 2 s → release s n room ≡ record { number = call_refusal 2 s; written = [] }
  release-refused h l = past-1 h ∙ read-refused 2 s later bytes room _ refl l

  -- the answer of the parts
  parts-answer : {h : Head} {alloc gens : List Key} {requests : List ℕ} → 65536 ≤ n → 0 ≡ call_refusal 2 s → head_in h ≡ (read_volume s).head → alloc ≡ (read_volume s).trees.alloc
      → gens ≡ (read_volume s).trees.gens → FreedsAt s requests (read_call s).releases
      → answer_of (head_in h) alloc gens (freeds_in s requests) room ≡ release s n room
  parts-answer {h} {alloc} {gens} {requests} l z e a g f =
      let v = read_volume s in
      let rs = (read_call s).releases in
      ap (λ x. answer_of x alloc gens (freeds_in s requests) room) e
      ∙ ap (λ x. answer_of v.head x gens (freeds_in s requests) room) a
      ∙ ap (λ x. answer_of v.head v.trees.alloc x (freeds_in s requests) room) g
      ∙ ap (λ x. answer_of v.head v.trees.alloc v.trees.gens x room) (freeds-found f)
      ∙ ap (λ x. answer x (change_bytes (release_batch (volume_of v.head v.trees.alloc v.trees.gens) rs ∷ [])) room) (same_tests v rs)
      ∙ ap (λ x. answer later (change_bytes (x ∷ [])) room) (same-batch v rs)
      ∙ sym (past-1 l ∙ read-on 2 s later bytes room z)

-- keys that are tested ascend
ascend : (ks : List Key) → keys_ok ks ≡ true → keys_ascend ks ≡ true
unfolding keys_ok
ascend ks h = (parts (keys_ascend ks) (snapshots_ok ks) h).0

-- the layout's trees
trees-ok : (s : List ℕ) → 0 ≡ call_refusal 2 s → EachTree (λ ks. keys_ok ks ≡ true) (read_volume s).trees
trees-ok s z = let p = passed 2 s z in trees-each (read_volume s).trees (checked 2 s p.laid p.once p.within).trees

-- ---- the scratch
pub scratch_short : (l : List ℕ) → length l < 65536 → l ≡ scratch_after l
unfolding scratch_after
scratch_short l h = rw (lt-ltb (length l) 65536 h)

pub scratch-long : (l : List ℕ) → 65536 ≤ length l → scratch_after l ≡ replicate 65536 0 ++ drop 65536 l
unfolding scratch_after
scratch-long l h = rw (le-ltb (length l) 65536 h)

-- a scratch that was cleared
module _ (l m : List ℕ) (h : 65536 ≤ length l) (e : m ≡ replicate 65536 0 ++ drop 65536 l) where
  pub cleared-after : scratch_after m ≡ scratch_after l
  cleared-after =
      scratch-long m (cleared l m h e).long
      ∙ ap (λ (x : List ℕ). replicate 65536 0 ++ x) (ap (drop 65536) e ∙ drop_at (replicate 65536 0) (drop 65536 l) 65536 (length-replicate {A = ℕ} 65536 0))
      ∙ sym (scratch-long l h)

-- ---- a list that was read
module _ {r : ReadList} (q : ReadAs (Some 2) r) where
  -- what `release_lists` requires
  pub read-ascend : keys_ascend (keys_listed r.alloc) ≡ true
  read-ascend = ap keys_ascend q.read.alloc.are ∙ ascend (read_volume r.list.now).trees.alloc (trees-ok r.list.now q.passed).alloc

  pub read-requested : Requested r.list.now r.requests.now × (length r.requests.now ≤ 1024)
  read-requested = let f = freeds-read q in (requested f.0, f.1)

  -- its outcome is the call's
  pub read-outcome : (n : ℕ) → 65536 ≤ n → (out : List ℕ) {m : Outcome}
      → m ≡ outcome (answer_of (head_in r.head) (keys_listed r.alloc) (keys_listed r.gens) (freeds_in r.list.now r.requests.now) (length out)) out
      → m ≡ outcome (release r.list.now n (length out)) out
  read-outcome n l out p =
      p ∙ ap (λ (a : Answer). outcome a out) (parts-answer r.list.now n (length out) {h = r.head} l q.passed q.read.head q.read.alloc.are q.read.gens.are (freeds-read q).0)

-- ---- the outcome of a call that refusal 1 stops
pub short_outcome : (s : List ℕ) (n : ℕ) (out : List ℕ) → n < 65536 → made 1 0 out ≡ outcome (release s n (length out)) out
short_outcome s n out h = refused 1 out (short-answer s n (length out) h) refl
