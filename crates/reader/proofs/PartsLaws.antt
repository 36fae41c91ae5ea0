-- What a list that was read shows: that it meets none of 2, 22 and 3, and where its keys, its reserved buckets and its requests stand.
use Prim.Native.Nat.{ℕ, ◌≤◌, ◌<◌}
use native.Mathlib.Omega.{arith}
use mathlib.Core.Path.{◌≡◌, refl, sym, ap, ◌∙◌, subst}
use mathlib.Core.Bool.{Bool, true, false}
use Rattle.std.proofs.Common.{Option, Some}
use mathlib.Core.List.{List, [], ◌∷◌}
use lib.ListN.{length}
use Rattle.wire.specs.Keys.{Key}
use Rattle.calls.specs.CallList.{call_list_of, call_laid_out, volume_laid_out, none_twice}
use Rattle.calls.specs.Limits.{volume_within, list_within}
use Rattle.calls.specs.Refusals.{test, verdict}
use Rattle.calls.specs.Answers.{Answer, answer, read_call, read_volume}
use Rattle.calls.proofs.encoding.KeyFitsLaws.{list-within}
use Rattle.calls.proofs.answers.RefusalLaws.{verdict-ok, test-ok}
use Rattle.calls.proofs.answers.OutcomeLaws.{answer-next, answer-stops}
use Rattle.reader.specs.Readings.{call_refusal, volume_refusal, KeysRead, BucketsRead, ReadAs}
use Rattle.reader.specs.Located.{KeysAt, BucketsAt, PiecesAt, FreedsAt}
use Rattle.reader.specs.declared.listed_keys.Keys.{Keys}
use Rattle.reader.specs.ListedBuckets.{ReservedBuckets}
use Rattle.reader.specs.declared.read_list.ReadList.{ReadList}
use Rattle.reader.proofs.OfferedLaws.{call_kept, limits-kept}
use Rattle.reader.proofs.LocatedLaws.{pieces-located, freeds-located}
use Rattle.reader.proofs.ListedKeyLaws.{keys-at, buckets-at}

-- a list that `read_call` read meets none of 2, 22 and 3
pub record CallPassed (call : ℕ) (s : List ℕ) : Type 0 where
  pub laid : call_laid_out call s ≡ true
  pub once : none_twice (read_volume s) ≡ true
  pub within : list_within (read_call s) ≡ true

pub passed : (call : ℕ) (s : List ℕ) → 0 ≡ call_refusal call s → CallPassed call s
unfolding call_refusal verdict
passed call s h = go (call_laid_out call s) (none_twice (read_volume s)) (list_within (read_call s)) refl refl refl h
  where
    go :
        (a b c : Bool) → call_laid_out call s ≡ a → none_twice (read_volume s) ≡ b → list_within (read_call s) ≡ c
        → 0 ≡ verdict (test 2 a ∷ test 22 b ∷ test 3 c ∷ []) → CallPassed call s
    go true true true x y z k = record { laid = x; once = y; within = z }
    go true true false x y z k = absurd (omega arith)
    go true false c x y z k = absurd (omega arith)
    go false b c x y z k = absurd (omega arith)

-- and so does a volume that `read_volume` read
pub record VolumePassed (s : List ℕ) : Type 0 where
  pub laid : volume_laid_out s ≡ true
  pub once : none_twice (read_volume s) ≡ true
  pub within : volume_within (read_volume s) ≡ true

pub volume-passed : (s : List ℕ) → 0 ≡ volume_refusal s → VolumePassed s
unfolding volume_refusal
volume-passed s h =
    let two = verdict-ok _ _ (sym h) in
    let once = verdict-ok _ _ two.1 in
    let three = verdict-ok _ _ once.1 in
    record {
      laid = test-ok 2 _ (omega arith) two.0;
      once = test-ok 22 _ (omega arith) once.0;
      within = test-ok 3 _ (omega arith) three.0;
    }

-- the answer after refusals 2, 22 and 3, or with one of them
module _ (call : ℕ) (s ts bytes : List ℕ) (room : ℕ) where
  answer-of : Bool → Bool → Bool → Answer
  answer-of a b c = answer (test 2 a ∷ test 22 b ∷ test 3 c ∷ ts) bytes room

  abbrev whole-answer : Answer
  whole-answer =
      answer (test 2 (call_laid_out call s) ∷ test 22 (none_twice (read_volume s)) ∷ test 3 (list_within (read_call s)) ∷ ts) bytes room

  pub read-on : 0 ≡ call_refusal call s → whole-answer ≡ answer ts bytes room
  unfolding answer-of
  read-on h =
      let p = passed call s h in
      ap (λ (a : Bool). answer-of a (none_twice (read_volume s)) (list_within (read_call s))) p.laid
      ∙ ap (λ (b : Bool). answer-of true b (list_within (read_call s))) p.once
      ∙ ap (answer-of true true) p.within
      ∙ answer-next 0 (test 22 true ∷ test 3 true ∷ ts) bytes room refl
      ∙ answer-next 0 (test 3 true ∷ ts) bytes room refl
      ∙ answer-next 0 ts bytes room refl

  pub read-refused : (n : ℕ) → n ≡ call_refusal call s → 0 < call_refusal call s → whole-answer ≡ record { number = n; written = [] }
  unfolding call_refusal verdict answer-of
  read-refused n e l = go (call_laid_out call s) (none_twice (read_volume s)) (list_within (read_call s)) e l
    where
      stopped : (m : ℕ) → n ≡ m → ◌≡◌ {A = Answer} (record { number = m; written = [] }) (record { number = n; written = [] })
      stopped m e = ap (λ (n : ℕ). record { number = n; written = [] }) (sym e)

      go :
          (a b c : Bool) → n ≡ verdict (test 2 a ∷ test 22 b ∷ test 3 c ∷ []) → 0 < verdict (test 2 a ∷ test 22 b ∷ test 3 c ∷ [])
          → answer-of a b c ≡ record { number = n; written = [] }
      go true true true e l = absurd (omega arith)
      go true true false e l =
          answer-next 0 (0 ∷ 3 ∷ ts) bytes room refl ∙ answer-next 0 (3 ∷ ts) bytes room refl
          ∙ answer-stops 3 ts bytes room (λ z. absurd (omega (arith, z)))
          ∙ stopped 3 e
      go true false c e l =
          answer-next 0 (22 ∷ test 3 c ∷ ts) bytes room refl ∙ answer-stops 22 (test 3 c ∷ ts) bytes room (λ z. absurd (omega (arith, z)))
          ∙ stopped 22 e
      go false b c e l = answer-stops 2 (test 22 b ∷ test 3 c ∷ ts) bytes room (λ z. absurd (omega (arith, z))) ∙ stopped 2 e

-- where the keys of trees 4, 11, 12 and 14 and the reserved buckets of a list that was read stand
pub record Located (r : ReadList) : Type 0 where
  pub alloc : KeysAt r.list.now r.alloc.places.now (read_volume r.list.now).trees.alloc
  pub freespace : KeysAt r.list.now r.freespace.places.now (read_volume r.list.now).trees.freespace
  pub need_discard : KeysAt r.list.now r.need_discard.places.now (read_volume r.list.now).trees.need_discard
  pub gens : KeysAt r.list.now r.gens.places.now (read_volume r.list.now).trees.gens
  pub reserved : BucketsAt r.list.now r.reserved.places.now (read_volume r.list.now).reserved

tree-located : {s : List ℕ} {t : ℕ} {ks : List Key} {r : Keys} → KeysRead s t ks r → KeysAt s r.places.now ks
tree-located {ks = ks} {r} q =
    subst (λ l. KeysAt l r.places.now ks) q.list (subst (λ l. KeysAt r.list.now r.places.now l) q.are (keys-at r.whole))

reserved-located : {s : List ℕ} {r : ReservedBuckets} → BucketsRead s r → BucketsAt s r.places.now (read_volume s).reserved
reserved-located {s} {r} q =
    subst (λ l. BucketsAt l r.places.now (read_volume s).reserved) q.list
    (subst (λ l. BucketsAt r.list.now r.places.now l) q.are (buckets-at r.whole))

pub located : {asked : Option ℕ} {r : ReadList} → ReadAs asked r → Located r
located c =
    record {
      alloc = tree-located c.read.alloc;
      freespace = tree-located c.read.freespace;
      need_discard = tree-located c.read.need_discard;
      gens = tree-located c.read.gens;
      reserved = reserved-located c.read.reserved;
    }

-- the requests of a placement, at most 1,024
pub pieces-read : {r : ReadList} → ReadAs (Some 1) r → PiecesAt r.list.now r.requests.now (read_call r.list.now).pieces × (length r.requests.now ≤ 1024)
unfolding call_list_of
pieces-read {r} c =
    let s = r.list.now in
    let few = (list-within (read_call s) (limits-kept 1 false s (call_kept 1 s c.passed))).1 in
    let at = pieces-located 1 false s (call_kept 1 s c.passed) c.read.requests in
    (at, omega (arith, at.count, few))

-- and of a release
pub freeds-read : {r : ReadList} → ReadAs (Some 2) r → FreedsAt r.list.now r.requests.now (read_call r.list.now).releases × (length r.requests.now ≤ 1024)
unfolding call_list_of
freeds-read {r} c =
    let s = r.list.now in
    let few = (list-within (read_call s) (limits-kept 2 false s (call_kept 2 s c.passed))).2 in
    let at = freeds-located 2 false s (call_kept 2 s c.passed) c.read.requests in
    (at, omega (arith, at.count, few))
