-- From the lists that were read to the tables, and from the refusals to the answer.
use mathlib.Core.Path.{◌≡◌, refl, sym, ap, ◌∙◌}
use mathlib.Core.Bool.{Bool, true, false, not}
use mathlib.Core.List.{List, [], ◌∷◌, ◌++◌, map}
use Prim.Native.Nat.{ℕ, zero, suc, ◌≤◌, ◌<◌}
use native.Mathlib.Omega.{arith}
use Rattle.std.specs.Int.NonZero.{non_zero_u64_get}
use Rattle.std.specs.Option.{ok_or}
use Rattle.std.specs.Result.{result_ok}
use Rattle.std.specs.declared.num.NonZeroU64.{NonZeroU64}
use Rattle.std.proofs.Common.{Option, Result, Ok, Err, MatchOption}
use Rattle.std.proofs.lemmas.Option.{MatchOption-at_some, MatchOption-at_none}
use lib.ListN.{length, get_or, drop, replicate}
use borrow.Author.Tests.{eq-eqb, ne_eqb, lt-ltb}
use Rattle.calls.specs.Answers.{Answer, answer, Outcome, made, outcome}
use Rattle.calls.specs.CallList.{Volume, Freed}
use Rattle.calls.specs.Lists.{all_of}
use Rattle.calls.specs.Refusals.{test, verdict}
use Rattle.calls.specs.Release.{freed_ok, freed_buckets, bucket_refusal, release_tests}
use Rattle.calls.proofs.answers.OutcomeLaws.{answer-next, answer-stops, refused}
use Rattle.calls.proofs.history.View.{bucket}
use Rattle.release_sums.specs.Freeds.{Requested}
use Rattle.release_sums.specs.Summing.{Cleared}
use Rattle.release_keys.specs.Given.{volume_in, requests_in, RequestsChecked}
use Rattle.release.specs.Given.{change_of}
use Rattle.release.specs.Outcomes.{bucket_tests}
use Rattle.reader.specs.declared.refusal.Refusal.{Refusal}
use Rattle.reader.specs.declared.read_list.ReadList.{ReadList}

-- ---- refusal 4: the sectors of a bucket, which are not 0
module _ {n : ℕ} {o : Option NonZeroU64} {r : Result NonZeroU64 Refusal} (made_of : MatchOption o (n ≡ 0) (λ x. non_zero_u64_get x ≡ n)) (is : o ≡ result_ok r) where
  pub sectors-some : {x : NonZeroU64} → r ≡ Ok x → (non_zero_u64_get x ≡ n) × (n ≡ 0 → ⊥)
  sectors-some {x} e =
      let same = MatchOption-at_some (n ≡ 0) (λ y. non_zero_u64_get y ≡ n) x (is ∙ ap result_ok e) made_of in
      (same, λ z. omega (arith, z, same, x.ok))

  pub sectors-none : {x y : Refusal} → r ≡ ok_or o y → r ≡ Err x → (x ≡ y) × (n ≡ 0)
  sectors-none {x} {y} v e =
      let none = is ∙ ap result_ok e in
      let same : Err x ≡ ok_or o y = sym e ∙ v in
      let err : x ≡ y = cc in
      (err, MatchOption-at_none (n ≡ 0) (λ a. non_zero_u64_get a ≡ n) none made_of)

-- ---- the requests
pub checked-made : {g : ReadList} → Requested g.list.now g.requests.now → length g.requests.now ≤ 1024 → g.head.bucket_sectors < 65536
    → all_of (freed_ok g.head.bucket_sectors) (requests_in g) ≡ true → RequestsChecked g
checked-made q f l ok = record { requested = q; few = f; small = l; checked = ok }

-- ---- refusals 15 to 19, and what follows
module _ (g : ReadList) (room : ℕ) (out : List ℕ) (r : ℕ) (e : r ≡ verdict (map (bucket_refusal (volume_in g) (requests_in g)) (freed_buckets g.head.bucket_sectors (requests_in g)))) where
  pub tables-stop : (r ≡ 0 → ⊥) → made r 0 out ≡ outcome (answer (bucket_tests (volume_in g) (requests_in g)) (change_of g) room) out
  tables-stop n = refused r out (ap (λ (x : ℕ). answer (x ∷ []) (change_of g) room) (sym e) ∙ answer-stops r [] (change_of g) room n) refl

  pub tables-go : {m : Outcome} → r ≡ 0 → m ≡ outcome (answer [] (change_of g) room) out → m ≡ outcome (answer (bucket_tests (volume_in g) (requests_in g)) (change_of g) room) out
  tables-go z o =
      o ∙ ap (λ (a : Answer). outcome a out) (sym (ap (λ (x : ℕ). answer (x ∷ []) (change_of g) room) (sym e ∙ z) ∙ answer-next 0 [] (change_of g) room refl))

-- ---- refusals 4 and 14, and what follows
module _ (v : Volume) (rs : List Freed) (bytes : List ℕ) (room : ℕ) (out : List ℕ) where
  pub lists-4 : v.head.bucket_sectors ≡ 0 → made 4 0 out ≡ outcome (answer (release_tests v rs) bytes room) out
  unfolding release_tests
  lists-4 e =
      refused 4 out
      (ap (λ (t : Bool). answer (test 4 (not t) ∷ test 14 (all_of (freed_ok v.head.bucket_sectors) rs) ∷ bucket_tests v rs) bytes room) (eq-eqb v.head.bucket_sectors 0 e)
      ∙ answer-stops 4 (test 14 (all_of (freed_ok v.head.bucket_sectors) rs) ∷ bucket_tests v rs) bytes room (λ z. omega arith)) refl

  module _ (n : v.head.bucket_sectors ≡ 0 → ⊥) where
    past-4 : answer (release_tests v rs) bytes room ≡ answer (test 14 (all_of (freed_ok v.head.bucket_sectors) rs) ∷ bucket_tests v rs) bytes room
    unfolding release_tests
    past-4 =
        ap (λ (t : Bool). answer (test 4 (not t) ∷ test 14 (all_of (freed_ok v.head.bucket_sectors) rs) ∷ bucket_tests v rs) bytes room) (ne_eqb v.head.bucket_sectors 0 n)
        ∙ answer-next 0 (test 14 (all_of (freed_ok v.head.bucket_sectors) rs) ∷ bucket_tests v rs) bytes room refl

    pub lists-14 : all_of (freed_ok v.head.bucket_sectors) rs ≡ false → made 14 0 out ≡ outcome (answer (release_tests v rs) bytes room) out
    lists-14 e =
        refused 14 out
        (past-4 ∙ ap (λ (t : Bool). answer (test 14 t ∷ bucket_tests v rs) bytes room) e ∙ answer-stops 14 (bucket_tests v rs) bytes room (λ z. omega arith)) refl

    pub lists-go : {m : Outcome} → all_of (freed_ok v.head.bucket_sectors) rs ≡ true
        → m ≡ outcome (answer (bucket_tests v rs) bytes room) out → m ≡ outcome (answer (release_tests v rs) bytes room) out
    lists-go e o =
        o ∙ ap (λ (a : Answer). outcome a out)
        (sym (past-4 ∙ ap (λ (t : Bool). answer (test 14 t ∷ bucket_tests v rs) bytes room) e ∙ answer-next 0 (bucket_tests v rs) bytes room refl))

-- ---- zeros
zeros-first : (n : ℕ) (l : List ℕ) → n ≤ length l → ((b : ℕ) → b < n → get_or l b 0 ≡ 0) → l ≡ replicate n 0 ++ drop n l
zeros-first zero l h z = refl
zeros-first (suc n) [] h z = absurd (omega arith)
zeros-first (suc n) (x ∷ l) h z = λ k. z 0 (omega arith) k ∷ zeros-first n l (omega arith) (λ b i. z (suc b) (omega arith)) k

-- a scratch that is cleared already
pub cleared-is : (sums : List ℕ) → Cleared sums → sums ≡ replicate 65536 0 ++ drop 65536 sums
cleared-is sums c = zeros-first 65536 sums c.long (λ b h. c.zero (bucket b) (lt-ltb b 65536 h))
