-- The outcome by what the tests find: refusals 2, 22, 3 and 21 in their order, and the generations.
use mathlib.Core.Path.{◌≡◌, refl, ap, sym, ◌∙◌}
use mathlib.Core.Bool.{Bool, true, false, ◌&&◌, and-false}
use Rattle.std.proofs.Common.{Result, Ok, Err}
use mathlib.Core.List.{List, [], ◌∷◌, ◌++◌}
use Prim.Native.Nat.{ℕ, ◌≤◌, ◌<◌}
use native.Mathlib.Omega.{arith}
use lib.ListN.{length, drop, length-map}
use borrow.Author.Tests.{ne_eqb}
use Rattle.wire.specs.Keys.{Key}
use Rattle.wire.specs.Kinds.{bucket_below}
use Rattle.wire.specs.declared.kinds.Bucket.{Bucket}
use Rattle.calls.specs.Lists.{in_order}
use Rattle.calls.specs.CallList.{volume_laid_out, none_twice}
use Rattle.calls.specs.Limits.{volume_within, buckets_within}
use Rattle.calls.specs.JointLookup.{joint_lookup}
use Rattle.calls.specs.Refusals.{test, verdict}
use Rattle.calls.specs.Answers.{Answer, answer, read_volume, with_visited, generations, looked_up, generations_outcome}
use Rattle.calls.proofs.answers.AnswerLaws.{generations-is}
use Rattle.calls.proofs.answers.OutcomeLaws.{answer-next, answer-stops, answer-short, answer-fits, looked-refused, looked-accepted}
use Rattle.reader.specs.Readings.{volume_refusal}
use Rattle.reader.specs.Refusals.{number_in, looked_up_by}
use Rattle.reader.specs.declared.refusal.Refusal.{Refusal}
use Rattle.reader.proofs.PartsLaws.{volume-passed}
use Rattle.gens.specs.Joint.{Looked}

-- a refused answer visits no key
with-refused : (visited : ℕ) {n : ℕ} {a : Answer} → (n ≡ 0 → ⊥) → a ≡ record { number = n; written = [] }
    → with_visited visited a ≡ record { number = n; written = []; visited = 0 }
with-refused visited {n} z e = ap (with_visited visited) e ∙ rw (ne_eqb n 0 z)

-- the first of 2, 22 and 3 that the volume meets, where the buckets ascend
first-refusal : (bytes : List ℕ) (room : ℕ) (a b c w : Bool) → 0 < verdict (test 2 a ∷ test 22 b ∷ test 3 c ∷ [])
    → answer (test 2 (a && true) ∷ test 22 b ∷ test 3 (c && w) ∷ []) bytes room
    ≡ record { number = verdict (test 2 a ∷ test 22 b ∷ test 3 c ∷ []); written = [] }
unfolding verdict
first-refusal bytes room false b c w h = answer-stops 2 _ bytes room (λ z. omega arith)
first-refusal bytes room true false c w h = answer-next 0 _ bytes room refl ∙ answer-stops 22 _ bytes room (λ z. omega arith)
first-refusal bytes room true true false w h =
    answer-next 0 _ bytes room refl ∙ answer-next 0 _ bytes room refl ∙ answer-stops 3 _ bytes room (λ z. omega arith)
first-refusal bytes room true true true w h = absurd (omega arith)

module _ (s : List ℕ) (bs : List Bucket) (out : List ℕ) where
  abbrev room : ℕ
  room = length out

  abbrev gens : List Key
  gens = (read_volume s).trees.gens

  abbrev bytes : List ℕ
  bytes = (joint_lookup gens bs).generations

  -- the answer by its tests
  answer-by : Bool → Bool → Bool → Answer
  answer-by a b c = answer (test 2 a ∷ test 22 b ∷ test 3 c ∷ []) bytes room

  by_tests : generations s bs room
      ≡ with_visited (joint_lookup gens bs).visited
      (answer-by (volume_laid_out s && in_order bucket_below bs) (none_twice (read_volume s)) (volume_within (read_volume s) && buckets_within bs))
  unfolding answer-by
  by_tests = generations-is s bs room

  -- it is refused
  refused-by : (n : ℕ) → (n ≡ 0 → ⊥)
      → answer-by (volume_laid_out s && in_order bucket_below bs) (none_twice (read_volume s)) (volume_within (read_volume s) && buckets_within bs)
      ≡ record { number = n; written = [] }
      → looked_up n 0 out ≡ generations_outcome (generations s bs room) out
  refused-by n z e = looked-refused n out (by_tests ∙ with-refused (joint_lookup gens bs).visited z e) refl

  pub not-ascending : in_order bucket_below bs ≡ false → looked_up 2 0 out ≡ generations_outcome (generations s bs room) out
  unfolding answer-by
  not-ascending o =
      refused-by 2 (λ z. omega arith)
      (ap (λ (t : Bool). answer-by (volume_laid_out s && t) (none_twice (read_volume s)) (volume_within (read_volume s) && buckets_within bs)) o
      ∙ ap (λ (t : Bool). answer-by t (none_twice (read_volume s)) (volume_within (read_volume s) && buckets_within bs)) (and-false (volume_laid_out s))
      ∙ answer-stops 2 _ bytes room (λ z. omega arith))

  module _ (o : in_order bucket_below bs ≡ true) where
    refused-volume : {n : ℕ} → n ≡ volume_refusal s → 0 < volume_refusal s → looked_up n 0 out ≡ generations_outcome (generations s bs room) out
    unfolding answer-by volume_refusal
    refused-volume {n} e l =
        refused-by n (λ z. omega (arith, e, l))
        (ap (λ (t : Bool). answer-by (volume_laid_out s && t) (none_twice (read_volume s)) (volume_within (read_volume s) && buckets_within bs)) o
        ∙ first-refusal bytes room (volume_laid_out s) (none_twice (read_volume s)) (volume_within (read_volume s)) (buckets_within bs) l
        ∙ (λ i. record { number = sym e i; written = [] }))

    pub volume-refused : (result : Result ℕ Refusal) → number_in result ≡ volume_refusal s → 0 < volume_refusal s
        → looked_up_by result out ≡ generations_outcome (generations s bs room) out
    volume-refused (Ok visited) e l = absurd (omega arith)
    volume-refused (Err r) e l = refused-volume e l

    module _ (z : 0 ≡ volume_refusal s) where
      -- the volume meets none
      passed : (w : Bool) → buckets_within bs ≡ w
          → answer-by (volume_laid_out s && in_order bucket_below bs) (none_twice (read_volume s)) (volume_within (read_volume s) && buckets_within bs)
          ≡ answer (test 3 w ∷ []) bytes room
      unfolding answer-by
      passed w e =
          let p = volume-passed s z in
          (λ i. answer-by (p.laid i && o i) (p.once i) (p.within i && e i)) ∙ answer-next 0 _ bytes room refl ∙ answer-next 0 _ bytes room refl

      pub too-many-asked : buckets_within bs ≡ false → looked_up 3 0 out ≡ generations_outcome (generations s bs room) out
      too-many-asked w = refused-by 3 (λ z. omega arith) (passed false w ∙ answer-stops 3 [] bytes room (λ z. omega arith))

      module _ (w : buckets_within bs ≡ true) where
        left : answer-by (volume_laid_out s && in_order bucket_below bs) (none_twice (read_volume s)) (volume_within (read_volume s) && buckets_within bs)
            ≡ answer [] bytes room
        left = passed true w ∙ answer-next 0 [] bytes room refl

        bytes-many : length bytes ≡ length bs
        unfolding joint_lookup
        bytes-many = length-map bs _

        pub no-room-left : room < length bs → looked_up 21 0 out ≡ generations_outcome (generations s bs room) out
        no-room-left h = refused-by 21 (λ z. omega arith) (left ∙ answer-short bytes room (omega (arith, bytes-many)))

        pub all-looked-up : {after : List ℕ} {visited : ℕ} → length bs ≤ room → Looked gens bs out after visited
            → looked_up 0 visited after ≡ generations_outcome (generations s bs room) out
        all-looked-up {after} {visited} h l =
            looked-accepted bytes out
            (by_tests ∙ ap (with_visited (joint_lookup gens bs).visited) (left ∙ answer-fits bytes room (omega (arith, bytes-many)))
            ∙ (λ i. record { number = 0; written = bytes; visited = sym l.count i }))
            (l.output ∙ ap (λ (n : ℕ). bytes ++ drop n out) (sym bytes-many))
