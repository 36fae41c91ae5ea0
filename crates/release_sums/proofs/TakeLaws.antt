-- The sums are taken out of the scratch, one after the other.
use mathlib.Core.Path.{◌≡◌, refl, sym, ap, ◌∙◌}
use mathlib.Core.Bool.{Bool, true, false, cond}
use Prim.Native.Nat.{ℕ, zero, suc, ◌+◌, ◌-◌, ◌*◌, ◌/◌, ◌≤◌, ◌<◌}
use native.Mathlib.Nat.{add-zero}
use native.Mathlib.Omega.{arith}
use mathlib.Core.List.{List, [], ◌∷◌, ◌++◌, map}
use lib.ListN.{length, get_or, set, take, drop, replicate, replicate-append-replicate, length-drop}
use lib.Seq.{get_or-set_other}
use lib.Dec.{eqb, ltb}
use borrow.Author.Tests.{lt-ltb, le-ltb, ltb-true, ltb-false, eqb-true, eqb-false}
use Rattle.std.specs.List.{prefix_len}
use Rattle.std.proofs.lemmas.List.{take_more, take_more_set, get_or-take, get_or-drop, length-take-le}
use Rattle.std.proofs.lemmas.List.Sums.{prefix_len-le-length, prefix_len_passes, prefix_len_stops}
use Rattle.wire.specs.Kinds.{buckets_from}
use Rattle.wire.specs.declared.kinds.Bucket.{Bucket}
use Rattle.calls.specs.Lists.{those}
use Rattle.calls.proofs.history.View.{bucket}
use Rattle.release_sums.specs.Summing.{Marked, FirstSum, sum_of, summed_from}
use Rattle.release_sums.specs.declared.sums.BucketSum.{BucketSum}
use Rattle.release_sums.specs.SumsLeft.{bucket_sum, sums_from}

-- ---- the buckets whose sum is not 0
summed-next : (sums : List ℕ) (n i : ℕ) → summed_from (suc n) (bucket i) sums ≡ cond (ltb 0 (get_or sums i 0)) (bucket i ∷ summed_from n (bucket (i + 1)) sums) (summed_from n (bucket (i + 1)) sums)
unfolding summed_from buckets_from those
summed-next sums n i = refl

summed-none : (sums : List ℕ) (n i : ℕ) → n ≡ 0 → summed_from n (bucket i) sums ≡ []
unfolding summed_from buckets_from those
summed-none sums n i e = rw e

summed-hit : (sums : List ℕ) (n i : ℕ) → 0 < get_or sums i 0 → summed_from (suc n) (bucket i) sums ≡ bucket i ∷ summed_from n (bucket (i + 1)) sums
summed-hit sums n i h = rw (summed-next sums n i, lt-ltb 0 (get_or sums i 0) h)

summed-miss : (sums : List ℕ) (n i : ℕ) → get_or sums i 0 ≤ 0 → summed_from (suc n) (bucket i) sums ≡ summed_from n (bucket (i + 1)) sums
summed-miss sums n i h = rw (summed-next sums n i, le-ltb 0 (get_or sums i 0) h)

-- sums that agree from a first one on name the same buckets, with the same sums
module _ (s t : List ℕ) where
  summed_same : (n i : ℕ) → ((j : ℕ) → i ≤ j → get_or s j 0 ≡ get_or t j 0) → summed_from n (bucket i) s ≡ summed_from n (bucket i) t
  summed_same zero i h = summed-none s 0 i refl ∙ sym (summed-none t 0 i refl)
  summed_same (suc n) i h =
      rw (summed-next s n i, summed-next t n i, h i (omega arith), summed_same n (i + 1) (λ j l. h j (omega arith)))

  rows-same : (n i : ℕ) → ((j : ℕ) → i ≤ j → get_or s j 0 ≡ get_or t j 0)
      → map (bucket_sum (sum_of s)) (summed_from n (bucket i) t) ≡ map (bucket_sum (sum_of t)) (summed_from n (bucket i) t)
  rows-same zero i h = rw (summed-none t 0 i refl)
  rows-same (suc n) i h = rw (summed-next t n i) (go (ltb 0 (get_or t i 0)) (rows-same n (i + 1) (λ j l. h j (omega arith))))
    where
      go : (u : Bool) → map (bucket_sum (sum_of s)) (summed_from n (bucket (i + 1)) t) ≡ map (bucket_sum (sum_of t)) (summed_from n (bucket (i + 1)) t)
          → map (bucket_sum (sum_of s)) (cond u (bucket i ∷ summed_from n (bucket (i + 1)) t) (summed_from n (bucket (i + 1)) t))
          ≡ map (bucket_sum (sum_of t)) (cond u (bucket i ∷ summed_from n (bucket (i + 1)) t) (summed_from n (bucket (i + 1)) t))
      go true q = rw (h i (omega arith), q)
      go false q = q

-- ---- the sums that are taken out are 0
zero-next : (i : ℕ) → replicate i 0 ++ (0 ∷ []) ≡ replicate {A = ℕ} (i + 1) 0
zero-next i = replicate-append-replicate i 1 0

module _ (s : List ℕ) {b : ℕ} (z : take b s ≡ replicate b 0) where
  pub taken-one : b < length s → take (b + 1) (set s b 0) ≡ replicate (b + 1) 0
  taken-one h = take_more_set s b 0 h ∙ ap (λ (l : List ℕ). l ++ (0 ∷ [])) z ∙ zero-next b

  taken-next : b < length s → get_or s b 0 ≡ 0 → take (b + 1) s ≡ replicate (b + 1) 0
  taken-next h e = take_more s b 0 h ∙ ap (λ (l : List ℕ). l ++ (get_or s b 0 ∷ [])) z ∙ ap (λ (x : ℕ). replicate b 0 ++ (x ∷ [])) e ∙ zero-next b

-- the next m are 0
taken-many : (s : List ℕ) {b : ℕ} (m : ℕ) → take b s ≡ replicate b 0 → b + m ≤ length s → ((j : ℕ) → b ≤ j → j < b + m → get_or s j 0 ≡ 0)
    → take (b + m) s ≡ replicate (b + m) 0
taken-many s zero z h e = rw (add-zero) z
taken-many s {b} (suc m) z h e =
    let q : b + suc m ≡ b + m + 1 = omega arith in
    rw q (taken-next s (taken-many s m z (omega arith) (λ j l k. e j l (omega arith))) (omega arith) (e (b + m) (omega arith) (omega arith)))

-- ---- those that are left
module _ (s : List ℕ) (b : ℕ) where
  next : b < 65536 → 65536 - b ≡ suc (65536 - (b + 1))
  next h = omega arith

  others : (j : ℕ) → b + 1 ≤ j → get_or s j 0 ≡ get_or (set s b 0) j 0
  others j h = sym (get_or-set_other s b j 0 0 (λ e. omega (arith, e)))

  rest-same : sums_from (b + 1) s ≡ sums_from (b + 1) (set s b 0)
  unfolding sums_from
  rest-same =
      let n = 65536 - (b + 1) in
      ap (map (bucket_sum (sum_of s))) (summed_same s (set s b 0) n (b + 1) others) ∙ rows-same s (set s b 0) n (b + 1) others

  first-hit : b < 65536 → 0 < get_or s b 0 → sums_from b s ≡ bucket_sum (sum_of s) (bucket b) ∷ sums_from (b + 1) s
  unfolding sums_from
  first-hit h k = rw (next h, summed-hit s (65536 - (b + 1)) b k) refl

  pub left-hit : b < 65536 → 0 < get_or s b 0 → sums_from b s ≡ bucket_sum (sum_of s) (bucket b) ∷ sums_from (b + 1) (set s b 0)
  left-hit h k = first-hit h k ∙ ap (λ (l : List BucketSum). bucket_sum (sum_of s) (bucket b) ∷ l) rest-same

  left-next : b < 65536 → get_or s b 0 ≡ 0 → sums_from b s ≡ sums_from (b + 1) s
  unfolding sums_from
  left-next h k = rw (next h, summed-miss s (65536 - (b + 1)) b (omega arith)) refl

  pub left-miss : b < 65536 → get_or s b 0 ≡ 0 → sums_from b s ≡ sums_from (b + 1) (set s b 0)
  left-miss h k = left-next h k ∙ rest-same

  pub left-end : 65536 ≤ b → sums_from b s ≡ []
  unfolding sums_from
  left-end h = rw (summed-none s (65536 - b) b (omega arith)) refl

left-many : (s : List ℕ) (b m : ℕ) → b + m ≤ 65536 → ((j : ℕ) → b ≤ j → j < b + m → get_or s j 0 ≡ 0) → sums_from b s ≡ sums_from (b + m) s
left-many s b zero h e = rw (add-zero) refl
left-many s b (suc m) h e =
    let q : b + suc m ≡ b + m + 1 = omega arith in
    left-many s b m (omega arith) (λ j l k. e j l (omega arith)) ∙ rw q (left-next s (b + m) (omega arith) (e (b + m) (omega arith) (omega arith)))

-- ---- the sums from a first one on, before an end, are 0
abbrev pub NoneFrom : List ℕ → ℕ → ℕ → Type 0
NoneFrom sums from end = (b : Bucket) → from ≤ b.0 → b.0 < end → sum_of sums b ≡ 0

module _ (sums : List ℕ) {from end : ℕ} (z : NoneFrom sums from end) (h : from ≤ end) (l : end ≤ 65536) where
  passed : from + (end - from) ≡ end
  passed = omega (arith, h)

  none : (j : ℕ) → from ≤ j → j < from + (end - from) → get_or sums j 0 ≡ 0
  none j i k = z (bucket j) i (omega (arith, h))

  taken-none : take from sums ≡ replicate from 0 → 65536 ≤ length sums → take end sums ≡ replicate end 0
  taken-none t n = rw (← passed) (taken-many sums (end - from) t (omega (arith, h, l)) none)

  left-none : sums_from from sums ≡ sums_from end sums
  left-none = rw (← passed) (left-many sums from (end - from) (omega (arith, h, l)) none)

-- ---- the first bucket whose sum is not 0
module _ {sums : List ℕ} {from first : ℕ} (f : FirstSum sums from 65536 first) where
  pub taken-first : take from sums ≡ replicate from 0 → 65536 ≤ length sums → take first sums ≡ replicate first 0
  taken-first z l = taken-none sums f.zero f.within.0 f.within.1 z l

  pub left-first : sums_from from sums ≡ sums_from first sums
  left-first = left-none sums f.zero f.within.0 f.within.1

-- ---- the walk over the groups
pub none-yet : (sums : List ℕ) (next : ℕ) → NoneFrom sums next next
none-yet sums next b i k = absurd (omega arith)

none-more : (sums : List ℕ) {next from end : ℕ} → NoneFrom sums next from → NoneFrom sums from end → NoneFrom sums next end
none-more sums {from = from} z h b i k = go (ltb b.0 from) refl
  where
    go : (t : Bool) → ltb b.0 from ≡ t → sum_of sums b ≡ 0
    go true e = z b i (ltb-true b.0 from e)
    go false e = h b (ltb-false b.0 from e) k

module _ {sums : List ℕ} {next from group : ℕ} (z : NoneFrom sums next from) (l : group < 1024) where
  -- a group that is not marked
  pub none-unmarked : {marks : List Bool} → Marked sums marks → from / 64 ≡ group → get_or marks group false ≡ false → NoneFrom sums next ((group + 1) * 64)
  none-unmarked {marks} m h e =
      none-more sums z (λ b i k.
      let d : b.0 / 64 ≡ group = omega arith in
      m.zero b (lt-ltb b.0 65536 (omega arith)) (ap (λ (g : ℕ). get_or marks g false) d ∙ e))

  -- one that is
  module _ {first : ℕ} (f : FirstSum sums from ((group + 1) * 64) first) where
    pub none-marked : (group + 1) * 64 ≤ first → NoneFrom sums next ((group + 1) * 64)
    none-marked q = none-more sums z (λ b i k. f.zero b i (omega arith))

    pub first-marked : next ≤ from → first < (group + 1) * 64 → FirstSum sums next 65536 first
    first-marked p q = record { within = (omega (arith, f.within), omega arith); zero = none-more sums z f.zero; found = λ k. f.found q }

-- the rest of a group that is not marked
module _ {sums : List ℕ} {marks : List Bool} (m : Marked sums marks) (b : ℕ) (h : b < 65536) (e : get_or marks (b / 64) false ≡ false) where
  unmarked : NoneFrom sums b ((b / 64 + 1) * 64)
  unmarked = none-unmarked (none-yet sums b) (omega arith) m refl e

  pub taken-group : take b sums ≡ replicate b 0 → 65536 ≤ length sums → take ((b / 64 + 1) * 64) sums ≡ replicate ((b / 64 + 1) * 64) 0
  taken-group z l = taken-none sums unmarked (omega arith) (omega arith) z l

  pub left-group : sums_from b sums ≡ sums_from ((b / 64 + 1) * 64) sums
  left-group = left-none sums unmarked (omega arith) (omega arith)

pub first-none : {sums : List ℕ} {next from : ℕ} → next ≤ 65536 → NoneFrom sums next from → 65536 ≤ from → FirstSum sums next 65536 65536
first-none h z l = record { within = (h, omega arith); zero = λ b i k. z b i (omega arith); found = λ k. absurd (omega arith) }

-- the walk in a group ends at its first bucket whose sum is not 0
abbrev pub is_zero : ℕ → Bool
is_zero x = eqb x 0

module _ (sums : List ℕ) (from end : ℕ) (h : from ≤ end) (l : end ≤ length sums) where
  abbrev pub walked : List ℕ
  walked = drop from (take end sums)

  walked-length : length walked ≡ end - from
  walked-length = length-drop from (take end sums) ∙ ap (λ (n : ℕ). n - from) (length-take-le end sums l)

  walked_at : (j : ℕ) → from ≤ j → j < end → get_or walked (j - from) 0 ≡ get_or sums j 0
  walked_at j i k =
      let e : from + (j - from) ≡ j = omega arith in
      get_or-drop from (take end sums) (j - from) 0 ∙ ap (λ (n : ℕ). get_or (take end sums) n 0) e ∙ get_or-take end sums j 0 k

  pub first-walked : {first : ℕ} → first ≡ from + prefix_len is_zero walked → FirstSum sums from end first
  first-walked {first} e =
      let q : from + prefix_len is_zero walked ≤ end = omega (arith, prefix_len-le-length is_zero walked, walked-length) in
      let n : prefix_len is_zero walked ≡ first - from = omega (arith, e) in
      record {
        within = (omega (arith, e), omega (arith, e, q));
        zero = λ b i k. sym (walked_at b.0 i (omega (arith, e, q))) ∙ eqb-true (get_or walked (b.0 - from) 0) 0 (prefix_len_passes is_zero walked (b.0 - from) 0 (omega (arith, e)));
        found = λ k.
            let s : is_zero (get_or walked (prefix_len is_zero walked) 0) ≡ false = prefix_len_stops is_zero walked 0 (omega (arith, e, walked-length)) in
            omega (arith, eqb-false (get_or walked (first - from) 0) 0 (rw n at s), walked_at first (omega (arith, e)) k);
      }
