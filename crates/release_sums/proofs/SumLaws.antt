-- The sums in the scratch while requests are added up.
use mathlib.Core.Path.{◌≡◌, refl, sym, ap, ◌∙◌}
use mathlib.Core.Bool.{Bool, true, false, cond}
use Prim.Native.Nat.{ℕ, suc, ◌+◌, ◌*◌, ◌/◌, ◌≤◌, ◌<◌}
use native.Mathlib.Omega.{arith}
use mathlib.Core.List.{List, [], ◌∷◌}
use lib.ListN.{length, get_or, set, take, drop, replicate, length-set}
use lib.Seq.{get_or-set_same, get_or-set_other, drop-set-lt}
use lib.Dec.{eqb, ltb}
use borrow.Author.Tests.{eqb-true, eqb-false, lt-ltb, ltb-true}
use Rattle.wire.specs.Kinds.{same_bucket, bucket_of}
use Rattle.wire.specs.declared.kinds.Bucket.{Bucket}
use Rattle.calls.specs.CallList.{Freed}
use Rattle.calls.specs.Lists.{all_of, total}
use Rattle.calls.specs.Release.{freed_ok, freed_in}
use Rattle.calls.proofs.lists.BoolLaws.{parts, clash}
use Rattle.calls.proofs.history.View.{bucket}
use Rattle.release_sums.specs.Summing.{Cleared, Summed, Marked}
use Rattle.release_sums.proofs.FreedLaws.{within}

-- one request more or less
pub freed-next : (sectors : ℕ) (b : Bucket) {l : List Freed} {r : Freed} {rest : List Freed} → l ≡ r ∷ rest
    → freed_in sectors l b ≡ cond (same_bucket (bucket_of r.first sectors) b) r.sectors 0 + freed_in sectors rest b
unfolding freed_in total
freed-next sectors b e = ap (λ (l : List Freed). freed_in sectors l b) e

pub freed-none : (sectors : ℕ) (b : Bucket) {l : List Freed} → l ≡ [] → freed_in sectors l b ≡ 0
unfolding freed_in total
freed-none sectors b e = ap (λ (l : List Freed). freed_in sectors l b) e

-- no bucket's sum passes 128 for each request
pub freed-most : (sectors : ℕ) (b : Bucket) (rs : List Freed) → all_of (freed_ok sectors) rs ≡ true → freed_in sectors rs b ≤ 128 * length rs
unfolding freed_in total all_of
freed-most sectors b [] h = omega arith
freed-most sectors b (r ∷ rs) h =
    let p = parts (freed_ok sectors r) (all_of (freed_ok sectors) rs) h in
    go (same_bucket (bucket_of r.first sectors) b) (within sectors r p.0).few (freed-most sectors b rs p.1)
  where
    go : (t : Bool) → r.sectors ≤ 128 → freed_in sectors rs b ≤ 128 * length rs → cond t r.sectors 0 + freed_in sectors rs b ≤ 128 * suc (length rs)
    go true q ih = omega arith
    go false q ih = omega arith

-- The sums on their way: all requests but `rest` are added.
pub record Adding (sectors : ℕ) (rs rest : List Freed) (before sums : List ℕ) : Type 0 where
  pub size : length sums ≡ length before
  pub at : (b : ℕ) → b < 65536 → get_or sums b 0 + freed_in sectors rest (bucket b) ≡ freed_in sectors rs (bucket b)
  pub kept : drop 65536 sums ≡ drop 65536 before

pub add-starts : (sectors : ℕ) (rs : List Freed) (sums : List ℕ) → Cleared sums → Adding sectors rs rs sums sums
add-starts sectors rs sums z = record { size = refl; at = λ b h. omega (arith, z.zero (bucket b) (lt-ltb b 65536 h)); kept = refl }

module _ {sectors : ℕ} {rs rest : List Freed} {before sums : List ℕ} (a : Adding sectors rs rest before sums) where
  -- the sum at a bucket, with what is left to be added to it
  pub add_at : {r : Freed} {next : List Freed} (k : ℕ) → rest ≡ r ∷ next → (bucket_of r.first sectors).0 ≡ k → k < 65536
      → get_or sums k 0 + r.sectors + freed_in sectors next (bucket k) ≡ freed_in sectors rs (bucket k)
  add_at {r} {next} k e d h = go (same_bucket (bucket_of r.first sectors) (bucket k)) refl (freed-next sectors (bucket k) e)
    where
      go : (t : Bool) → same_bucket (bucket_of r.first sectors) (bucket k) ≡ t
          → freed_in sectors rest (bucket k) ≡ cond t r.sectors 0 + freed_in sectors next (bucket k)
          → get_or sums k 0 + r.sectors + freed_in sectors next (bucket k) ≡ freed_in sectors rs (bucket k)
      go true u f = omega (arith, a.at k h)
      go false u f = absurd (eqb-false (bucket_of r.first sectors).0 k u d)

  pub add_turn : {r : Freed} {next : List Freed} (k : ℕ) → 65536 ≤ length before → rest ≡ r ∷ next → (bucket_of r.first sectors).0 ≡ k → k < 65536
      → Adding sectors rs next before (set sums k (get_or sums k 0 + r.sectors))
  add_turn {r} {next} k l e d h =
      record {
        size = length-set sums k (get_or sums k 0 + r.sectors) ∙ a.size;
        at = λ b m. go b m (same_bucket (bucket_of r.first sectors) (bucket b)) refl (freed-next sectors (bucket b) e);
        kept = drop-set-lt 65536 sums k (get_or sums k 0 + r.sectors) h ∙ a.kept;
      }
    where
      go : (b : ℕ) → b < 65536 → (t : Bool) → same_bucket (bucket_of r.first sectors) (bucket b) ≡ t
          → freed_in sectors rest (bucket b) ≡ cond t r.sectors 0 + freed_in sectors next (bucket b)
          → get_or (set sums k (get_or sums k 0 + r.sectors)) b 0 + freed_in sectors next (bucket b) ≡ freed_in sectors rs (bucket b)
      go b m true u f =
          let q : k ≡ b = sym d ∙ eqb-true (bucket_of r.first sectors).0 b u in
          let g : get_or (set sums k (get_or sums k 0 + r.sectors)) k 0 ≡ get_or sums k 0 + r.sectors = get_or-set_same sums k (get_or sums k 0 + r.sectors) 0 (omega (arith, a.size)) in
          rw (← q, g) (add_at k e d h)
      go b m false u f =
          let q : b ≡ k → ⊥ = λ z. eqb-false (bucket_of r.first sectors).0 b u (d ∙ sym z) in
          rw (get_or-set_other sums k b (get_or sums k 0 + r.sectors) 0 q) (omega (arith, a.at b m))

  pub add-ends : 65536 ≤ length before → rest ≡ [] → Summed sectors rs sums × (drop 65536 sums ≡ drop 65536 before)
  add-ends l e =
      (record { long = omega (arith, a.size); at = λ b h. omega (arith, a.at b.0 (ltb-true b.0 65536 h), freed-none sectors b e) }, a.kept)

-- no sum is taken out
pub none-taken : {n : ℕ} (l : List ℕ) → n ≡ 0 → take n l ≡ replicate n 0
none-taken {n} l e = rw e refl

-- ---- the marks of the groups
-- one more group is marked
module _ {sums : List ℕ} {marks : List Bool} (m : Marked sums marks) (k : ℕ) (l : k < 65536) where
  pub group-marked : get_or (set marks (k / 64) true) (k / 64) false ≡ true
  group-marked = get_or-set_same marks (k / 64) true false (omega (arith, m.groups))

  pub marked-more : Marked sums (set marks (k / 64) true)
  marked-more =
      record { groups = length-set marks (k / 64) true ∙ m.groups; zero = λ b h e. go b h e (eqb (b.0 / 64) (k / 64)) refl }
    where
      go : (b : Bucket) → ltb b.0 65536 ≡ true → get_or (set marks (k / 64) true) (b.0 / 64) false ≡ false → (t : Bool) → eqb (b.0 / 64) (k / 64) ≡ t → get_or sums b.0 0 ≡ 0
      go b h e true u = absurd (clash group-marked (ap (λ (i : ℕ). get_or (set marks (k / 64) true) i false) (sym (eqb-true (b.0 / 64) (k / 64) u)) ∙ e))
      go b h e false u = m.zero b h (sym (get_or-set_other marks (k / 64) (b.0 / 64) true false (eqb-false (b.0 / 64) (k / 64) u)) ∙ e)

-- a bucket whose sum is not 0 is in a group that is marked
pub marked-sum : {sums : List ℕ} {marks : List Bool} → Marked sums marks → (k : ℕ) → k < 65536 → 0 < get_or sums k 0 → get_or marks (k / 64) false ≡ true
marked-sum {sums} {marks} m k h p = go (get_or marks (k / 64) false) refl
  where
    go : (t : Bool) → get_or marks (k / 64) false ≡ t → get_or marks (k / 64) false ≡ true
    go true e = e
    go false e = absurd (omega (arith, m.zero (bucket k) (lt-ltb k 65536 h) e))

-- a bucket's sum changes in a group that is marked
pub marked-set : {sums : List ℕ} {marks : List Bool} → Marked sums marks → (k x : ℕ) → get_or marks (k / 64) false ≡ true → Marked (set sums k x) marks
marked-set {sums} {marks} m k x l = record { groups = m.groups; zero = λ b h e. go b.0 h e (eqb b.0 k) refl }
  where
    go : (b : ℕ) → ltb b 65536 ≡ true → get_or marks (b / 64) false ≡ false → (t : Bool) → eqb b k ≡ t → get_or (set sums k x) b 0 ≡ 0
    go b h e true u =
        let q : get_or marks (k / 64) false ≡ false = ap (λ (i : ℕ). get_or marks (i / 64) false) (sym (eqb-true b k u)) ∙ e in
        absurd (clash l q)
    go b h e false u = get_or-set_other sums k b x 0 (eqb-false b k u) ∙ m.zero (bucket b) h e
