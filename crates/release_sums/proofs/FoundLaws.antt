-- The buckets whose sum is not 0 are those that requests name.
use mathlib.Core.Path.{◌≡◌, refl, sym, ap, ◌∙◌}
use mathlib.Core.Bool.{Bool, true, false, ◌&&◌, ◌||◌}
use Prim.Native.Nat.{ℕ, zero, suc, ◌+◌, ◌≤◌, ◌<◌, compare, Ordering}
use native.Mathlib.Omega.{arith}
use mathlib.Core.List.{List, [], ◌∷◌, map}
use lib.Dec.{ltb, eqb}
use borrow.Author.Tests.{lt-ltb, ltb-true, ltb-false, eqb-true, eqb-false, eq-eqb, ne_eqb}
use Rattle.wire.specs.Kinds.{same_bucket, bucket_of, buckets_from, no_bucket}
use Rattle.wire.specs.declared.kinds.Bucket.{Bucket}
use Rattle.wire.proofs.OrderLaws.{use-lt, use-eq, use-gt}
use Rattle.calls.specs.CallList.{Freed}
use Rattle.calls.specs.Lists.{all_of, any_of}
use Rattle.calls.specs.Buckets.{insert_bucket, insert_buckets}
use Rattle.calls.specs.Freespace.{is_in}
use Rattle.calls.specs.Release.{freed_ok, freed_buckets}
use Rattle.calls.proofs.freespace.UpLaws.{Up, up-weak, up-insert, up-those}
use Rattle.calls.proofs.lists.BoolLaws.{clash}
use Rattle.calls.proofs.freespace.BucketLaws.{is_in-those}
use Rattle.calls.proofs.release.ReleaseLaws.{named-freed, named-range}
use Rattle.calls.proofs.history.View.{bucket}
use Rattle.release_sums.specs.Summing.{Summed, sum_of, summed_buckets, summed_from}

-- ---- ascending lists with the same buckets are the same
up-below : (n : ℕ) (l : List Bucket) → Up n l → (b : Bucket) → b.0 < n → is_in l b ≡ false
unfolding is_in any_of
up-below n [] u b h = refl
up-below n (c ∷ cs) u b h =
    rw (ne_eqb c.0 b.0 (λ e. omega (arith, u.0))) (up-below (suc c.0) cs u.1 b (omega (arith, u.0)))

own : (b : Bucket) (l : List Bucket) → is_in (b ∷ l) b ≡ true
unfolding is_in any_of
own b l = rw (eq-eqb b.0 b.0 refl)

tail-same : (a : Bucket) (l m : List Bucket) → Up (suc a.0) l → Up (suc a.0) m → ((c : Bucket) → is_in (a ∷ l) c ≡ is_in (a ∷ m) c)
    → (c : Bucket) → is_in l c ≡ is_in m c
unfolding is_in any_of
tail-same a l m u w h c = go (same_bucket a c) refl (h c)
  where
    go : (t : Bool) → same_bucket a c ≡ t → (t || is_in l c) ≡ (t || is_in m c) → is_in l c ≡ is_in m c
    go true e q =
        let d : c.0 < suc a.0 = omega (arith, eqb-true a.0 c.0 e) in
        up-below (suc a.0) l u c d ∙ sym (up-below (suc a.0) m w c d)
    go false e q = q

pub up_same : (n : ℕ) (l m : List Bucket) → Up n l → Up n m → ((b : Bucket) → is_in l b ≡ is_in m b) → l ≡ m
up_same n [] [] u w h = refl
up_same n [] (b ∷ m) u w h = absurd (clash (own b m) (sym (h b) ∙ up-below (suc b.0) [] tt b (omega arith)))
up_same n (a ∷ l) [] u w h = absurd (clash (own a l) (h a ∙ up-below (suc a.0) [] tt a (omega arith)))
up_same n (a ∷ l) (b ∷ m) u w h = go (compare a.0 b.0) refl (λ v k. up_same (suc a.0) l m u.1 v k)
  where
    go : (o : Ordering) → compare a.0 b.0 ≡ o → (Up (suc a.0) m → ((c : Bucket) → is_in l c ≡ is_in m c) → l ≡ m) → a ∷ l ≡ b ∷ m
    go Ordering.lt e ih = absurd (clash (own a l) (h a ∙ up-below b.0 (b ∷ m) (omega arith, w.1) a (use-lt a.0 b.0 e)))
    go Ordering.gt e ih = absurd (clash (own b m) (sym (h b) ∙ up-below a.0 (a ∷ l) (omega arith, u.1) b (use-gt a.0 b.0 e)))
    go Ordering.eq e ih =
        let p : a ≡ b = ap bucket (use-eq a.0 b.0 e) in
        let v : Up (suc a.0) m = rw p w.1 in
        let k : (c : Bucket) → is_in (a ∷ l) c ≡ is_in (a ∷ m) c = λ c. h c ∙ ap (λ (x : Bucket). is_in (x ∷ m) c) (sym p) in
        λ x. p x ∷ ih v (tail-same a l m u.1 v k) x

-- ---- the buckets from a first one on
up_from : (n i : ℕ) → Up i (buckets_from n (bucket i))
unfolding buckets_from
up_from zero i = tt
up_from (suc n) i = (omega arith, up-weak (suc i) (i + 1) (buckets_from n (bucket (i + 1))) (omega arith) (up_from n (i + 1)))

in-from : (n i : ℕ) (b : Bucket) → i ≤ b.0 → b.0 < i + n → is_in (buckets_from n (bucket i)) b ≡ true
unfolding buckets_from is_in any_of
in-from zero i b h k = absurd (omega arith)
in-from (suc n) i b h k = go (eqb i b.0) refl (λ l. in-from n (i + 1) b l (omega arith))
  where
    go : (t : Bool) → eqb i b.0 ≡ t → (i + 1 ≤ b.0 → is_in (buckets_from n (bucket (i + 1))) b ≡ true)
        → (t || is_in (buckets_from n (bucket (i + 1))) b) ≡ true
    go true e ih = refl
    go false e ih = let d = eqb-false i b.0 e in ih (omega arith)

from-high : (n i : ℕ) (b : Bucket) → i + n ≤ b.0 → is_in (buckets_from n (bucket i)) b ≡ false
unfolding buckets_from is_in any_of
from-high zero i b h = refl
from-high (suc n) i b h = rw (ne_eqb i b.0 (λ e. omega arith)) (from-high n (i + 1) b (omega arith))

-- ---- the lists that requests make
inserts-up : (ns l : List Bucket) → Up 0 l → Up 0 (insert_buckets ns l)
unfolding insert_buckets
inserts-up [] l u = u
inserts-up (b ∷ ns) l u = inserts-up ns (insert_bucket b l) (up-insert 0 b l (omega arith) u)

pub freed-up : (sectors : ℕ) (rs : List Freed) → Up 0 (freed_buckets sectors rs)
unfolding freed_buckets
freed-up sectors rs = inserts-up (map (λ (r : Freed). bucket_of r.first sectors) rs) [] tt

module _ (sectors : ℕ) (rs : List Freed) (sums : List ℕ) (s : Summed sectors rs sums) (ok : all_of (freed_ok sectors) rs ≡ true) where
  same_in : (b : Bucket) → is_in (summed_buckets sums) b ≡ is_in (freed_buckets sectors rs) b
  unfolding summed_buckets summed_from
  same_in b = is_in-those (λ (c : Bucket). ltb 0 (sum_of sums c)) (buckets_from 65536 no_bucket) b ∙ go (ltb b.0 65536) refl
    where
      high : (t : Bool) → is_in (freed_buckets sectors rs) b ≡ t → ltb b.0 65536 ≡ false → is_in (freed_buckets sectors rs) b ≡ false
      high true e d = absurd (clash (lt-ltb b.0 65536 (named-range sectors rs ok b e)) d)
      high false e d = e

      and_no : (t u : Bool) → u ≡ false → (t && u) ≡ false
      and_no true u e = e
      and_no false u e = refl

      and_yes : (t u : Bool) → u ≡ true → (t && u) ≡ t
      and_yes true u e = e
      and_yes false u e = refl

      go : (t : Bool) → ltb b.0 65536 ≡ t → (ltb 0 (sum_of sums b) && is_in (buckets_from 65536 no_bucket) b) ≡ is_in (freed_buckets sectors rs) b
      go true e =
          let h = ltb-true b.0 65536 e in
          and_yes (ltb 0 (sum_of sums b)) (is_in (buckets_from 65536 no_bucket) b) (in-from 65536 0 b (omega arith) (omega arith))
          ∙ ap (ltb 0) (s.at b e)
          ∙ sym (named-freed sectors rs ok b)
      go false e =
          and_no (ltb 0 (sum_of sums b)) (is_in (buckets_from 65536 no_bucket) b) (from-high 65536 0 b (omega (arith, ltb-false b.0 65536 e)))
          ∙ sym (high (is_in (freed_buckets sectors rs) b) refl e)

  -- the buckets that were found are those that requests name
  pub found-freed : summed_buckets sums ≡ freed_buckets sectors rs
  unfolding summed_buckets summed_from
  found-freed =
      up_same 0 (summed_buckets sums) (freed_buckets sectors rs)
      (up-those (λ (c : Bucket). ltb 0 (sum_of sums c)) 0 (buckets_from 65536 no_bucket) (up_from 65536 0)) (freed-up sectors rs) same_in
