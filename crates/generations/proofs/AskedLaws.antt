-- The buckets asked for: the last of those that ascend is the highest.
use mathlib.Core.Path.{◌≡◌, refl, ap, sym, ◌∙◌}
use mathlib.Core.Bool.{Bool, true, false, ◌&&◌, and-true, and-false}
use mathlib.Core.List.{List, [], ◌∷◌}
use Prim.Native.Nat.{ℕ, zero, suc, ◌-◌, ◌≤◌, ◌<◌}
use native.Mathlib.Omega.{arith}
use lib.Dec.{ltb}
use lib.ListN.{length, get_or}
use borrow.Author.Tests.{lt-ltb, ltb-true, le-leb, lt-leb}
use Rattle.std.specs.Prelude.{Option, None, Some, unwrap_or}
use Rattle.std.specs.Borrow.{Bor}
use Rattle.std.specs.Option.{option_copied, option_map}
use Rattle.std.specs.List.{slice_get}
use Rattle.std.proofs.lemmas.Option.{slice_get-get_or, slice_get_within}
use Rattle.wire.specs.Kinds.{bucket_below, buckets_in, bucket_in_range, no_bucket}
use Rattle.wire.specs.declared.kinds.Bucket.{Bucket}
use Rattle.wire.proofs.BucketTables.{table-length, table_at}
use Rattle.calls.specs.Lists.{all_of, in_order}
use Rattle.calls.specs.Limits.{buckets_within}
use Rattle.calls.proofs.freespace.UpLaws.{Up, order-up, up_from}

-- ---- the limits
-- where the last of some that ascend is in range all are, and only there
last-range : (n : ℕ) (bs : List Bucket) (i : ℕ) → Up n bs → length bs ≡ suc i → all_of bucket_in_range bs ≡ bucket_in_range (get_or bs i no_bucket)
unfolding all_of
last-range n [] i u e = absurd (omega arith)
last-range n (b ∷ []) zero u e = and-true (bucket_in_range b)
last-range n (b ∷ []) (suc i) u e = absurd (omega arith)
last-range n (b ∷ c ∷ cs) zero u e = absurd (omega arith)
last-range n (b ∷ c ∷ cs) (suc i) u e =
    ap (λ (t : Bool). bucket_in_range b && t) (last-range (suc b.0) (c ∷ cs) i u.1 (omega arith)) ∙ go (bucket_in_range (get_or (c ∷ cs) i no_bucket)) refl
  where
    go : (t : Bool) → bucket_in_range (get_or (c ∷ cs) i no_bucket) ≡ t → (bucket_in_range b && t) ≡ t
    go true f =
        let l = up_from (suc b.0) (c ∷ cs) i u.1 (omega arith) in
        ap (λ (x : Bool). x && true) (lt-ltb b.0 65536 (omega (arith, l, ltb-true (get_or (c ∷ cs) i no_bucket).0 65536 f)))
    go false f = and-false (bucket_in_range b)

module _ (ns : List ℕ) where
  pub too_many : 1024 < length ns → false ≡ buckets_within (buckets_in ns)
  unfolding buckets_within
  too_many h = rw (lt-leb (length (buckets_in ns)) 1024 (omega (arith, table-length ns)))

  pub none-asked : length ns ≡ 0 → true ≡ buckets_within (buckets_in ns)
  unfolding buckets_within buckets_in all_of
  none-asked = go ns
    where
      go : (ms : List ℕ) → length ms ≡ 0 → true ≡ buckets_within (buckets_in ms)
      go [] h = refl
      go (m ∷ ms) h = absurd (omega arith)

  pub last-decides : (i : ℕ) → in_order bucket_below (buckets_in ns) ≡ true → length ns ≤ 1024 → length ns ≡ suc i → ltb (get_or ns i 0) 65536 ≡ buckets_within (buckets_in ns)
  unfolding buckets_within
  last-decides i o l e =
      sym (ap (λ (t : Bool). t && all_of bucket_in_range (buckets_in ns)) (le-leb (length (buckets_in ns)) 1024 (omega (arith, table-length ns)))
      ∙ last-range 0 (buckets_in ns) i (order-up (buckets_in ns) o) (omega (arith, table-length ns))
      ∙ ap bucket_in_range (table_at ns i))

  -- the last, if there is one
  abbrev last : ℕ
  last = length ns - 1

  none-last : None ≡ slice_get ns last → length ns ≡ 0
  none-last e = go (length ns) refl
    where
      go : (n : ℕ) → length ns ≡ n → length ns ≡ 0
      go zero f = f
      go (suc n) f =
          let g : ◌≡◌ {A = Option ℕ} None (Some (get_or ns last 0)) = e ∙ slice_get-get_or ns last 0 (omega arith) in
          let w : ◌≡◌ {A = ℕ} 0 1 = ap (λ (o : Option ℕ). unwrap_or (option_map (λ x. 1) o) 0) g in
          absurd (omega arith)

  -- what is said of the last decides, where there is one
  pub by-last :
      (r : Option (Bor ℕ)) (b : Bool) → option_copied r ≡ slice_get ns last → in_order bucket_below (buckets_in ns) ≡ true → length ns ≤ 1024
      → (r ≡ None → b ≡ true) → ((x : Bor ℕ) → r ≡ Some x → b ≡ ltb x.now 65536) → b ≡ buckets_within (buckets_in ns)
  by-last None b e o l none some = none refl ∙ none-asked (none-last e)
  by-last (Some x) b e o l none some =
      let i = slice_get_within ns last x.now (sym e) in
      let at : x.now ≡ get_or ns last 0 = ap (λ (o : Option ℕ). unwrap_or o 0) (e ∙ slice_get-get_or ns last 0 i) in
      some x refl ∙ ap (λ (n : ℕ). ltb n 65536) at ∙ last-decides last o l (omega arith)
