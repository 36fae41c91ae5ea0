-- The walk that finds the alloc key of each freed bucket.
use mathlib.Core.Path.{◌≡◌, refl, sym, ap, ◌∙◌, subst}
use mathlib.Core.Bool.{Bool, true, false, cond, ◌||◌}
use mathlib.Core.Logic.{◌⊎◌, inl, inr, ⊎_elim}
use Prim.Native.Nat.{ℕ, zero, suc, ◌+◌, ◌≤◌, ◌<◌, Ordering}
use native.Mathlib.Omega.{arith}
use mathlib.Core.List.{List, [], ◌∷◌, ◌++◌, map, append-nil, map-append}
use mathlib.Core.Option.{none, some}
use Rattle.std.proofs.Common.{Some, None, take-append-drop}
use Rattle.std.proofs.Common as std
use lib.ListN.{length, get_or, set, take, drop, replicate, length-drop, length-map}
use lib.Seq.{get_or-set_same, get_or-set_other, get_or-take, append_snoc}
use Rattle.std.specs.Bool.{then_some}
use Rattle.std.specs.List.{prefix_len}
use Rattle.std.proofs.lemmas.List.{drop-map, get_or-drop, take_more_set, length-take-le}
use Rattle.wire.specs.Keys.{Key}
use Rattle.wire.specs.Order.{cmp, is_less, pos_less, pos_same}
use Rattle.wire.specs.Kinds.{same_bucket, bucket_in_range, no_bucket}
use Rattle.wire.specs.Positions.{alloc_at}
use Rattle.wire.specs.declared.kinds.Bucket.{Bucket}
use Rattle.wire.specs.declared.bpos.Bpos.{Bpos}
use Rattle.wire.proofs.OutputLaws.{drop-next}
use Rattle.wire.proofs.OrderLaws.{pos-cmp, same-equal, offset-more, snapshot-less}
use borrow.Author.Tests.{lt-ltb, le-ltb, eq-eqb}
use Rattle.calls.specs.CallList.{Volume, Freed, keys_ascend}
use Rattle.calls.specs.Freespace.{is_in}
use Rattle.calls.specs.Lists.{all_of, any_of}
use Rattle.calls.specs.Release.{freed_ok, freed_buckets}
use Rattle.calls.specs.Trees.{lookup}
use Rattle.calls.proofs.freespace.UpLaws.{Up, up-weak, up-order, order-up}
use Rattle.calls.proofs.lists.BoolLaws.{clash}
use Rattle.calls.proofs.release.ReleaseFits.{named-few}
use Rattle.calls.proofs.release.ReleaseLaws.{named-range}
use Rattle.calls.proofs.trees.SortedLaws.{lookup-chain, Chain, Sorted, sorted-drop, order-sorted, sorted-order}
use Rattle.calls.proofs.trees.TreeLaws.{on_eq-ne}
use Rattle.reader.specs.KeyHere.{key_here, Whole}
use Rattle.reader.specs.ListedKeys.{keys_listed}
use Rattle.reader.specs.declared.listed_keys.Keys.{Keys}
use Rattle.reader.specs.Located.{no_key}
use Rattle.reader.proofs.SkipLaws.{prefix-within}
use Rattle.release_sums.specs.Summing.{Summed, sum_of, summed_buckets}
use Rattle.release_sums.specs.SumsLeft.{bucket_sum, sums_from}
use Rattle.release_sums.specs.declared.sums.BucketSum.{BucketSum}
use Rattle.release_sums.proofs.FoundLaws.{found-freed, freed-up}
use Rattle.release_keys.specs.declared.table.FreedBucket.{FreedBucket}
use Rattle.release_keys.specs.Places.{PlaceOf}
use Rattle.release_keys.specs.Skipping.{KeysSkipped}
use Rattle.release_keys.specs.Listed.{row_sum, sum_buckets, SumsAscend, PlacesOf}
use Rattle.release_keys.specs.Tables.{no_row, row_buckets, FreedTables}
use Rattle.release_keys.proofs.PlaceLaws.{missing, found}

-- a key that stands before p is not at q, which does not
pub look-past : (q p : Bpos) (k : Key) (ks : List Key) → pos_less k.pos p ≡ true → pos_less q p ≡ false → lookup q (k ∷ ks) ≡ lookup q ks
unfolding lookup
look-past q p k ks h n = on_eq-ne (cmp q k.pos) (some k) (lookup q ks) (λ e. clash (rw (← pos-cmp.eq-path q k.pos e) at h) n)

-- ---- skipping
module _ (p : Bpos) where
  -- a key stands before the position
  abbrev pub key_below : Key → Bool
  key_below k = pos_less k.pos p

  skip-same : (q : Bpos) → pos_less q p ≡ false → (l : List Key) → lookup q (drop (prefix_len key_below l) l) ≡ lookup q l
  skip-same q n [] = refl
  skip-same q n (k ∷ l) = go (pos_less k.pos p) refl (skip-same q n l)
    where
      go : (t : Bool) → pos_less k.pos p ≡ t → lookup q (drop (prefix_len key_below l) l) ≡ lookup q l → lookup q (drop (cond t (1 + prefix_len key_below l) 0) (k ∷ l)) ≡ lookup q (k ∷ l)
      go true e h = let one : 1 + prefix_len key_below l ≡ suc (prefix_len key_below l) = omega arith in rw one (h ∙ sym (look-past q p k l e n))
      go false e h = refl

  skip-stops : (l : List Key) → prefix_len key_below l < length l → pos_less (get_or l (prefix_len key_below l) no_key).pos p ≡ false
  skip-stops [] h = absurd (omega arith)
  skip-stops (k ∷ l) h = go (pos_less k.pos p) refl h (skip-stops l)
    where
      go : (t : Bool) → pos_less k.pos p ≡ t → cond t (1 + prefix_len key_below l) 0 < length (k ∷ l)
          → (prefix_len key_below l < length l → pos_less (get_or l (prefix_len key_below l) no_key).pos p ≡ false)
          → pos_less (get_or (k ∷ l) (cond t (1 + prefix_len key_below l) 0) no_key).pos p ≡ false
      go true e h ih = let one : 1 + prefix_len key_below l ≡ suc (prefix_len key_below l) = omega arith in rw one (ih (omega arith))
      go false e h ih = e

  skip-first : (ks : List Key) (n : ℕ) → n ≡ prefix_len key_below ks → 0 < length (drop n ks) → pos_less (get_or (drop n ks) 0 no_key).pos p ≡ false
  skip-first ks n e l =
      ap (λ (k : Key). pos_less k.pos p) (get_or-drop n ks 0 no_key ∙ ap (λ (m : ℕ). get_or ks m no_key) (omega (arith, e)))
      ∙ skip-stops ks (omega (arith, l, e, length-drop n ks))

  pub skip-within : (keys : Keys) {n : ℕ} → n ≡ 0 + prefix_len key_below (keys_listed keys) → n ≤ length keys.places.now
  skip-within keys e = omega (arith, e, prefix-within key_below (keys_listed keys), length-map keys.places.now (key_here keys.list.now))

  -- the rest of some keys
  pub skipped : (keys rest : Keys) (n : ℕ) → rest.list.now ≡ keys.list.now → rest.places.now ≡ drop n keys.places.now
      → n ≡ prefix_len key_below (keys_listed keys) → KeysSkipped keys p rest
  skipped keys rest n f d m =
      let s = keys.list.now in
      let ks = keys_listed keys in
      let is : keys_listed rest ≡ drop n ks = rw (f, d) (sym (drop-map (key_here s) n keys.places.now)) in
      record {
        list = f;
        passed = n;
        is = is;
        same = λ q l. ap (lookup q) is ∙ ap (λ (i : ℕ). lookup q (drop i ks)) m ∙ skip-same q l ks;
        stops = λ l. rw is (skip-first ks n m (omega (arith, l, ap length is, length-map rest.places.now (key_here rest.list.now))));
      }

-- ---- the key at a position, which none stands before
pub look-here : (p : Bpos) {l : List Key} {k : Key} {ks : List Key} → l ≡ k ∷ ks → pos_same k.pos p ≡ true → lookup p l ≡ some k
unfolding lookup
look-here p {k = k} {ks = ks} e h =
    ap (lookup p) e ∙ rw (ap (cmp p) (same-equal k.pos p h), pos-cmp.same p)

not-less : (a p : Bpos) → pos_less a p ≡ false → pos_same a p ≡ false → cmp p a ≡ Ordering.lt
unfolding pos_less pos_same
not-less a p l s = go (cmp a p) refl l s
  where
    go : (o : Ordering) → cmp a p ≡ o → is_less o ≡ false → lib.Dec.compare_is_eq o ≡ false → cmp p a ≡ Ordering.lt
    go Ordering.lt e l s = absurd (clash refl l)
    go Ordering.eq e l s = absurd (clash refl s)
    go Ordering.gt e l s = pos-cmp.gt-lt a p e

pub look-after : (p : Bpos) {l : List Key} {k : Key} {ks : List Key} → l ≡ k ∷ ks → Sorted l → pos_less k.pos p ≡ false → pos_same k.pos p ≡ false
    → lookup p l ≡ none
look-after p {k = k} {ks = ks} e c h n =
    let d : Chain k.pos ks = subst Sorted e c in
    ap (lookup p) e ∙ lookup-chain p (k ∷ ks) (not-less k.pos p h n, d)

pub look_none : (p : Bpos) {l : List Key} → l ≡ [] → lookup p l ≡ none
unfolding lookup
look_none p e = ap (lookup p) e

-- ---- the first key, or none
module _ (p : Bpos) (l : List Key) where
  pub here-none : length l ≡ 0 → lookup p l ≡ none
  here-none h = look_none p (empty l h)
    where
      empty : (l : List Key) → length l ≡ 0 → l ≡ []
      empty [] e = refl
      empty (x ∷ l) e = absurd (omega arith)

  whole : 0 < length l → l ≡ get_or l 0 no_key ∷ drop 1 l
  whole h = drop-next no_key l 0 h

  module _ (o : keys_ascend l ≡ true) (n : pos_less (get_or l 0 no_key).pos p ≡ false) where
    pub here-tested : {s : List ℕ} {at : ℕ} → Whole s at → 0 < length l → get_or l 0 no_key ≡ key_here s at → (t : Bool) → t ≡ pos_same (key_here s at).pos p
        → PlaceOf s (then_some t at) (lookup p l)
    here-tested {s} {at} w h e true f = found w (look-here p (whole h) (ap (λ (k : Key). pos_same k.pos p) e ∙ sym f) ∙ ap some e)
    here-tested {s} {at} w h e false f = missing (look-after p (whole h) (order-sorted l o) n (ap (λ (k : Key). pos_same k.pos p) e ∙ sym f))

-- ---- ascending buckets
-- a sum for an index that none has
abbrev pub no_sum : BucketSum
no_sum = record { bucket = no_bucket; sectors = 0 }

pub up-at : (n : ℕ) (l : List BucketSum) → Up n (map (λ (x : BucketSum). x.bucket) l) → (j : ℕ) → j < length l → n ≤ (get_or l j no_sum).bucket.0
up-at n [] u j h = absurd (omega arith)
up-at n (x ∷ l) u zero h = u.0
up-at n (x ∷ l) u (suc j) h = omega (arith, u.0, up-at (suc x.bucket.0) l u.1 j (omega arith))

-- less, or the same
less-or : (j k : ℕ) → j ≤ k → (j < k) ⊎ (j ≡ k)
less-or zero zero h = inr refl
less-or zero (suc k) h = inl (omega arith)
less-or (suc j) zero h = absurd (omega arith)
less-or (suc j) (suc k) h = ⊎_elim (λ l. inl (omega arith)) (λ e. inr (ap suc e)) (less-or j k (omega arith))

-- a bucket's alloc key does not stand before a lower bucket's
pub alloc-above : (a b : Bucket) → a.0 ≤ b.0 → pos_less (alloc_at b) (alloc_at a) ≡ false
alloc-above a b h =
    ⊎_elim
    (λ (l : a.0 < b.0). offset-more (alloc_at b) (alloc_at a) refl l)
    (λ (e : a.0 ≡ b.0). snapshot-less (alloc_at b) (alloc_at a) refl (sym e) ∙ le-ltb 0 0 (omega arith))
    (less-or a.0 b.0 h)

-- ---- the walk over the sums
-- On its way: n rows are listed, each with the place of its key among `ks`, and `rest` are left, whose keys are among `keys`.
pub record Listing (s : List ℕ) (ks : List Key) (all rest : List BucketSum) (keys : Keys) (rows : List FreedBucket) (n : ℕ) : Type 0 where
  pub list : keys.list.now ≡ s
  pub up : Up 0 (sum_buckets rest)
  pub count : n + length rest ≡ length all
  pub listed : map row_sum (take n rows) ++ rest ≡ all
  pub done : (j : ℕ) → j < n → PlaceOf s (get_or rows j no_row).place (lookup (alloc_at (get_or rows j no_row).bucket) ks)
  pub ahead : (j : ℕ) → j < length rest → lookup (alloc_at (get_or rest j no_sum).bucket) (keys_listed keys) ≡ lookup (alloc_at (get_or rest j no_sum).bucket) ks

-- none is listed
pub listing-starts : {keys : Keys} {all : List BucketSum} (rows : List FreedBucket) → SumsAscend all
    → Listing keys.list.now (keys_listed keys) all all keys rows 0
listing-starts rows u = record { list = refl; up = order-up _ u; count = omega arith; listed = refl; done = λ j h. absurd (omega arith); ahead = λ j h. refl }

-- the keys that are left
pub skipped-ascend : {keys rest : Keys} {p : Bpos} → KeysSkipped keys p rest → keys_ascend (keys_listed keys) ≡ true → keys_ascend (keys_listed rest) ≡ true
skipped-ascend {keys} z o = rw z.is (sorted-order _ (sorted-drop z.passed (keys_listed keys) (order-sorted (keys_listed keys) o)))

module _ {s : List ℕ} {ks : List Key} {all rest : List BucketSum} {keys : Keys} {rows : List FreedBucket} {n : ℕ} (w : Listing s ks all rest keys rows n)
    {x : BucketSum} {next : List BucketSum} (e : rest ≡ x ∷ next) where
  -- there is room for one more
  pub listing-room : n < length all
  listing-room = omega (arith, w.count, ap length e)

  module _ {others : Keys} (z : KeysSkipped keys (alloc_at x.bucket) others) {at : std.Option ℕ} (f₀ : PlaceOf others.list.now at (lookup (alloc_at x.bucket) (keys_listed others)))
      (l : n < length rows) where
    abbrev new : FreedBucket
    new = record { bucket = x.bucket; sectors = x.sectors; place = at }

    same-list : others.list.now ≡ s
    same-list = z.list ∙ w.list

    f : PlaceOf s at (lookup (alloc_at x.bucket) (keys_listed others))
    f = subst (λ (y : List ℕ). PlaceOf y at (lookup (alloc_at x.bucket) (keys_listed others))) same-list f₀

    up-next : Up 0 (sum_buckets (x ∷ next))
    up-next = subst (λ (l : List BucketSum). Up 0 (sum_buckets l)) e w.up

    -- a bucket's key from the first one on is not passed
    same_key : (b : Bucket) → x.bucket.0 ≤ b.0 → lookup (alloc_at b) (keys_listed others) ≡ lookup (alloc_at b) (keys_listed keys)
    same_key b h = z.same (alloc_at b) (alloc-above x.bucket b h)

    its-key : lookup (alloc_at x.bucket) (keys_listed keys) ≡ lookup (alloc_at x.bucket) ks
    its-key = (rw e at w.ahead 0) (omega (arith, ap length e))

    after : (j : ℕ) → j < length next → lookup (alloc_at (get_or next j no_sum).bucket) (keys_listed others) ≡ lookup (alloc_at (get_or next j no_sum).bucket) ks
    after j h =
        same_key (get_or next j no_sum).bucket (omega (arith, up-at (suc x.bucket.0) next up-next.1 j h))
        ∙ (rw e at w.ahead (suc j)) (omega (arith, ap length e))

    pub listing-next : Listing s ks all next others (set rows n new) (n + 1)
    listing-next =
        record {
          list = same-list;
          up = up-weak 0 (suc x.bucket.0) (sum_buckets next) (omega arith) up-next.1;
          count = omega (arith, w.count, ap length e);
          listed =
              ap (λ (r : List FreedBucket). map row_sum r ++ next) (take_more_set rows n new l)
              ∙ ap (λ (r : List BucketSum). r ++ next) (map-append row_sum (take n rows) (new ∷ []))
              ∙ append_snoc (map row_sum (take n rows)) x next
              ∙ ap (λ (r : List BucketSum). map row_sum (take n rows) ++ r) (sym e)
              ∙ w.listed;
          done = λ j h.
              ⊎_elim
              (λ (m : j < n). rw (get_or-set_other rows n j new no_row (λ d. omega arith)) (w.done j m))
              (λ (d : j ≡ n). rw (d, get_or-set_same rows n new no_row l) (subst (PlaceOf s at) (same_key x.bucket (omega arith) ∙ its-key) f))
              (less-or j n (omega arith));
          ahead = after;
        }

-- ---- all are listed
-- the scratch whose sums are taken out
pub all-taken : (l s : List ℕ) → take 65536 l ≡ replicate 65536 0 → drop 65536 l ≡ drop 65536 s → l ≡ replicate 65536 0 ++ drop 65536 s
all-taken l s e f = sym (take-append-drop 65536 l) ∙ ap (λ (x : List ℕ). x ++ drop 65536 l) e ∙ ap (λ (x : List ℕ). replicate 65536 0 ++ x) f

pub listing-ends : {s : List ℕ} {ks : List Key} {all rest : List BucketSum} {keys : Keys} {rows : List FreedBucket} {n : ℕ} → Listing s ks all rest keys rows n → rest ≡ []
    → map row_sum (take n rows) ≡ all
listing-ends {rows = rows} {n} w e = sym (append-nil (map row_sum (take n rows))) ∙ (rw e at w.listed)

pub listing-places : {s : List ℕ} {ks : List Key} {all rest : List BucketSum} {keys : Keys} {rows : List FreedBucket} {n : ℕ} → Listing s ks all rest keys rows n → n ≤ length rows
    → PlacesOf s ks (take n rows)
listing-places {s} {ks} {rows = rows} {n} w l =
    record {
      at = λ j h.
          let m : j < n = omega (arith, h, length-take-le n rows l) in
          subst (λ (f : FreedBucket). PlaceOf s f.place (lookup (alloc_at f.bucket) ks)) (sym (get_or-take n rows j no_row m)) (w.done j m);
    }

module _ (value : Bucket → ℕ) where
  sums-named : (rows : List FreedBucket) (bs : List Bucket) → map row_sum rows ≡ map (bucket_sum value) bs → row_buckets rows ≡ bs
  sums-named [] [] e = refl
  sums-named [] (b ∷ bs) e = absurd (omega (arith, ap length e))
  sums-named (f ∷ rows) [] e = absurd (omega (arith, ap length e))
  sums-named (f ∷ rows) (b ∷ bs) e =
      let h : row_sum f ≡ bucket_sum value b = cc in
      let t : map row_sum rows ≡ map (bucket_sum value) bs = cc in
      λ i. (h i).bucket ∷ sums-named rows bs t i

  sums-at : (rows : List FreedBucket) (bs : List Bucket) → map row_sum rows ≡ map (bucket_sum value) bs → (j : ℕ) → j < length rows
      → (get_or rows j no_row).sectors ≡ value (get_or rows j no_row).bucket
  sums-at [] bs e j l = absurd (omega arith)
  sums-at (f ∷ rows) [] e j l = absurd (omega (arith, ap length e))
  sums-at (f ∷ rows) (b ∷ bs) e zero l =
      let h : row_sum f ≡ bucket_sum value b = cc in
      ap (λ (x : BucketSum). x.sectors) h ∙ ap value (sym (ap (λ (x : BucketSum). x.bucket) h))
  sums-at (f ∷ rows) (b ∷ bs) e (suc j) l =
      let t : map row_sum rows ≡ map (bucket_sum value) bs = cc in
      sums-at rows bs t j (omega arith)

-- a row's bucket is one of those of the rows
in-at : (rows : List FreedBucket) (j : ℕ) → j < length rows → is_in (row_buckets rows) (get_or rows j no_row).bucket ≡ true
unfolding is_in any_of
in-at [] j h = absurd (omega arith)
in-at (f ∷ rows) zero h = rw (eq-eqb f.bucket.0 f.bucket.0 refl)
in-at (f ∷ rows) (suc j) h = go (same_bucket f.bucket (get_or rows j no_row).bucket) (in-at rows j (omega arith))
  where
    go : (t : Bool) → is_in (row_buckets rows) (get_or rows j no_row).bucket ≡ true → (t || is_in (row_buckets rows) (get_or rows j no_row).bucket) ≡ true
    go true h = refl
    go false h = h

-- the sums of the requests
module _ (v : Volume) (rs : List Freed) {sums : List ℕ} (m : Summed v.head.bucket_sectors rs sums) (ok : all_of (freed_ok v.head.bucket_sectors) rs ≡ true) where
  all-sums : sums_from 0 sums ≡ map (bucket_sum (sum_of sums)) (freed_buckets v.head.bucket_sectors rs)
  unfolding sums_from summed_buckets
  all-sums = ap (map (bucket_sum (sum_of sums))) (found-freed v.head.bucket_sectors rs sums m ok)

  sum-names : (value : Bucket → ℕ) (bs : List Bucket) → sum_buckets (map (bucket_sum value) bs) ≡ bs
  sum-names value [] = refl
  sum-names value (b ∷ bs) = λ i. b ∷ sum-names value bs i

  pub sums-up : SumsAscend (sums_from 0 sums)
  sums-up = rw (all-sums, sum-names (sum_of sums) (freed_buckets v.head.bucket_sectors rs)) (up-order 0 (freed_buckets v.head.bucket_sectors rs) (freed-up v.head.bucket_sectors rs))

  pub sums-few : length (sums_from 0 sums) ≤ length rs
  sums-few = omega (arith, ap length all-sums, length-map (freed_buckets v.head.bucket_sectors rs) (bucket_sum (sum_of sums)), named-few v.head.bucket_sectors rs)

  -- the table
  module _ (s : List ℕ) (rows : List FreedBucket) (e : map row_sum rows ≡ sums_from 0 sums) where
    named : row_buckets rows ≡ freed_buckets v.head.bucket_sectors rs
    named = sums-named (sum_of sums) rows (freed_buckets v.head.bucket_sectors rs) (e ∙ all-sums)

    low-at : (j : ℕ) → j < length rows → bucket_in_range (get_or rows j no_row).bucket ≡ true
    low-at j h =
        let b = (get_or rows j no_row).bucket in
        lt-ltb b.0 65536 (named-range v.head.bucket_sectors rs ok b (ap (λ (l : List Bucket). is_in l b) (sym named) ∙ in-at rows j h))

    pub tables-listed : PlacesOf s v.trees.alloc rows → FreedTables s v rs rows
    tables-listed k =
        record {
          named = named;
          at = λ j h.
              record {
                low = low-at j h;
                freed = sums-at (sum_of sums) rows (freed_buckets v.head.bucket_sectors rs) (e ∙ all-sums) j h ∙ m.at (get_or rows j no_row).bucket (low-at j h);
                key = k.at j h;
              };
        }
