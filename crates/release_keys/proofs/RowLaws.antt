-- What the rows of the table say of the freed buckets.
use mathlib.Core.Path.{◌≡◌, refl, sym, ap, ◌∙◌}
use mathlib.Core.Bool.{Bool, true, false, cond}
use mathlib.Core.List.{List, [], ◌∷◌, map, flat_map}
use Prim.Native.Nat.{ℕ, suc, ◌+◌, ◌≤◌, ◌<◌}
use native.Mathlib.Omega.{arith}
use lib.ListN.{length, get_or, drop, length-map}
use Rattle.std.proofs.lemmas.List.{drop-map}
use Rattle.wire.specs.Keys.{Key}
use Rattle.wire.specs.declared.kinds.Bucket.{Bucket}
use Rattle.wire.proofs.OutputLaws.{drop-next}
use Rattle.format.specs.Packing.{get}
use Rattle.format.specs.AllocV4.{gen, dirty_sectors, next_gen}
use Rattle.calls.specs.CallList.{Volume, Freed}
use Rattle.calls.specs.Lists.{those, total}
use Rattle.calls.specs.Refusals.{verdict}
use Rattle.calls.specs.Release.{freed_buckets, is_emptied, bucket_refusal, released_key, released_lru, emptied_gen, dirty_at, alloc_value}
use Rattle.calls.proofs.answers.RefusalLaws.{verdict-map-first, verdict-map-drop}
use Rattle.calls.proofs.release.ReleaseFits.{named-few}
use Rattle.calls.proofs.release.ReleaseLaws.{BucketHeld, held_of}
use Rattle.reader.specs.declared.read_list.ReadList.{ReadList}
use Rattle.release_keys.specs.Given.{volume_in, requests_in, RequestsChecked}
use Rattle.release_keys.specs.declared.table.FreedBucket.{FreedBucket}
use Rattle.release_keys.specs.Counting.{added_of, removed_of, row_added, row_removed}
use Rattle.release_keys.specs.Emptied.{emptied_row}
use Rattle.release_keys.specs.Tables.{no_row, row_buckets, row_key, row_dirty, row_emptied, row_gen, freed_key, row_lru, FreedEntry, FreedTables, RowHeld, RowsHeld}
use Rattle.release_keys.proofs.PlaceLaws.{found-key, found-some, placed-value}
use Rattle.release_keys.proofs.RefusalLaws.{dirty-is}

-- ---- the buckets of rows
pub rows-next : (rows : List FreedBucket) (i : ℕ) → i < length rows → drop i rows ≡ get_or rows i no_row ∷ drop (i + 1) rows
rows-next rows i h = drop-next no_row rows i h

buckets-next : (rows : List FreedBucket) (i : ℕ) → i < length rows → drop i (row_buckets rows) ≡ (get_or rows i no_row).bucket ∷ row_buckets (drop (i + 1) rows)
buckets-next rows i h = drop-map (λ (f : FreedBucket). f.bucket) i rows ∙ ap row_buckets (rows-next rows i h)

-- ---- a row
module _ {s : List ℕ} {v : Volume} {rs : List Freed} {f : FreedBucket} (e : FreedEntry s v rs f) where
  value-row : (row_key s f).value ≡ alloc_value v.trees f.bucket
  unfolding alloc_value
  value-row = placed-value f.place e.key

  pub dirty-row : row_dirty s f ≡ dirty_at v.trees f.bucket
  unfolding dirty_at
  dirty-row = ap (get dirty_sectors) value-row

  pub emptied-row : row_emptied s f ≡ is_emptied v rs f.bucket
  unfolding is_emptied
  emptied-row = rw (e.freed, dirty-row) refl

  pub gen-row : row_gen s f ≡ emptied_row (emptied_gen v.trees) f.bucket
  unfolding emptied_gen
  gen-row = ap (λ (l : List ℕ). record { bucket = f.bucket; generation = next_gen (get gen l) }) value-row

  pub added-row : row_added s f ≡ added_of v rs f.bucket
  added-row = rw (← emptied-row, ← e.freed) refl

  pub removed-row : row_removed s v.head.bucket_sectors f ≡ removed_of v rs f.bucket
  removed-row = rw (← emptied-row, ← dirty-row) refl

  pub key-row : {sectors : ℕ} → RowHeld s sectors f → freed_key v.head.journal s f ≡ released_key v rs f.bucket
  unfolding released_key
  key-row r =
      let k = sym e.key.is ∙ found-some s f.place r.found in
      rw (k, ← emptied-row, ← dirty-row, ← value-row, ← e.freed) refl

  pub lru-row : row_lru v.head.bucket_sectors s f ≡ released_lru v rs f.bucket
  unfolding released_lru
  lru-row = rw (← emptied-row, ← dirty-row, ← e.freed) refl

-- ---- the first row, and the rest
module _ {s : List ℕ} {sectors : ℕ} {rows : List FreedBucket} {f : FreedBucket} {rest : List FreedBucket} (e : rows ≡ f ∷ rest) where
  pub held-first : RowsHeld s sectors rows → RowHeld s sectors f
  held-first h = let g : RowsHeld s sectors (f ∷ rest) = rw e at h in g 0 (omega arith)

  pub held-rest : RowsHeld s sectors rows → RowsHeld s sectors rest
  held-rest h = let g : RowsHeld s sectors (f ∷ rest) = rw e at h in λ i l. g (suc i) (omega (arith, l))

-- ---- all rows
module _ {A : Type 0} (g : FreedBucket → A) (h : Bucket → A) where
  pub map-rows : (rows : List FreedBucket) → ((i : ℕ) → i < length rows → g (get_or rows i no_row) ≡ h (get_or rows i no_row).bucket) → map g rows ≡ map h (row_buckets rows)
  map-rows [] k = refl
  map-rows (f ∷ rows) k = λ x. k 0 (omega arith) x ∷ map-rows rows (λ i l. k (suc i) (omega arith)) x

  pub those-rows : (t : FreedBucket → Bool) (u : Bucket → Bool) (rows : List FreedBucket) → ((i : ℕ) → i < length rows → t (get_or rows i no_row) ≡ u (get_or rows i no_row).bucket)
      → ((i : ℕ) → i < length rows → g (get_or rows i no_row) ≡ h (get_or rows i no_row).bucket) → map g (those t rows) ≡ map h (those u (row_buckets rows))
  unfolding those
  those-rows t u [] j k = refl
  those-rows t u (f ∷ rows) j k =
      rw (← j 0 (omega arith)) (go (t f) (k 0 (omega arith)) (those-rows t u rows (λ i l. j (suc i) (omega arith)) (λ i l. k (suc i) (omega arith))))
    where
      go : (b : Bool) → g f ≡ h f.bucket → map g (those t rows) ≡ map h (those u (row_buckets rows))
          → map g (cond b (f ∷ those t rows) (those t rows)) ≡ map h (cond b (f.bucket ∷ those u (row_buckets rows)) (those u (row_buckets rows)))
      go true p q = rw (p, q) refl
      go false p q = q

pub total-rows : (g : FreedBucket → ℕ) (h : Bucket → ℕ) (rows : List FreedBucket) → ((i : ℕ) → i < length rows → g (get_or rows i no_row) ≡ h (get_or rows i no_row).bucket)
    → total g rows ≡ total h (row_buckets rows)
unfolding total
total-rows g h [] k = refl
total-rows g h (f ∷ rows) k = rw (k 0 (omega arith), total-rows g h rows (λ i l. k (suc i) (omega arith))) refl

pub flat-rows : {A : Type 0} (g : FreedBucket → List A) (h : Bucket → List A) (rows : List FreedBucket) → ((i : ℕ) → i < length rows → g (get_or rows i no_row) ≡ h (get_or rows i no_row).bucket)
    → flat_map g rows ≡ flat_map h (row_buckets rows)
unfolding flat_map
flat-rows g h [] k = refl
flat-rows g h (f ∷ rows) k = rw (k 0 (omega arith), flat-rows g h rows (λ i l. k (suc i) (omega arith))) refl

-- ---- no bucket refuses
module _ {s : List ℕ} {v : Volume} {rs : List Freed} {rows : List FreedBucket} (t : FreedTables s v rs rows)
    (none : verdict (map (bucket_refusal v rs) (freed_buckets v.head.bucket_sectors rs)) ≡ 0) where
  its : (i : ℕ) → i < length rows → BucketHeld v rs (get_or rows i no_row).bucket
  its i h =
      let e = ap (drop i) (sym t.named) ∙ buckets-next rows i h in
      held_of v rs (get_or rows i no_row).bucket (verdict-map-first (bucket_refusal v rs) e (verdict-map-drop (bucket_refusal v rs) i _ none))

  pub rows-held : RowsHeld s v.head.bucket_sectors rows
  rows-held i h =
      let d = its i h in
      let e = t.at i h in
      let k = found-key s (get_or rows i no_row).place (e.key.is ∙ d.found) in
      record {
        found = k.0;
        whole = e.key.whole;
        long = omega (arith, d.long, ap (λ (x : Key). length x.value) k.1);
        held = omega (arith, d.held, e.freed, dirty-row e, dirty-is v rs (get_or rows i no_row).bucket d.key d.found);
        within = omega (arith, d.small, dirty-row e, dirty-is v rs (get_or rows i no_row).bucket d.key d.found);
      }

-- ---- sums, keys and choices over the rows of a table
module _ {s : List ℕ} {v : Volume} {rs : List Freed} {rows : List FreedBucket} (t : FreedTables s v rs rows) where
  pub rows-verdict : verdict (map (bucket_refusal v rs) (row_buckets rows)) ≡ verdict (map (bucket_refusal v rs) (freed_buckets v.head.bucket_sectors rs))
  rows-verdict = ap (λ (l : List Bucket). verdict (map (bucket_refusal v rs) l)) t.named

  pub keys-are : {sectors : ℕ} → RowsHeld s sectors rows → map (freed_key v.head.journal s) rows ≡ map (released_key v rs) (freed_buckets v.head.bucket_sectors rs)
  keys-are h = map-rows (freed_key v.head.journal s) (released_key v rs) rows (λ i l. key-row (t.at i l) (h i l)) ∙ ap (map (released_key v rs)) t.named

  pub lrus-are : flat_map (row_lru v.head.bucket_sectors s) rows ≡ flat_map (released_lru v rs) (freed_buckets v.head.bucket_sectors rs)
  lrus-are = flat-rows (row_lru v.head.bucket_sectors s) (released_lru v rs) rows (λ i l. lru-row (t.at i l)) ∙ ap (flat_map (released_lru v rs)) t.named

  pub added-are : total (row_added s) rows ≡ total (added_of v rs) (freed_buckets v.head.bucket_sectors rs)
  added-are = total-rows (row_added s) (added_of v rs) rows (λ i l. added-row (t.at i l)) ∙ ap (total (added_of v rs)) t.named

  pub removed-are : total (row_removed s v.head.bucket_sectors) rows ≡ total (removed_of v rs) (freed_buckets v.head.bucket_sectors rs)
  removed-are = total-rows (row_removed s v.head.bucket_sectors) (removed_of v rs) rows (λ i l. removed-row (t.at i l)) ∙ ap (total (removed_of v rs)) t.named

  pub emptied-are : map (row_gen s) (those (row_emptied s) rows) ≡ map (emptied_row (emptied_gen v.trees)) (those (is_emptied v rs) (freed_buckets v.head.bucket_sectors rs))
  emptied-are =
      those-rows (row_gen s) (emptied_row (emptied_gen v.trees)) (row_emptied s) (is_emptied v rs) rows (λ i l. emptied-row (t.at i l)) (λ i l. gen-row (t.at i l))
      ∙ ap (λ (l : List Bucket). map (emptied_row (emptied_gen v.trees)) (those (is_emptied v rs) l)) t.named

-- no more of them than requests
pub table-few : {r : ReadList} {s : List ℕ} {rows : List FreedBucket} → RequestsChecked r → FreedTables s (volume_in r) (requests_in r) rows → length rows ≤ 1024
table-few {r} {rows = rows} p t =
    omega (
      arith,
      length-map rows (λ (f : FreedBucket). f.bucket),
      ap length t.named,
      named-few r.head.bucket_sectors (requests_in r),
      p.requested.count,
      p.few,
    )
