-- The bytes of a release's batch, tree by tree.
use mathlib.Core.Path.{◌≡◌, refl, sym, ap, ◌∙◌}
use mathlib.Core.Bool.{true, not, ◌&&◌}
use mathlib.Core.List.{List, [], ◌∷◌, ◌++◌, map, flat_map, append-nil}
use Prim.Native.Nat.{ℕ, ◌≤◌}
use native.Mathlib.Omega.{arith}
use lib.IntN.{pos, neg_ℤ, ◌+ℤ◌}
use lib.ListN.{length, length-map}
use lib.Dec.{eqb}
use borrow.Author.Tests.{lt-ltb}
use Rattle.wire.specs.Encode.{encode, encode_field}
use Rattle.wire.specs.Rows.{Counters, row_field}
use Rattle.wire.specs.Kinds.{bucket_below, bucket_in_range}
use Rattle.wire.specs.Positions.{backpointer_at}
use Rattle.wire.specs.declared.kinds.Bucket.{Bucket}
use Rattle.wire.proofs.EncodeLaws.{encode-append, encode_one}
use Rattle.calls.specs.Accounting.{counted_rows, sectors_row, buckets_row}
use Rattle.calls.specs.CallList.{Volume, Freed, tree_fields}
use Rattle.calls.specs.ChangeList.{Batch, end_field, batch_fields, change_fields, change_bytes}
use Rattle.calls.specs.Freespace.{is_in}
use Rattle.calls.specs.Lists.{all_of, those, total, in_order}
use Rattle.calls.specs.Lru.{need_discard_key}
use Rattle.calls.specs.Place.{root_missing, roots_if}
use Rattle.calls.specs.Release.{freed_buckets, is_emptied, released_key, released_lru, emptied_gen, gens_queued, unused_change, release_rows, release_batch}
use Rattle.calls.specs.Trees.{deletion}
use Rattle.calls.proofs.lists.MapLaws.{empty-length}
use Rattle.calls.proofs.lists.ThoseLaws.{those-length}
use Rattle.calls.proofs.freespace.UpLaws.{up-order, up-those}
use Rattle.calls.proofs.lists.BoolLaws.{parts as parts_of}
use Rattle.calls.proofs.freespace.BucketLaws.{is_in-those, all_in}
use Rattle.calls.proofs.release.ReleaseFits.{named-few}
use Rattle.calls.proofs.release.ReleaseLaws.{named-range}
use Rattle.release_sums.proofs.FoundLaws.{freed-up}
use Rattle.gens.specs.declared.records.Records.{Records}
use Rattle.release_keys.specs.Counting.{added_of, removed_of, UnusedChangeOf}
use Rattle.release_keys.specs.declared.counts.UnusedChange.{UnusedChange}
use Rattle.change_fields.specs.FieldBytes.{keys_bytes, roots_bytes}
use Rattle.release_keys.specs.Emptied.{emptied_row, emptied_buckets}
use Rattle.release_keys.specs.declared.freed_buckets.EmptiedBucket.{EmptiedBucket}
use Rattle.release_keys.specs.declared.table.HeldTable.{HeldTable}
use Rattle.release_keys.specs.Given.{volume_in, requests_in}
use Rattle.release.specs.Given.{change_of}
use Rattle.release.specs.Outcomes.{BatchTables}
use Rattle.reader.specs.declared.read_list.ReadList.{ReadList}

-- ---- the change list
one_batch : (b : Batch) → change_bytes (b ∷ []) ≡ encode (batch_fields b)
unfolding change_bytes change_fields
one_batch b = ap encode (append-nil (batch_fields b))

-- ---- the batch
module _ (v : Volume) (rs : List Freed) where
  abbrev all : List Bucket
  all = freed_buckets v.head.bucket_sectors rs

  -- its parts, where `emptied` are the emptied buckets, so many
  abbrev parts : List Bucket → ℕ → List Counters → List ℕ
  parts emptied n rows =
      keys_bytes 4 (map (released_key v rs) all) ++ keys_bytes 10 (flat_map (released_lru v rs) all)
      ++ keys_bytes 12 (map (need_discard_key v.head.journal) emptied)
      ++ keys_bytes 13 (map (λ r. deletion (backpointer_at r.first)) rs)
      ++ keys_bytes 14 (gens_queued (emptied_gen v.trees) v.trees.gens emptied)
      ++ roots_bytes (roots_if (not (eqb n 0) && root_missing v.head.roots 1) 12 ++ roots_if (not (eqb n 0) && root_missing v.head.roots 2) 14)
      ++ encode (map row_field rows)
      ++ encode_field end_field

  batch-bytes : (emptied : List Bucket) → emptied ≡ those (is_emptied v rs) all → encode (batch_fields (release_batch v rs)) ≡ parts emptied (length emptied) (release_rows v rs all emptied)
  unfolding batch_fields release_batch tree_fields
  batch-bytes emptied e =
      rw (← e, ← empty-length emptied)
      (simp (encode-append, append-nil, encode_one))

  -- its rows, by the sums that they are made of
  abbrev summed : ℕ → ℕ → ℕ → ℕ → List Counters
  summed n freed added removed =
      counted_rows (sectors_row (neg_ℤ (pos freed)) ∷ buckets_row 4 (neg_ℤ (pos n)) (neg_ℤ (pos freed)) (pos added +ℤ neg_ℤ (pos removed)) ∷ buckets_row 9 (pos n) (pos 0) (pos 0) ∷ [])

  rows_are : (emptied : List Bucket) (n freed added removed : ℕ) → n ≡ length emptied → freed ≡ total (λ (r : Freed). r.sectors) rs → added ≡ total (added_of v rs) all
      → removed ≡ total (removed_of v rs) all → summed n freed added removed ≡ release_rows v rs all emptied
  unfolding release_rows unused_change
  rows_are emptied n freed added removed a b c d = rw (a, b, c, d)

  -- the change list that has it alone
  pub parts-are : (emptied : List Bucket) (n freed added removed : ℕ) → emptied ≡ those (is_emptied v rs) all → n ≡ length emptied → freed ≡ total (λ (r : Freed). r.sectors) rs
      → added ≡ total (added_of v rs) all → removed ≡ total (removed_of v rs) all → parts emptied n (summed n freed added removed) ≡ change_bytes (release_batch v rs ∷ [])
  parts-are emptied n freed added removed e a b c d =
      ap (parts emptied n) (rows_are emptied n freed added removed a b c d)
      ∙ ap (λ (m : ℕ). parts emptied m (release_rows v rs all emptied)) a
      ∙ sym (one_batch (release_batch v rs) ∙ batch-bytes emptied e)

-- ---- the buckets that are emptied
emptied-named : (generation : Bucket → ℕ) (bs : List Bucket) → emptied_buckets (map (emptied_row generation) bs) ≡ bs
emptied-named generation [] = refl
emptied-named generation (b ∷ bs) = λ x. b ∷ emptied-named generation bs x

module _ {t : HeldTable} {records : Records} {emptied : List EmptiedBucket} (d : BatchTables t records emptied) where
  abbrev g : ReadList
  g = t.freed.read

  abbrev v : Volume
  v = volume_in g

  abbrev rs : List Freed
  rs = requests_in g

  emptied-are : emptied_buckets emptied ≡ those (is_emptied v rs) (freed_buckets g.head.bucket_sectors rs)
  emptied-are = ap emptied_buckets d.chosen ∙ emptied-named (emptied_gen v.trees) (those (is_emptied v rs) (freed_buckets g.head.bucket_sectors rs))

  -- each with its generation
  pub generations-are : emptied ≡ map (emptied_row (emptied_gen v.trees)) (emptied_buckets emptied)
  generations-are = d.chosen ∙ ap (map (emptied_row (emptied_gen v.trees))) (sym emptied-are)

  -- as many as their buckets
  emptied-count : length emptied ≡ length (emptied_buckets emptied)
  emptied-count = sym (length-map emptied (λ (e : EmptiedBucket). e.bucket))

  pub emptied-few : length emptied ≤ 1024
  emptied-few =
      omega (
        arith,
        emptied-count,
        ap length emptied-are,
        those-length (is_emptied v rs) (freed_buckets g.head.bucket_sectors rs),
        named-few g.head.bucket_sectors rs,
        t.freed.checked.requested.count,
        t.freed.checked.few,
      )

  pub emptied-up : in_order bucket_below (emptied_buckets emptied) ≡ true
  emptied-up =
      rw emptied-are
      (up-order 0 (those (is_emptied v rs) (freed_buckets g.head.bucket_sectors rs))
      (up-those (is_emptied v rs) 0 (freed_buckets g.head.bucket_sectors rs) (freed-up g.head.bucket_sectors rs)))

  pub emptied-low : all_of bucket_in_range (emptied_buckets emptied) ≡ true
  emptied-low =
      let n = g.head.bucket_sectors in
      all_in bucket_in_range (emptied_buckets emptied)
      (λ b i.
      let m = sym (is_in-those (is_emptied v rs) (freed_buckets n rs) b) ∙ sym (ap (λ (x : List Bucket). is_in x b) emptied-are) ∙ i in
      lt-ltb b.0 65536 (named-range n rs t.freed.checked.checked b (parts_of (is_emptied v rs b) (is_in (freed_buckets n rs) b) m).1))

  -- the bytes of the batch, by the sums of its rows
  pub batch-is : (freed : ℕ) (u : UnusedChange) → freed ≡ total (λ (r : Freed). r.sectors) rs → UnusedChangeOf v rs (freed_buckets g.head.bucket_sectors rs) u
      → parts v rs (emptied_buckets emptied) (length emptied) (summed v rs (length emptied) freed u.added u.removed) ≡ change_of g
  batch-is freed u f o = parts-are v rs (emptied_buckets emptied) (length emptied) freed u.added u.removed emptied-are emptied-count f o.added o.removed
