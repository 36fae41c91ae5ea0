-- Every number in the batch of a release fits its bytes.
use mathlib.Core.Path.{◌≡◌, refl}
use mathlib.Core.Bool.{Bool, true, false, not, ◌&&◌, cond}
use mathlib.Core.List.{List, [], map, ◌∷◌}
use mathlib.Core.Option.{Option, none, some}
use Prim.Native.Nat.{ℕ, zero, suc, ◌+◌, ◌-◌, ◌*◌, ◌/◌, ◌^◌, ◌<◌, ◌≤◌}
use native.Mathlib.Omega.{arith}
use native.Mathlib.Nat.{lt-div-mul-add, mul-le-mul_right}
use lib.Dec.{leb}
use lib.ListN.{length, replicate, length-map, length-replicate}
use mir.Syntax.{w64}
use mir.Val.{SFits}
use borrow.Author.Tests.{ltb-true}
use Rattle.wire.specs.Keys.{Key}
use Rattle.wire.specs.Kinds.{same_bucket, bucket_in_range, bucket_of, offset_in}
use Rattle.wire.specs.Positions.{alloc_at, gens_at, gens_byte}
use Rattle.wire.specs.declared.kinds.Bucket.{Bucket}
use Rattle.wire.specs.Bytes.{All, Bytes}
use Rattle.wire.proofs.NumberLaws.{all_append}
use Rattle.wire.proofs.RowLaws.{RowFits, one}
use Rattle.format.specs.Packing.{get}
use Rattle.format.specs.AllocV4.{flags, gen, oldest_gen, data_type, stripe_redundancy, dirty_sectors, journal_seq_empty, need_discard_type, emptied_flags, with_dirty, next_gen, emptied}
use Rattle.format.specs.Gens.{with_gen, no_gens}
use Rattle.format.proofs.AllocLaws.{next_low}
use Rattle.calls.specs.Lists.{those, total, from_option, is_empty}
use Rattle.calls.specs.CallList.{Volume, Freed, call_laid_out, none_twice}
use Rattle.calls.specs.Limits.{list_within}
use Rattle.calls.specs.Trees.{lookup, new_key}
use Rattle.calls.specs.Generations.{gen_record, gen_key, gen_queued}
use Rattle.calls.specs.Lru.{lru_keys, need_discard_key}
use Rattle.calls.specs.Accounting.{counted_rows}
use Rattle.calls.specs.Refusals.{verdict}
use Rattle.calls.specs.Place.{root_missing}
use Rattle.calls.specs.Release.{freed_ok, freed_buckets, freed_in, alloc_value, dirty_at, is_emptied, release_tests, released_key, released_lru, emptied_gen, gens_queued, unused_change, release_rows, release_batch}
use Rattle.calls.specs.Answers.{read_call, read_volume}
use Rattle.calls.proofs.lists.AllLaws.{all-imp, all-each, all_map, all-those, test-all, all-flat}
use Rattle.calls.proofs.lists.ThoseLaws.{those-length}
use Rattle.calls.proofs.lists.BoolLaws.{parts, cond-most}
use Rattle.calls.proofs.freespace.BucketLaws.{in_all, inserts-length}
use Rattle.calls.proofs.encoding.ChangeTrip.{BatchFits, is_root, BatchOk}
use Rattle.calls.proofs.release.GensLaws.{type-30}
use Rattle.calls.proofs.encoding.KeyFitsLaws.{ValueFits, no_value, put-fits, store-fits, Queued, queued-value, new-queued, deletion-queued, with-queued, bucket-pos, trees-fit, trees-zero, volume-queued, lru-keys, lru-deletions, roots-if, plus-fits, less-fits, differ-fits, buckets-row, list-within}
use Rattle.calls.proofs.release.ReleaseLaws.{release-accepted, named-range}
use Rattle.calls.proofs.trees.SixTrees.{EachTree}
use Rattle.calls.proofs.lists.TotalLaws.{total-most, total-le, total-small}
use Rattle.calls.proofs.trees.TreeLaws.{lookup-all}
use Rattle.calls.proofs.encoding.RequestTrip.{FreedFits, releases-fit}
use Rattle.calls.proofs.encoding.VolumeTrip.{VolumeFits, VolumeOk, call_fits}

-- the buckets that are named

pub named-few : (sectors : ℕ) (rs : List Freed) → length (freed_buckets sectors rs) ≤ length rs
unfolding freed_buckets
named-few sectors rs =
    omega (arith, inserts-length (map (λ r. bucket_of r.first sectors) rs) [], length-map rs (λ (r : Freed). bucket_of r.first sectors))

-- a sector of a bucket below the limit
first_below : (sectors : ℕ) (r : Freed) → 0 < sectors → sectors < 2 ^ 16 → freed_ok sectors r ≡ true → r.first.0 < 2 ^ 32
unfolding freed_ok
first_below sectors r p l e =
    let a = parts (leb 1 r.sectors && leb r.sectors 128) _ e in
    let b = parts (leb (offset_in r.first sectors + r.sectors) sectors) (bucket_in_range (bucket_of r.first sectors)) a.1 in
    let c = ltb-true (r.first.0 / sectors) 65536 b.1 in
    let d : r.first.0 / sectors ≤ 65535 = omega arith in
    let m : r.first.0 < r.first.0 / sectors * sectors + sectors = lt-div-mul-add p in
    omega (arith, mul-le-mul_right sectors d)

-- values

emptied-fits : (journal : ℕ) {v : List ℕ} → ValueFits v → ValueFits (emptied journal v)
unfolding emptied
emptied-fits journal {v} h =
    store-fits journal_seq_empty journal
    (store-fits dirty_sectors 0
    (store-fits stripe_redundancy 0
    (store-fits data_type need_discard_type
    (store-fits oldest_gen (next_gen (get gen v)) (store-fits gen (next_gen (get gen v)) (store-fits flags (emptied_flags (get flags v)) h))))))

dirty-fits : (dirty : ℕ) {v : List ℕ} → ValueFits v → ValueFits (with_dirty dirty v)
unfolding with_dirty
dirty-fits dirty h = store-fits dirty_sectors dirty h

gen-fits : (b : Bucket) (generation : ℕ) {v : List ℕ} → generation < 256 → ValueFits v → ValueFits (with_gen b generation v)
unfolding with_gen
gen-fits b generation l h = put-fits (gens_byte b) (All.more l All.none) h

zeros-bytes : (n : ℕ) → Bytes (replicate n 0)
zeros-bytes zero = All.none
zeros-bytes (suc n) = All.more {a = 0} (omega arith) (zeros-bytes n)

no-gens : ValueFits no_gens
unfolding no_gens
no-gens = record { short = omega (arith, length-replicate {A = ℕ} 256 0); bytes = zeros-bytes 256 }

-- a key that is found, or a new one
found-or : (new : Key) (o : Option Key) → Queued new → ((k : Key) → o ≡ some k → Queued k) → Queued (from_option new (λ k. k) o)
found-or new none q f = q
found-or new (some k) q f = f k refl

-- the records of generations

gen-key : {records : List Key} (b : Bucket) → b.0 < 65536 → All Queued records → Queued (gen_key records b)
unfolding gen_key gen_record
gen-key {records} b l h =
    found-or (new_key 30 0 (gens_at b) no_gens) (gen_record records b)
    (new-queued 30 0 (omega arith) (omega arith) (bucket-pos (omega arith) (omega arith)) no-gens)
    (λ k e. lookup-all (gens_at b) k h (type-30 (lookup (gens_at b) records) k e).0)

module _ (g : Bucket → ℕ) (small : (b : Bucket) → g b < 256) where
  record-queued : {records : List Key} (b : Bucket) → b.0 < 65536 → All Queued records → Queued (gen_queued records b (g b))
  unfolding gen_queued
  record-queued {records} b l h =
      let k : Queued (gen_key records b) = gen-key b l h in with-queued k (gen-fits b (g b) (small b) (queued-value k))

  records-queued : {records : List Key} {bs : List Bucket} → All (λ b. b.0 < 65536) bs → All Queued records → All Queued (gens_queued g records bs)
  unfolding gens_queued
  records-queued All.none h = All.none
  records-queued {records} (All.more {a = b} l r) h =
      let k = record-queued b l h in
      All.more k (records-queued {records = gen_queued records b (g b) ∷ records} r (All.more k h))

-- the batch

module _ (v : Volume) (rs : List Freed) (f : VolumeFits v) (ok : VolumeOk v) (fit : All FreedFits rs) (few : length rs ≤ 1024) (passed : verdict (release_tests v rs) ≡ 0) where
  abbrev sectors : ℕ
  sectors = v.head.bucket_sectors

  abbrev named : List Bucket
  named = freed_buckets sectors rs

  abbrev emptied_buckets : List Bucket
  emptied_buckets = those (is_emptied v rs) named

  keys : EachTree (All Queued) v.trees
  keys = volume-queued f ok

  found : (b : Bucket) (k : Key) → lookup (alloc_at b) v.trees.alloc ≡ some k → Queued k
  found b k e = lookup-all (alloc_at b) k keys.alloc e

  below : All (λ b. b.0 < 65536) named
  below = in_all named (λ b m. named-range sectors rs (release-accepted v rs passed).requests b m)

  some-named : length named ≤ 1024
  some-named = omega (arith, named-few sectors rs)

  emptied-below : All (λ b. b.0 < 65536) emptied_buckets
  emptied-below = all-those (is_emptied v rs) below

  alloc-value : (b : Bucket) → ValueFits (alloc_value v.trees b)
  unfolding alloc_value
  alloc-value b = go (lookup (alloc_at b) v.trees.alloc) (found b)
    where
      go : (o : Option Key) → ((k : Key) → o ≡ some k → Queued k) → ValueFits (from_option [] (λ k. k.value) o)
      go none h = no_value
      go (some k) h = queued-value (h k refl)

  released-queued : (b : Bucket) → b.0 < 65536 → Queued (released_key v rs b)
  unfolding released_key
  released-queued b l =
      with-queued
      (found-or (new_key 27 0 (alloc_at b) []) (lookup (alloc_at b) v.trees.alloc)
      (new-queued 27 0 (omega arith) (omega arith) (bucket-pos (omega arith) (omega arith)) no_value) (found b))
      (go (is_emptied v rs b))
    where
      value : List ℕ
      value = alloc_value v.trees b

      left : ℕ
      left = dirty_at v.trees b - freed_in sectors rs b

      go : (t : Bool) → ValueFits (cond t (emptied v.head.journal value) (with_dirty left value))
      go true = emptied-fits v.head.journal (alloc-value b)
      go false = dirty-fits left (alloc-value b)

  lru-queued : (b : Bucket) → b.0 < 65536 → All Queued (released_lru v rs b)
  unfolding released_lru
  lru-queued b l = all_append (lru-deletions sectors b (dirty_at v.trees b) f.head.bucket_sectors l) (go (is_emptied v rs b))
    where
      left : ℕ
      left = dirty_at v.trees b - freed_in sectors rs b

      go : (t : Bool) → All Queued (cond t [] (lru_keys sectors b left))
      go true = All.none
      go false = lru-keys sectors b left f.head.bucket_sectors l

  gen-small : (b : Bucket) → emptied_gen v.trees b < 256
  unfolding emptied_gen
  gen-small b = next_low (get gen (alloc_value v.trees b))

  batch-keys : EachTree (All Queued) (release_batch v rs).trees
  unfolding release_batch need_discard_key
  batch-keys =
      let a = release-accepted v rs passed in
      record {
        alloc = all_map (released_key v rs) (all-imp released-queued below);
        lru = all-flat (released_lru v rs) (all-imp lru-queued below);
        freespace = All.none;
        need_discard =
            all_map _
            (all-imp (λ b l. new-queued 25 0 (omega arith) (omega arith) (bucket-pos f.head.journal (omega arith)) no_value) emptied-below);
        backpointers =
            all_map _
            (all-imp
            (λ (r : Freed) (e : freed_ok sectors r ≡ true).
            let l = first_below sectors r a.some-sectors f.head.bucket_sectors e in
            deletion-queued (bucket-pos (omega arith) (omega arith))) (test-all (freed_ok sectors) rs a.requests));
        gens = records-queued (emptied_gen v.trees) gen-small emptied-below keys.gens;
      }

  -- rows

  freed-small : total (λ r. r.sectors) rs < 2 ^ 26
  freed-small = total-small (λ r. r.sectors) (all-imp (λ r k. k.sectors) fit) few

  in_small : (b : Bucket) → freed_in sectors rs b < 2 ^ 26
  unfolding freed_in
  in_small b =
      omega (
        arith,
        freed-small,
        total-le (λ r. cond (same_bucket (bucket_of r.first sectors) b) r.sectors 0) (λ r. r.sectors)
            (all-each (λ r. cond-most (same_bucket (bucket_of r.first sectors) b) (omega arith) (omega arith)) rs),
      )

  unused-fits : SFits w64 (unused_change v rs named)
  unfolding unused_change
  unused-fits =
      differ-fits
      (total (λ b. cond (is_emptied v rs b) 0 (freed_in sectors rs b)) named)
      (total (λ b. cond (is_emptied v rs b) (sectors - dirty_at v.trees b) 0) named)
      (omega (
        arith,
        some-named,
        total-most (λ b. cond (is_emptied v rs b) 0 (freed_in sectors rs b)) (2 ^ 26)
            (all-each (λ b. cond-most (is_emptied v rs b) (omega arith) (omega (arith, in_small b))) named),
      ))
      (omega (
        arith,
        some-named,
        total-most (λ b. cond (is_emptied v rs b) (sectors - dirty_at v.trees b) 0) (2 ^ 16)
            (all-each (λ b. cond-most (is_emptied v rs b) (omega (arith, f.head.bucket_sectors)) (omega arith)) named),
      ))

  batch-rows : All RowFits (release_rows v rs named emptied_buckets)
  unfolding release_rows counted_rows
  batch-rows =
      let n : length emptied_buckets ≤ 1024 = omega (arith, those-length (is_emptied v rs) named, some-named) in
      let d = less-fits (total (λ r. r.sectors) rs) (omega (arith, freed-small)) in
      let z = plus-fits 0 (omega arith) in
      all-those _
      (All.more (record { inode = omega arith; offset = omega arith; numbers = one d })
      (All.more (buckets-row 4 (omega arith) (less-fits (length emptied_buckets) (omega arith)) d unused-fits)
      (All.more (buckets-row 9 (omega arith) (plus-fits (length emptied_buckets) (omega arith)) z z) All.none)))

  wants : ℕ → Bool
  wants bit = not (is_empty emptied_buckets) && root_missing v.head.roots bit

  batch-roots : {P : ℕ → Type 0} → P 12 → P 14 → All P (release_batch v rs).roots
  unfolding release_batch wants
  batch-roots p q = all_append (roots-if (wants 1) 12 p) (roots-if (wants 2) 14 q)

  pub volume-release-fits : BatchFits (release_batch v rs) × BatchOk (release_batch v rs)
  unfolding release_batch
  volume-release-fits = (
    record {
      extents = All.none;
      trees = trees-fit batch-keys;
      roots = batch-roots {P = λ id. id < 2 ^ 8} (omega arith) (omega arith);
      taken = All.none;
      spots = All.none;
      rows = batch-rows;
      sectors = All.none;
      discarded = All.none;
    },
    record { trees = trees-zero batch-keys; roots = batch-roots {P = λ id. is_root id ≡ true} refl refl },
  )

pub release-fits :
    {s : List ℕ} → Bytes s → call_laid_out 2 s ≡ true → none_twice (read_volume s) ≡ true → list_within (read_call s) ≡ true
    → let c = read_call s in
    verdict (release_tests c.volume c.releases) ≡ 0
    → BatchFits (release_batch c.volume c.releases) × BatchOk (release_batch c.volume c.releases)
release-fits {s} r h o l p =
    let c = read_call s in
    let f = call_fits 2 r h o in
    volume-release-fits c.volume c.releases f.0 f.1 (releases-fit r) (list-within c l).2 p
