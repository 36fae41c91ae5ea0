-- Every number in the batch of a placement fits its bytes.
use mathlib.Core.Path.{◌≡◌, refl}
use mathlib.Core.Bool.{Bool, true, false, ◌&&◌, cond}
use mathlib.Core.List.{List, [], ◌∷◌, map}
use Prim.Native.Nat.{ℕ, zero, suc, ◌+◌, ◌-◌, ◌*◌, ◌/◌, ◌%◌, ◌^◌, ◌<◌, ◌≤◌}
use native.Mathlib.Omega.{arith}
use native.Mathlib.Nat.{pow-suc, pow-zero, mul-le-mul_right}
use lib.Dec.{leb, eqb}
use lib.ListN.{length, length-map}
use lib.IntN.{pos}
use mir.Syntax.{w64}
use mir.Val.{SFits}
use Rattle.wire.specs.Keys.{Key}
use Rattle.wire.specs.Kinds.{extent_end, no_bucket}
use Rattle.wire.specs.Positions.{extent_at}
use Rattle.wire.specs.declared.bpos.Bpos.{Bpos}
use Rattle.wire.specs.declared.kinds.Bucket.{Bucket}
use Rattle.wire.specs.declared.kinds.FileSector.{FileSector}
use Rattle.wire.specs.Bytes.{All, Bytes}
use Rattle.wire.proofs.RowLaws.{RowFits, one, three}
use Rattle.format.specs.AllocV4.{new_alloc}
use Rattle.format.specs.Backpointer.{backpointer}
use Rattle.format.specs.Entries.{pointer, checksum_entry, extent_words}
use Rattle.calls.specs.Lists.{those, total}
use Rattle.calls.specs.CallList.{Volume, Piece, CallList, call_laid_out, none_twice}
use Rattle.calls.specs.Limits.{is_run, list_within}
use Rattle.calls.specs.Trees.{deletion}
use Rattle.calls.specs.Freespace.{runs_of, buckets_of, start_of, end_of, pass, shortened, Walked, walk}
use Rattle.calls.specs.Generations.{gen_of}
use Rattle.calls.specs.Clock.{clock_of}
use Rattle.calls.specs.Pieces.{Slot, next_fit, buckets_needed}
use Rattle.calls.specs.Extents.{Placed, bucket_at, placed_at, extent_key, backpointer_key}
use Rattle.calls.specs.Lru.{lru_wanted}
use Rattle.calls.specs.Accounting.{counted_rows, kind_row, extents_row, swapped, owner_row}
use Rattle.calls.specs.Refusals.{verdict}
use Rattle.calls.specs.Place.{root_missing, slots_of, walk_of, placed_of, dirty_in, new_alloc_key, spot_at, place_rows, place_batch, place_tests}
use Rattle.calls.specs.Answers.{read_call, read_volume}
use Rattle.calls.proofs.lists.AllLaws.{all-imp, all_join, all_map, all-those, all-flat}
use Rattle.calls.proofs.lists.ThoseLaws.{those-length}
use Rattle.calls.proofs.freespace.BucketLaws.{in_all}
use Rattle.calls.proofs.encoding.ChangeTrip.{BatchFits, BatchOk}
use Rattle.calls.proofs.freespace.CoverLaws.{length_from}
use Rattle.calls.proofs.encoding.FieldBytes.{Storable}
use Rattle.calls.proofs.encoding.KeyFitsLaws.{ValueFits, struct-fits, bucket-pos, Queued, queued-pos, queued-value, new-queued, deletion-queued, changed-queued, trees-fit, trees-zero, volume-queued, lru-keys, roots-if, plus-fits, less-fits, differ-fits, buckets-row, VolumeLimits, within, list-within, words-fit}
use Rattle.calls.proofs.place.PlaceLaws.{PlacedIn, sectors_in, gens_in, taken_by, place-enough, placed-bounds, taken-bound}
use Rattle.calls.proofs.encoding.RequestTrip.{PieceFits, pieces-fit}
use Rattle.calls.proofs.place.ReadFits.{gens-small}
use Rattle.calls.proofs.trees.SixTrees.{trees-order, EachTree}
use Rattle.calls.proofs.trees.SortedLaws.{Sorted}
use Rattle.calls.proofs.lists.TotalLaws.{total-most, total-small}
use Rattle.calls.proofs.encoding.HeadTrip.{HeadFits}
use Rattle.calls.proofs.encoding.VolumeTrip.{VolumeFits, VolumeOk, call_fits}

-- the walk

pass-left : (reserved used : Bucket → Bool) (need : ℕ) (bs : List Bucket) → (pass reserved used need bs).left ≤ length bs
unfolding pass
pass-left reserved used need [] = omega arith
pass-left reserved used zero (b ∷ bs) = omega arith
pass-left reserved used (suc n) (b ∷ bs) = omega (arith, pass-left reserved used (cond (reserved b) (suc n) n) bs)

run_length : (k : Key) → length (buckets_of k) ≤ k.size
unfolding buckets_of
run_length k = omega (arith, length_from ((end_of k).0 - (start_of k).0) (start_of k))

shortened-queued : (k : Key) (left : ℕ) → Queued k → left ≤ k.size → Queued (shortened k left)
unfolding shortened
shortened-queued k left q l = go (eqb left 0)
  where
    go : (t : Bool) → Queued (cond t (deletion k.pos) (record { type = k.type; size = left; version_hi = k.version_hi; version_lo = k.version_lo; pos = k.pos; value = k.value }))
    go true = deletion-queued (queued-pos q)
    go false = changed-queued q (omega (arith, q.stored.fits.size)) (queued-value q)

walk-queued : (reserved used : Bucket → Bool) (need : ℕ) {ks : List Key} → All Queued ks → All Queued (walk reserved used need ks).queue
unfolding walk
walk-queued reserved used need All.none = All.none
walk-queued reserved used zero (All.more h r) = All.none
walk-queued reserved used (suc n) (All.more {a = k} h r) =
    let p = pass reserved used (suc n) (buckets_of k) in
    All.more
    (shortened-queued k p.left h (omega (arith, pass-left reserved used (suc n) (buckets_of k), run_length k)))
    (walk-queued reserved used p.need r)

-- a bucket for each piece at most, and one more
needed-most : (B i u : ℕ) (zs : List ℕ) → buckets_needed (next_fit B i u zs) ≤ suc i + length zs
unfolding next_fit buckets_needed
needed-most B i u [] = omega arith
needed-most B i u (z ∷ []) = go (leb (u + z) B)
  where
    go : (t : Bool) → suc (cond t i (suc i)) ≤ suc i + 1
    go true = omega arith
    go false = omega arith
needed-most B i u (z ∷ y ∷ zs) = go (leb (u + z) B) (λ j v. needed-most B j v (y ∷ zs))
  where
    go : (t : Bool) → ((j v : ℕ) → buckets_needed (next_fit B j v (y ∷ zs)) ≤ suc j + suc (length zs))
        → buckets_needed (next_fit B (cond t i (suc i)) (cond t u 0 + z) (y ∷ zs)) ≤ suc i + suc (suc (length zs))
    go true ih = omega (arith, ih i (u + z))
    go false ih = omega (arith, ih (suc i) (0 + z))

-- the pieces placed

record EndsBy (most : ℕ) (p : Placed) : Type 0 where
  piece : PieceFits p.piece
  end : p.end.0 ≤ most

module _ (most sectors : ℕ) (gen : Bucket → ℕ) (bucket : ℕ → Bucket) where
  placed-end-by :
      (from : FileSector) {ps : List Piece} (ss : List Slot) → All PieceFits ps → from.0 + total (λ p. p.file) ps ≤ most
      → All (EndsBy most) (placed_at sectors gen bucket from ps ss)
  unfolding placed_at total
  placed-end-by from ss All.none l = All.none
  placed-end-by from [] (All.more h r) l = All.none
  placed-end-by from (s ∷ ss) (All.more {a = p} h r) l =
      let e : from.0 + p.file ≤ most = omega arith in
      All.more (record { piece = h; end = e }) (placed-end-by (extent_end from p.file) ss r (omega arith))

  placed-length : (from : FileSector) (ps : List Piece) (ss : List Slot) → length (placed_at sectors gen bucket from ps ss) ≤ length ps
  unfolding placed_at
  placed-length from [] ss = omega arith
  placed-length from (p ∷ ps) [] = omega arith
  placed-length from (p ∷ ps) (s ∷ ss) = omega (arith, placed-length (extent_end from p.file) ps ss)

pub record PlacedFits (p : Placed) : Type 0 where
  pub piece : PieceFits p.piece
  pub end : p.end.0 < 2 ^ 64
  pub first : p.first.0 < 2 ^ 32
  pub bucket : p.bucket.0 < 65536
  pub generation : p.generation < 256

-- values

extent-words : (option kind stored file checksum word : ℕ) → length (extent_words option kind stored file checksum word) ≤ 3
unfolding extent_words checksum_entry
extent-words zero kind stored file checksum word = omega arith
extent-words (suc zero) kind stored file checksum word = omega arith
extent-words (suc (suc n)) kind stored file checksum word = omega arith

new-fits : (journal generation dirty clock : ℕ) → ValueFits (new_alloc journal generation dirty clock)
unfolding new_alloc
new-fits journal generation dirty clock = struct-fits _ (omega arith)

backpointer-fits : (generation stored : ℕ) (p : Bpos) → ValueFits (backpointer generation stored p)
unfolding backpointer
backpointer-fits generation stored p = struct-fits _ (omega arith)

-- rows

swapped-below : (n x : ℕ) → swapped n x < 256 ^ n
unfolding swapped
swapped-below zero x = omega (arith, pow-zero 256)
swapped-below (suc n) x =
    let m : x % 256 ≤ 255 = omega arith in
    omega (arith, pow-suc 256 n, swapped-below n (x / 256), mul-le-mul_right (256 ^ n) m)

module _ {ps : List Placed} (h : All PlacedFits ps) (few : length ps ≤ 1024) where
  file-small : total (λ p. p.piece.file) ps < 2 ^ 26
  file-small = total-small (λ p. p.piece.file) (all-imp (λ p s. s.piece.file) h) few

  stored-small : total (λ p. p.piece.stored) ps < 2 ^ 26
  stored-small = total-small (λ p. p.piece.stored) (all-imp (λ p s. s.piece.stored) h) few

  file-sum : SFits w64 (pos (total (λ p. p.piece.file) ps))
  file-sum = plus-fits (total (λ p. p.piece.file) ps) (omega (arith, file-small))

  stored-sum : SFits w64 (pos (total (λ p. p.piece.stored) ps))
  stored-sum = plus-fits (total (λ p. p.piece.stored) ps) (omega (arith, stored-small))

  owner-row : (inode : ℕ) → RowFits (owner_row inode ps)
  owner-row inode =
      record {
        inode = omega (arith, swapped-below 8 inode);
        offset = omega arith;
        numbers = three (plus-fits (length ps) (omega arith)) file-sum stored-sum;
      }

  extents-row : (es : List Key) → length es ≤ 1024 → All Storable es → RowFits (extents_row es (total (λ p. p.piece.stored) ps))
  extents-row es l g =
      record {
        inode = omega arith;
        offset = omega arith;
        numbers =
            three (plus-fits (length es) (omega arith))
            (plus-fits (total (λ k. 40 + length k.value) es) (omega (arith, total-most (λ k. 40 + length k.value) 296 (all-imp (λ k s. omega (arith, s.short)) g))))
            stored-sum;
      }

kind_row_lem : (kind : ℕ) {ps : List Placed} → kind < 256 → All PlacedFits ps → length ps ≤ 1024 → RowFits (kind_row kind ps)
kind_row_lem kind {ps} k h few =
    let qs = those (λ (p : Placed). eqb p.piece.kind kind) ps in
    let q : All PlacedFits qs = all-those (λ p. eqb p.piece.kind kind) h in
    let n : length qs ≤ 1024 = omega (arith, those-length (λ (p : Placed). eqb p.piece.kind kind) ps) in
    record {
      inode = omega arith;
      offset = omega arith;
      numbers = three (plus-fits (length qs) (omega arith)) (file-sum q n) (stored-sum q n);
    }

-- the batch

module _ (v : Volume) (ps : List Placed) (w : Walked) (f : HeadFits v.head) (h : All PlacedFits ps) (few : length ps ≤ 1024)
    (below : All (λ b. b.0 < 65536) w.taken) (some : length w.taken ≤ 1025) (queue : All Queued w.queue) where
  extents-fit : All Storable (map (extent_key v.head) ps)
  unfolding extent_key
  extents-fit =
      all_map _
      (all-imp
      (λ p s.
      let e : ValueFits _ = words-fit _ (omega (arith, extent-words v.head.option p.piece.kind p.piece.stored p.piece.file p.piece.checksum (pointer p.first p.generation))) in
      record {
        fits =
            record {
              type = omega arith;
              size = omega (arith, s.piece.file);
              version_hi = omega arith;
              version_lo = omega arith;
              inode = f.inode;
              offset = s.end;
              snapshot = omega arith;
            };
        short = e.short;
        bytes = e.bytes;
      }) h)

  place-keys : EachTree (All Queued) (place_batch v ps w).trees
  unfolding place_batch new_alloc_key backpointer_key
  place-keys =
      record {
        alloc =
            all_map _
            (all-imp
            (λ b l.
            new-queued 27 0 (omega arith) (omega arith) (bucket-pos (omega arith) (omega arith))
            (new-fits v.head.journal (gen_of v.trees.gens b) (dirty_in ps b) (clock_of v.trees.alloc))) below);
        lru = all-flat _ (all-imp (λ b l. lru-keys v.head.bucket_sectors b (dirty_in ps b) f.bucket_sectors l) below);
        freespace = queue;
        need_discard = All.none;
        backpointers =
            all_map _
            (all-imp
            (λ p s.
            new-queued 28 0 (omega arith) (omega arith) (bucket-pos (omega arith) (omega (arith, s.first)))
            (backpointer-fits p.generation p.piece.stored (extent_at v.head.inode p.end))) h);
        gens = All.none;
      }

  place-rows : All RowFits (place_rows v.head w.taken ps (map (extent_key v.head) ps))
  unfolding place_rows counted_rows
  place-rows =
      let n = length w.taken in
      let d = total (λ p. p.piece.stored) ps in
      let l = stored-sum h few in
      let z = plus-fits 0 (omega arith) in
      all-those _
      (All.more (record { inode = omega arith; offset = omega arith; numbers = one l })
      (All.more (buckets-row 0 (omega arith) (less-fits n (omega arith)) z z)
      (All.more
      (buckets-row 4 (omega arith) (plus-fits n (omega arith)) l
      (differ-fits (n * v.head.bucket_sectors) d (omega (arith, mul-le-mul_right v.head.bucket_sectors some, f.bucket_sectors)) (omega (arith, stored-small h few))))
      (All.more (kind_row_lem 2 (omega arith) h few)
      (All.more (kind_row_lem 3 (omega arith) h few)
      (All.more (kind_row_lem 4 (omega arith) h few)
      (All.more (kind_row_lem 5 (omega arith) h few)
      (All.more (extents-row h few (map (extent_key v.head) ps) (omega (arith, length-map ps (extent_key v.head))) extents-fit)
      (All.more (owner-row h few v.head.inode) All.none)))))))))

  abbrev wants : Bool
  wants = lru_wanted v.head.bucket_sectors (map (dirty_in ps) w.taken) && root_missing v.head.roots 0

  batch-fits : BatchFits (place_batch v ps w)
  unfolding place_batch
  batch-fits =
      record {
        extents = extents-fit;
        trees = trees-fit place-keys;
        roots = roots-if wants 10 (omega arith);
        taken = all-imp (λ b l. omega arith) below;
        spots =
            all_map spot_at
            (all-imp
            (λ p s.
            record {
              first = omega (arith, s.first);
              stored = s.piece.stored;
              bucket = omega (arith, s.bucket);
              generation = s.generation;
            }) h);
        rows = place-rows;
        sectors = All.more {a = total (λ p. p.piece.file) ps} (omega (arith, file-small h few)) All.none;
        discarded = All.none;
      }

  batch-ok : BatchOk (place_batch v ps w)
  unfolding place_batch
  batch-ok = record { trees = trees-zero place-keys; roots = roots-if wants 10 refl }

  batch-good : BatchFits (place_batch v ps w) × BatchOk (place_batch v ps w)
  batch-good = (batch-fits, batch-ok)

-- a placement that is accepted

module _ (c : CallList) (f : VolumeFits c.volume) (ok : VolumeOk c.volume) (w : VolumeLimits c.volume) (fit : All PieceFits c.pieces)
    (few : length c.pieces ≤ 1024) (small : (b : Bucket) → gen_of c.volume.trees.gens b < 256) (passed : verdict (place_tests c) ≡ 0) where
  sorted : Sorted c.volume.trees.freespace
  sorted = (trees-order ok.trees).freespace.0

  all_placed : All PlacedFits (placed_of c)
  unfolding placed_of
  all_placed =
      let t : total (λ p. p.file) c.pieces < 2 ^ 26 = total-small (λ p. p.file) (all-imp (λ p s. s.file) fit) few in
      let a : All (EndsBy (2 ^ 41)) (placed_of c) = placed-end-by (2 ^ 41) _ _ _ c.volume.head.base (slots_of c) fit (omega (arith, w.base)) in
      all_join
      (λ (p : Placed) (x : EndsBy (2 ^ 41) p) (y : PlacedIn c p).
      record {
        piece = x.piece;
        end = omega (arith, x.end);
        first = omega (arith, y.ends, f.head.bucket_sectors);
        bucket = y.below;
        generation = omega (arith, y.generation, small p.bucket);
      }) a (placed-bounds c passed sorted w.ends)

  pub call-place-fits : BatchFits (place_batch c.volume (placed_of c) (walk_of c)) × BatchOk (place_batch c.volume (placed_of c) (walk_of c))
  unfolding placed_of walk_of slots_of runs_of
  call-place-fits =
      let n : length (placed_of c) ≤ 1024 = omega (arith, placed-length 0 (sectors_in c) (gens_in c) (bucket_at no_bucket (taken_by c)) c.volume.head.base c.pieces (slots_of c)) in
      let zs = map (λ (p : Piece). p.stored) c.pieces in
      let m : length (taken_by c) ≤ 1025 = omega (arith, place-enough c passed, needed-most c.volume.head.bucket_sectors 0 0 zs, length-map c.pieces (λ (p : Piece). p.stored)) in
      let b = in_all (taken_by c) (taken-bound c passed sorted w.ends) in
      let q = walk-queued _ _ _ (all-those is_run (volume-queued f ok).freespace) in
      batch-good c.volume (placed_of c) (walk_of c) f.head all_placed n b m q

-- the same of a list of bytes

module _ {s : List ℕ} (r : Bytes s) (laid_out : call_laid_out 1 s ≡ true) (once : none_twice (read_volume s) ≡ true)
    (fits : list_within (read_call s) ≡ true) (passed : verdict (place_tests (read_call s)) ≡ 0) where
  -- each piece is placed within the sectors and generations there are
  pub place-placed : All PlacedFits (placed_of (read_call s))
  place-placed =
      let f = call_fits 1 r laid_out once in
      let w = list-within (read_call s) fits in
      all_placed (read_call s) f.0 f.1 (within w.0) (pieces-fit r) w.1 (gens-small r) passed

  pub place-fits :
      let c = read_call s in
      BatchFits (place_batch c.volume (placed_of c) (walk_of c)) × BatchOk (place_batch c.volume (placed_of c) (walk_of c))
  place-fits =
      let f = call_fits 1 r laid_out once in
      let w = list-within (read_call s) fits in
      call-place-fits (read_call s) f.0 f.1 (within w.0) (pieces-fit r) w.1 (gens-small r) passed
