-- Worked cases beside the P cases, computed of whole answers: each has a list on which an answer that is wrong in one place, as the edits in must-fail
-- make it, differs.
use mathlib.Core.Path.{◌≡◌, refl}
use mathlib.Core.List.{[], ◌∷◌, ◌++◌, map}
use Rattle.format.specs.Packing.{get}
use Rattle.format.specs.AllocV4.{io_time_write}
use Rattle.wire.specs.Encode.{encode}
use Rattle.calls.specs.CallList.{volume_fields, volume_bytes}
use Rattle.calls.specs.Computing.{computing}
use Rattle.calls.specs.Answers.{place, release, discard, sort, generations}
use Rattle.calls.specs.Examples.{bucket, head_for, volume_for, run, free_volume, used_bucket, waits_since, emptied_at, run_ends, plain, placing, releasing, spot, freeing, of_batches, past_base, elsewhere, key_at, holding, gens_from, two_records, backwards, two_pieces, two_pieces_shuffled, three_pieces}

pub record WorkedAnswers : Type 0 where
  -- P case 1 of the whole answer: fields 71, 72 and 70
  pub three-accepted : three_pieces.number ≡ 0
  pub three-taken : of_batches (λ b. b.taken) three_pieces ≡ (bucket 0 ∷ bucket 1 ∷ bucket 2 ∷ []) ∷ []
  pub three-placed : of_batches (λ b. b.spots) three_pieces ≡ (spot 0 96 0 ∷ spot 128 96 1 ∷ spot 256 64 2 ∷ []) ∷ []
  pub three-roots : of_batches (λ b. b.roots) three_pieces ≡ (10 ∷ []) ∷ []
  -- a full bucket, and no piece at all, want no root
  pub full-root : of_batches (λ b. b.roots) (place (placing (free_volume 33) (plain 128 ∷ [])) 2000) ≡ [] ∷ []
  pub none-root : of_batches (λ b. b.roots) (place (placing (free_volume 32) []) 14) ≡ [] ∷ []
  -- a list that passes a limit is 3, and 2 where its layout is broken too
  pub limit-passed : (place past_base 14).number ≡ 3
  pub broken-and-passed : (place (past_base ++ (0 ∷ [])) 14).number ≡ 2
  -- runs 0 to 20 and 20 to 40 only touch; 0 to 20 and 19 to 40 overlap
  pub touching : (place (placing (volume_for (head_for 1 1) [] (run 20 20 ∷ run 40 20 ∷ []) [] []) []) 14).number ≡ 0
  pub overlapping : (place (placing (volume_for (head_for 1 1) [] (run 20 20 ∷ run 40 21 ∷ []) [] []) []) 14).number ≡ 10
  -- the clock is that of a key of inode 1
  pub any-inode :
      of_batches (λ b. map (λ k. get io_time_write k.value) b.trees.alloc)
      (place (placing (volume_for (head_for 1 1) (elsewhere 9 ∷ []) (run 40 40 ∷ []) [] []) (plain 128 ∷ [])) 2000)
      ≡ (9 ∷ []) ∷ []
  -- buckets 6 and 5 are named in this order; 6 would be refused by 18, and 5, which is lower and has no alloc key, decides
  pub lowest-decides :
      (release
      (releasing (volume_for (head_for 2 1) (used_bucket 6 0 96 ∷ []) [] [] []) (freeing 768 97 ∷ freeing 640 1 ∷ [])) 65536 1000).number
      ≡ 15
  -- bucket 3 is freed behind a run that ends before it: a run of its own
  pub not-joined :
      of_batches run_ends
      (discard (volume_bytes (volume_for (head_for 3 1) (emptied_at 3 0 ∷ []) (run 3 3 ∷ []) (waits_since 7 3 ∷ []) [])) 1000)
      ≡ ((4, 1) ∷ []) ∷ []
  -- of two need-discard keys of bucket 3 the last is deleted
  pub last-deleted :
      of_batches (λ b. map (λ k. k.pos.inode) b.trees.need_discard)
      (discard (volume_bytes (volume_for (head_for 3 1) (emptied_at 3 0 ∷ []) [] (waits_since 7 3 ∷ waits_since 8 3 ∷ []) [])) 1000)
      ≡ (8 ∷ []) ∷ []
  -- bucket 70,000 passes its limit, which is 3; where it stands twice it is 22
  pub once-passed : (place (placing (volume_for (head_for 1 1) [] [] [] (bucket 70000 ∷ [])) []) 14).number ≡ 3
  pub twice-passed : (place (placing (volume_for (head_for 1 1) [] [] [] (bucket 70000 ∷ bucket 70000 ∷ [])) []) 14).number ≡ 22
  -- two keys at one position, and a reserved bucket twice, also apart
  pub keys-twice : (sort (volume_bytes (holding 14 (key_at 1 5 ∷ key_at 1 5 ∷ []) [])) 400).number ≡ 22
  pub bucket-twice : (sort (volume_bytes (holding 14 [] (bucket 4 ∷ bucket 3 ∷ bucket 4 ∷ []))) 400).number ≡ 22
  -- in each tree, 4, 10, 11, 12, 13 and 14, two keys that descend, and two reserved buckets that descend, are accepted
  pub keys-descend :
      map (λ tree. (sort (volume_bytes (holding tree (key_at 0 6 ∷ key_at 0 5 ∷ []) [])) 400).number) (4 ∷ 10 ∷ 11 ∷ 12 ∷ 13 ∷ 14 ∷ [])
      ≡ 0 ∷ 0 ∷ 0 ∷ 0 ∷ 0 ∷ 0 ∷ []
  pub buckets-descend : (sort (volume_bytes (holding 14 [] (bucket 4 ∷ bucket 3 ∷ []))) 400).number ≡ 0
  -- the inode goes before the offset
  pub inode-first :
      (sort (volume_bytes (holding 10 (key_at 2 3 ∷ key_at 1 5 ∷ []) [])) 400).written
      ≡ volume_bytes (holding 10 (key_at 1 5 ∷ key_at 2 3 ∷ []) [])
  -- two pieces of descending size keep their order
  pub requests-kept : (sort two_pieces 400).written ≡ two_pieces
  -- fields in another order, with field 1 last
  pub shuffled-sorted : (sort two_pieces_shuffled 400).written ≡ two_pieces
  -- two bytes of a record; the third is past its end, the next has a key of another type, and the walk ends with the first of the keys past all records
  pub looked-up :
      generations (volume_bytes two_records) (bucket 1 ∷ bucket 2 ∷ bucket 3 ∷ bucket 256 ∷ bucket 512 ∷ []) 5
      ≡ record { number = 0; written = 6 ∷ 7 ∷ 0 ∷ 0 ∷ 8 ∷ []; visited = 4 }
  -- the same with the fields in the opposite order
  pub looked-up-shuffled :
      generations (encode (backwards (volume_fields two_records))) (bucket 1 ∷ bucket 2 ∷ bucket 3 ∷ bucket 256 ∷ bucket 512 ∷ []) 5
      ≡ record { number = 0; written = 6 ∷ 7 ∷ 0 ∷ 0 ∷ 8 ∷ []; visited = 4 }
  -- it visits the record and the key behind it; every key where none is past the record; none for no buckets
  pub ends-behind : generations (volume_bytes two_records) (bucket 1 ∷ []) 1 ≡ record { number = 0; written = 6 ∷ []; visited = 2 }
  pub ends-with-all :
      generations (volume_bytes (holding 14 (gens_from 0 (5 ∷ []) ∷ []) [])) (bucket 0 ∷ bucket 700 ∷ []) 2
      ≡ record { number = 0; written = 5 ∷ 0 ∷ []; visited = 1 }
  pub none-visited : generations (volume_bytes two_records) [] 0 ≡ record { number = 0; written = []; visited = 0 }
  -- a bucket twice, and two that descend
  pub equal-buckets : (generations (volume_bytes two_records) (bucket 1 ∷ bucket 1 ∷ []) 2).number ≡ 2
  pub descending-buckets : (generations (volume_bytes two_records) (bucket 2 ∷ bucket 1 ∷ []) 2).number ≡ 2
  -- the order of 2, 22, 3 and 21: keys twice at one position and a bucket twice; the same keys and bucket 65,536; that bucket in an output that is too short
  pub two-before-22 : (generations (volume_bytes (holding 14 (key_at 1 5 ∷ key_at 1 5 ∷ []) [])) (bucket 1 ∷ bucket 1 ∷ []) 2).number ≡ 2
  pub twice-before-limit : (generations (volume_bytes (holding 14 (key_at 1 5 ∷ key_at 1 5 ∷ []) [])) (bucket 65536 ∷ []) 1).number ≡ 22
  pub limit-before-room : generations (volume_bytes two_records) (bucket 65536 ∷ []) 0 ≡ record { number = 3; written = []; visited = 0 }
  pub no_room : generations (volume_bytes two_records) (bucket 65535 ∷ []) 0 ≡ record { number = 21; written = []; visited = 0 }

pub worked-answers : WorkedAnswers
unfolding computing place release discard sort generations
worked-answers =
    record {
      three-accepted = refl;
      three-taken = refl;
      three-placed = refl;
      three-roots = refl;
      full-root = refl;
      none-root = refl;
      limit-passed = refl;
      broken-and-passed = refl;
      touching = refl;
      overlapping = refl;
      any-inode = refl;
      lowest-decides = refl;
      not-joined = refl;
      last-deleted = refl;
      once-passed = refl;
      twice-passed = refl;
      keys-twice = refl;
      bucket-twice = refl;
      keys-descend = refl;
      buckets-descend = refl;
      inode-first = refl;
      requests-kept = refl;
      shuffled-sorted = refl;
      looked-up = refl;
      looked-up-shuffled = refl;
      ends-behind = refl;
      ends-with-all = refl;
      none-visited = refl;
      equal-buckets = refl;
      descending-buckets = refl;
      two-before-22 = refl;
      twice-before-limit = refl;
      limit-before-room = refl;
      no_room = refl;
    }
