-- FORMAT.md, "Worked cases", which are document 01's P cases, proved of the definitions together as one table.
use mathlib.Core.Path.{◌≡◌, refl}
use mathlib.Core.Bool.{true, false}
use mathlib.Core.List.{[], ◌∷◌, map}
use Prim.Native.Nat.{◌+◌, ◌^◌}
use Rattle.wire.specs.Positions.{lru_at}
use Rattle.format.specs.Packing.{get}
use Rattle.format.specs.AllocV4.{gen, oldest_gen, flags, data_type, new_alloc, emptied}
use Rattle.format.specs.Entries.{crc32, csum_type_of}
use Rattle.format.specs.Lru.{fragmentation}
use Rattle.format.proofs.Cases.{p5-inode, p6-value, p9}
use Rattle.calls.specs.CallList.{volume_bytes}
use Rattle.calls.specs.Freespace.{is_in, walk}
use Rattle.calls.specs.Pieces.{next_fit, buckets_needed}
use Rattle.calls.specs.Lru.{lru_wanted}
use Rattle.calls.specs.ChangeList.{changes_of}
use Rattle.calls.specs.Discard.{discard_batches}
use Rattle.calls.specs.Computing.{computing}
use Rattle.calls.specs.Answers.{place, release, discard}
use Rattle.calls.specs.Examples.{bucket, head_for, volume_for, run, used_bucket, run_ends, plain, placing, releasing, slot, freeing, free_volume, held_volume, waiting}

pub record Cases : Type 0 where
  -- 1. bucket 128, stored 96, 96, 64: three buckets, offset 0 each, and the LRU root is wanted
  pub case1 : next_fit 128 0 0 (96 ∷ 96 ∷ 64 ∷ []) ≡ slot 0 0 ∷ slot 1 0 ∷ slot 2 0 ∷ []
  pub case1-buckets : buckets_needed (next_fit 128 0 0 (96 ∷ 96 ∷ 64 ∷ [])) ≡ 3
  pub case1-root : lru_wanted 128 (96 ∷ 96 ∷ 64 ∷ []) ≡ true
  -- 2. bucket 128, stored 64, 64, 1: (0,0), (0,64), (1,0)
  pub case2 : next_fit 128 0 0 (64 ∷ 64 ∷ 1 ∷ []) ≡ slot 0 0 ∷ slot 0 64 ∷ slot 1 0 ∷ []
  -- 3. no pieces, reserve 0: free 32 accepted, 31 gives 11
  pub case3 : (place (placing (free_volume 32) []) 14).number ≡ 0
  pub case3-short : (place (placing (free_volume 31) []) 14).number ≡ 11
  -- 4. run end 20 size 10, 12 reserved, three taken, nothing kept back: 10, 11, 13; size 6 remains
  pub case4 :
      walk (is_in (bucket 12 ∷ [])) (λ b. false) 3 (run 20 10 ∷ [])
      ≡ record { taken = bucket 10 ∷ bucket 11 ∷ bucket 13 ∷ []; queue = run 20 6 ∷ []; refusal = 0 }
  -- 5. dirty 96 of 128: 1,610,612,736 in the LRU inode
  pub case5 : (lru_at (fragmentation 96 128) (bucket 5)).inode ≡ 2 ^ 61 + 1_610_612_736
  -- 6. generation 255, flags hexadecimal 23: emptied 0 and 21
  pub case6 : get gen (emptied 7 (new_alloc 1 255 96 1)) ≡ 0
  pub case6-oldest : get oldest_gen (emptied 7 (new_alloc 1 255 96 1)) ≡ 0
  pub case6-before : get flags (new_alloc 1 255 96 1) ≡ 0x23
  pub case6-flags : get flags (emptied 7 (new_alloc 1 255 96 1)) ≡ 0x21
  -- 7. held 96: freeing 96 empties, 97 gives 18
  pub case7 :
      map (λ b. map (λ k. get data_type k.value) b.trees.alloc) (changes_of (release (releasing held_volume (freeing 640 96 ∷ [])) 65536 1000).written)
      ≡ (9 ∷ []) ∷ []
  pub case7-more : (release (releasing held_volume (freeing 640 97 ∷ [])) 65536 1000).number ≡ 18
  -- 8. byte 12 at 15 is discarded, 16 waits
  pub case8 : map run_ends (changes_of (discard (volume_bytes (waiting 1 15 (3 ∷ []))) 1000).written) ≡ ((4, 1) ∷ []) ∷ []
  pub case8-waits : discard (volume_bytes (waiting 1 16 (3 ∷ []))) 1000 ≡ record { number = 0; written = [] }
  -- 9. option 1, kind 0, 128 sectors, checksum 0: hexadecimal 500FFFE
  pub case9 : crc32 128 128 (csum_type_of 1) 0 0 ≡ 0x500FFFE
  -- 10. discard 3, 4, 6: batch 3 gives ends 5, 7 with sizes 2, 1; batch 1 gives three runs
  pub case10 : map run_ends (discard_batches (waiting 3 0 (3 ∷ 4 ∷ 6 ∷ []))) ≡ ((5, 2) ∷ (7, 1) ∷ []) ∷ []
  pub case10-each : map run_ends (discard_batches (waiting 1 0 (3 ∷ 4 ∷ 6 ∷ []))) ≡ ((4, 1) ∷ []) ∷ ((5, 1) ∷ []) ∷ ((7, 1) ∷ []) ∷ []
  -- beside them: run 10 to 80, bucket 15 used, three taken: accepted, since only the walk meets 13
  pub used :
      (place (placing (volume_for (head_for 1 1) (used_bucket 15 0 128 ∷ []) (run 80 70 ∷ []) [] []) (plain 128 ∷ plain 128 ∷ plain 128 ∷ [])) 2000).number ≡ 0
  pub used-met :
      (place (placing (volume_for (head_for 1 1) (used_bucket 12 0 128 ∷ []) (run 80 70 ∷ []) [] []) (plain 128 ∷ plain 128 ∷ plain 128 ∷ [])) 2000).number ≡ 13

pub cases : Cases
unfolding computing place release discard
cases =
    record {
      case1 = refl;
      case1-buckets = refl;
      case1-root = refl;
      case2 = refl;
      case3 = refl;
      case3-short = refl;
      case4 = refl;
      case5 = p5-inode (bucket 5);
      case6 = p6-value.0;
      case6-oldest = p6-value.1;
      case6-before = refl;
      case6-flags = p6-value.2;
      case7 = refl;
      case7-more = refl;
      case8 = refl;
      case8-waits = refl;
      case9 = p9;
      case10 = refl;
      case10-each = refl;
      used = refl;
      used-met = refl;
    }
