-- Every theorem that docs/CLAIMS.md, docs/ANSWER.md or README.md names, in its final form and in CLAIMS.md's order. Each is proved by citing the module that
-- did the work. What a statement names is defined in the specs of wire, format, calls and lines.
use Prim.Native.Nat.{ℕ, ◌+◌, ◌-◌, ◌*◌, ◌%◌, ◌^◌, ◌<◌, ◌≤◌}
use mathlib.Core.Path.{◌≡◌, refl}
use mathlib.Core.Bool.{Bool, true, false, not, ◌&&◌}
use mathlib.Core.List.{List, [], ◌∷◌, ◌++◌, map}
use mathlib.Core.Logic.{◌⊎◌}
use mathlib.Core.Option.{some}
use Rattle.std.specs.Prelude.{Result}
use lib.ListN.{length, take, drop, get_or}
use borrow.Fn.Kinds.{Dens, ended_of}
use contract.Lifetimes.{Lfts}
use denote.Triple.Clauses.{AtExit}
use Rattle.wire.specs.Bytes.{All, Bytes}
use Rattle.wire.specs.Fields.{fields}
use Rattle.wire.specs.Encode.{encode}
use Rattle.wire.specs.Keys.{Key}
use Rattle.wire.specs.Kinds.{sector_number, bucket_of, bucket_below, began_before, no_bucket, buckets_in}
use Rattle.wire.specs.Numbers.{le}
use Rattle.wire.specs.Order.{pos_less}
use Rattle.wire.specs.Positions.{lru_at, gens_at, gens_byte}
use Rattle.wire.specs.declared.bpos.Bpos.{Bpos}
use Rattle.wire.specs.declared.kinds.Bucket.{Bucket}
use Rattle.wire.specs.declared.kinds.DeviceSector.{DeviceSector}
use Rattle.format.specs.Packing.{unpack, read_struct, get}
use Rattle.format.specs.AllocV4.{Flags, flags_word, flags_of, alloc_v4, journal_seq, flags, gen, oldest_gen, data_type, stripe_redundancy, dirty_sectors, cached_sectors, io_time_read, io_time_write, stripe, nr_external_backpointers, journal_seq_empty, stripe_sectors, pad, new_alloc, with_dirty, next_gen, emptied_flags, emptied, discarded_flags, discarded}
use Rattle.format.specs.Entries.{pointer, crc32, crc64, csum_type_of, extent_words}
use Rattle.format.specs.Backpointer.{backpointer}
use Rattle.format.specs.Gens.{gen_in, with_gen, no_gens}
use Rattle.format.specs.Lru.{fragmentation}
use Rattle.format.proofs.EntryLaws as entries
use Rattle.format.proofs.Decoded as decoded
use Rattle.format.proofs.AllocLaws as alloc
use Rattle.format.proofs.BackpointerLaws as backpointers
use Rattle.format.proofs.GenLaws as gens
use Rattle.calls.specs.Lists.{all_of, any_of, last_or, in_order, total, is_empty}
use Rattle.calls.specs.CallList.{Volume, keys_ok, trees_ok, call_laid_out, volume_laid_out, list_laid_out, none_twice, volume_fields, volume_bytes}
use Rattle.calls.specs.SameFields.{AsOften}
use Rattle.calls.specs.Freespace.{is_in, Walked, walk, runs_of, end_of, overlaps}
use Rattle.calls.specs.Generations.{gen_of}
use Rattle.calls.specs.JointLookup.{joint_lookup}
use Rattle.calls.specs.Pieces.{next_fit, buckets_needed}
use Rattle.calls.specs.Extents.{Placed}
use Rattle.calls.specs.Lru.{lru_wanted}
use Rattle.calls.specs.ChangeList.{Batch, change_laid_out, changes_of}
use Rattle.calls.specs.Refusals.{verdict}
use Rattle.calls.specs.Place.{root_missing, roots_if, place_tests, placed_of, walk_of, place_batch}
use Rattle.calls.specs.Release.{release_tests, release_batch}
use Rattle.calls.specs.Discard.{discard_batches}
use Rattle.calls.specs.Apply.{apply_batch, apply_batches}
use Rattle.reader.specs.Refusals.{made_by, looked_up_by}
use Rattle.reader.specs.declared.refusal.Refusal.{Refusal}
use Rattle.calls.specs.Answers.{outcome, scratch_after, read_call, read_volume, next_volume, place, release, discard, apply, sorted_form, sort, generations, generations_outcome}
use Rattle.calls.specs.ListCalls.{ListCall, answer_of}
use Rattle.calls.specs.History.{Clean, Live, State, discarding, Step, without_requests, take_all, after, Allowed, History, start, sectors_of, Claim, GensAgree}
use Rattle.calls.specs.Examples.{bucket, head_for, volume_for, run, used_bucket, waits_since, emptied_at, run_ends, plain, placing, releasing, slot, spot, freeing, of_batches, free_volume, held_volume, waiting, past_base, elsewhere, three_pieces, key_at, holding, gens_from, two_records, backwards, two_pieces, two_pieces_shuffled}
use Rattle.calls.specs.ExampleHistory as example
use Rattle.calls.proofs.cases.Cases.{cases}
use Rattle.calls.proofs.cases.WorkedAnswers.{worked-answers}
use Rattle.calls.proofs.encoding.VolumeTrip as volumes
use Rattle.calls.proofs.answers.AnswersReadBack as answers
use Rattle.calls.proofs.answers.SortedForm as sorted
use Rattle.calls.proofs.answers.SingleLookups as lookups
use Rattle.calls.proofs.trees.JointLookupLaws as joint
use Rattle.calls.proofs.history.Demand3 as history
use Rattle.calls.proofs.history.HistoryKeeps as keeping
use Rattle.calls.proofs.history.HistoryRuns as runs
use Rattle.calls.proofs.history.HistoryRecords as records
use Rattle.calls.proofs.history.LiveGenerations as told
use Rattle.calls.proofs.discard.DiscardBatches as batches
use Rattle.calls.proofs.trees.SortedLaws.{keys-order}
use Rattle.calls.proofs.freespace.TakenAscend as taken
use Rattle.calls.proofs.place.LruRootLaws as roots
use Rattle.calls.proofs.place.PointerLaws as pointers
use Rattle.calls.proofs.cases.WorkedHistory as worked
use Rattle.zerglaz.proofs.zerglaz_place.Kinds as place_k
use Rattle.zerglaz.proofs.zerglaz_place.Met as place_m
use Rattle.zerglaz.proofs.zerglaz_place.Reads as place_r
use Rattle.zerglaz.proofs.zerglaz_place.Statement as place_s
use Rattle.zerglaz.proofs.zerglaz_release.Kinds as release_k
use Rattle.zerglaz.proofs.zerglaz_release.Met as release_m
use Rattle.zerglaz.proofs.zerglaz_release.Reads as release_r
use Rattle.zerglaz.proofs.zerglaz_release.Statement as release_s
use Rattle.zerglaz.proofs.zerglaz_discard.Kinds as discard_k
use Rattle.zerglaz.proofs.zerglaz_discard.Met as discard_m
use Rattle.zerglaz.proofs.zerglaz_discard.Reads as discard_r
use Rattle.zerglaz.proofs.zerglaz_discard.Statement as discard_s
use Rattle.zerglaz.proofs.zerglaz_apply.Kinds as apply_k
use Rattle.zerglaz.proofs.zerglaz_apply.Met as apply_m
use Rattle.zerglaz.proofs.zerglaz_apply.Reads as apply_r
use Rattle.zerglaz.proofs.zerglaz_apply.Statement as apply_s
use Rattle.zerglaz.proofs.zerglaz_sort.Kinds as sort_k
use Rattle.zerglaz.proofs.zerglaz_sort.Met as sort_m
use Rattle.zerglaz.proofs.zerglaz_sort.Reads as sort_r
use Rattle.zerglaz.proofs.zerglaz_sort.Statement as sort_s
use Rattle.zerglaz.proofs.zerglaz_generations.Kinds as generations_k
use Rattle.zerglaz.proofs.zerglaz_generations.Met as generations_m
use Rattle.zerglaz.proofs.zerglaz_generations.Reads as generations_r
use Rattle.zerglaz.proofs.zerglaz_generations.Statement as generations_s
use Rattle.lines.specs.Program.{bucket_lines, Shown}
use Rattle.lines.specs.Printed.{printed_list, printed_text}
use Rattle.lines.proofs.Printed as printing
use Rattle.lines.proofs.program.bucket_lines.Kinds as lines_k
use Rattle.lines.proofs.program.bucket_lines.Met as lines_m
use Rattle.lines.proofs.program.bucket_lines.Reads as lines_r
use Rattle.lines.proofs.program.bucket_lines.Statement as lines_s

-- ==== Demand 1: every list is answered, or refused by the number that the order names

-- ---- the six calls
-- Of each call: the function meets its contract, in every model of memory (`statement`, which the toolchain makes of the contract in
-- crates/zerglaz/src/lib.rt); its contract asks nothing of the arguments (`Asked`, what a caller must show); and what it says after the call (`Learnt`, what a caller
-- learns). There `a` are the arguments at entry, `e` the same at exit, `now` is what a reference refers to, and `r` is what the call answers: how many bytes it wrote
-- (generations: how many keys it visited), or the refusal. The same of the functions that C calls, with the number that they return, is in crates/zerglaz_c/proofs/Exported.antt.
pub zerglaz-place : {M : Type 1} → place_s.statement M
zerglaz-place = place_m.met

module _ (κs : Lfts 2) (a : Dens κs place_k.ps) (r : Result ℕ Refusal) (e : AtExit (ended_of 2 place_k.ps place_k.r) κs) where
  pub place-asks : place_r.Asked κs a ≡ Unit {0}
  place-asks = refl

  pub place-says :
      let list : List ℕ = a.0.now in
      let out : List ℕ = a.1.0.now in
      let out-after : List ℕ = e.1.0.now in
      place_r.Learnt κs a r e ≡ (made_by r out-after ≡ outcome (place list (length out)) out)
  place-says = refl

pub zerglaz-release : {M : Type 1} → release_s.statement M
zerglaz-release = release_m.met

module _ (κs : Lfts 3) (a : Dens κs release_k.ps) (r : Result ℕ Refusal) (e : AtExit (ended_of 3 release_k.ps release_k.r) κs) where
  pub release-asks : release_r.Asked κs a ≡ Unit {0}
  release-asks = refl

  pub release-says :
      let list : List ℕ = a.0.now in
      let scratch : List ℕ = a.1.0.now in
      let scratch-left : List ℕ = e.1.0.now in
      let out : List ℕ = a.1.1.0.now in
      let out-after : List ℕ = e.1.1.0.now in
      release_r.Learnt κs a r e
      ≡ ((made_by r out-after ≡ outcome (release list (length scratch) (length out)) out) × (scratch-left ≡ scratch_after scratch))
  release-says = refl

pub zerglaz-discard : {M : Type 1} → discard_s.statement M
zerglaz-discard = discard_m.met

module _ (κs : Lfts 2) (a : Dens κs discard_k.ps) (r : Result ℕ Refusal) (e : AtExit (ended_of 2 discard_k.ps discard_k.r) κs) where
  pub discard-asks : discard_r.Asked κs a ≡ Unit {0}
  discard-asks = refl

  pub discard-says :
      let list : List ℕ = a.0.now in
      let out : List ℕ = a.1.0.now in
      let out-after : List ℕ = e.1.0.now in
      discard_r.Learnt κs a r e ≡ (made_by r out-after ≡ outcome (discard list (length out)) out)
  discard-says = refl

pub zerglaz-apply : {M : Type 1} → apply_s.statement M
zerglaz-apply = apply_m.met

module _ (κs : Lfts 3) (a : Dens κs apply_k.ps) (r : Result ℕ Refusal) (e : AtExit (ended_of 3 apply_k.ps apply_k.r) κs) where
  pub apply-asks : apply_r.Asked κs a ≡ Unit {0}
  apply-asks = refl

  pub apply-says :
      let volume : List ℕ = a.0.now in
      let change : List ℕ = a.1.0.now in
      let out : List ℕ = a.1.1.0.now in
      let out-after : List ℕ = e.1.1.0.now in
      apply_r.Learnt κs a r e ≡ (made_by r out-after ≡ outcome (apply volume change (length out)) out)
  apply-says = refl

pub zerglaz-sort : {M : Type 1} → sort_s.statement M
zerglaz-sort = sort_m.met

module _ (κs : Lfts 2) (a : Dens κs sort_k.ps) (r : Result ℕ Refusal) (e : AtExit (ended_of 2 sort_k.ps sort_k.r) κs) where
  pub sort-asks : sort_r.Asked κs a ≡ Unit {0}
  sort-asks = refl

  pub sort-says :
      let list : List ℕ = a.0.now in
      let out : List ℕ = a.1.0.now in
      let out-after : List ℕ = e.1.0.now in
      sort_r.Learnt κs a r e ≡ (made_by r out-after ≡ outcome (sort list (length out)) out)
  sort-says = refl

pub zerglaz-generations : {M : Type 1} → generations_s.statement M
zerglaz-generations = generations_m.met

module _ (κs : Lfts 3) (a : Dens κs generations_k.ps) (r : Result ℕ Refusal) (e : AtExit (ended_of 3 generations_k.ps generations_k.r) κs) where
  pub generations-asks : generations_r.Asked κs a ≡ Unit {0}
  generations-asks = refl

  pub generations-says :
      let volume : List ℕ = a.0.now in
      let buckets : List ℕ = a.1.0.now in
      let out : List ℕ = a.1.1.0.now in
      let out-after : List ℕ = e.1.1.0.now in
      generations_r.Learnt κs a r e
      ≡ (looked_up_by r out-after ≡ generations_outcome (generations volume (buckets_in buckets) (length out)) out)
  generations-says = refl

-- ---- a list in any order
-- a list that passes refusal 2 of a call, or of apply, passes that of sort; where it passes 22 too, each call answers it as it answers its sorted form
pub call-listed : (call : ℕ) (s : List ℕ) → call_laid_out call s ≡ true → list_laid_out s ≡ true
call-listed = volumes.call-listed

pub volume-listed : (s : List ℕ) → volume_laid_out s ≡ true → list_laid_out s ≡ true
volume-listed = volumes.volume-listed

pub answers-sorted : (s : List ℕ) → Bytes s → list_laid_out s ≡ true → none_twice (read_volume s) ≡ true
    → (c : ListCall) (room : ℕ) → answer_of c (sorted_form s) room ≡ answer_of c s room
answers-sorted s r l o = sorted.answers-sorted r l o

pub generations-sorted : (s : List ℕ) → Bytes s → list_laid_out s ≡ true → none_twice (read_volume s) ≡ true
    → (buckets : List Bucket) (room : ℕ) → generations (sorted_form s) buckets room ≡ generations s buckets room
generations-sorted s r l o = sorted.generations-sorted r l o

-- the sorted form is read as the list is, has the list's fields, each as often, and its length
pub form-reads : (s : List ℕ) → Bytes s → list_laid_out s ≡ true → none_twice (read_volume s) ≡ true → read_call (sorted_form s) ≡ read_call s
form-reads s r l o = sorted.form-reads r l o

pub form-fields : (s : List ℕ) → Bytes s → list_laid_out s ≡ true → none_twice (read_volume s) ≡ true → AsOften (fields (sorted_form s)) (fields s)
form-fields s r l o = sorted.form-fields r l o

pub form-length : (s : List ℕ) → Bytes s → list_laid_out s ≡ true → none_twice (read_volume s) ≡ true → length (sorted_form s) ≡ length s
form-length s r l o = sorted.form-length r l o

-- to sort what sort wrote gives the same bytes
pub sort-again : (s : List ℕ) (room : ℕ) → Bytes s → (sort s room).number ≡ 0 → sort (sort s room).written room ≡ sort s room
sort-again = sorted.sort-again

-- two lists in which every field stands as often, with equal requests, have one sorted form
pub one-form : (a b : List ℕ) → Bytes a → list_laid_out a ≡ true → none_twice (read_volume a) ≡ true → AsOften (fields a) (fields b)
    → (read_call a).pieces ≡ (read_call b).pieces
    → (read_call a).releases ≡ (read_call b).releases
    → sorted_form a ≡ sorted_form b
one-form = sorted.one_form

-- ---- the generations of many buckets
-- each that is written is the one that the single lookup gives, and no more keys are visited than tree 14 has
pub generations-single : (s : List ℕ) (buckets : List Bucket) (room : ℕ) → (generations s buckets room).number ≡ 0
    → (generations s buckets room).written ≡ map (gen_of (read_volume s).trees.gens) buckets
generations-single = lookups.generations-single

pub generations-visited : (s : List ℕ) (buckets : List Bucket) (room : ℕ) → (generations s buckets room).visited ≤ length (read_volume s).trees.gens
generations-visited = lookups.generations-visited

-- the walk ends with the first key past the last bucket's record: none but the last key visited is past it, and that one is where keys are left
pub walk-before : (gens : List Key) (b : Bucket) (bs : List Bucket) (d : Key) (i : ℕ) → i + 1 < (joint_lookup gens (b ∷ bs)).visited
    → pos_less (gens_at (last_or b bs)) (get_or gens i d).pos ≡ false
walk-before = joint.joint-before

pub walk-last : (gens : List Key) (b : Bucket) (bs : List Bucket) (d : Key) (i : ℕ) → (joint_lookup gens (b ∷ bs)).visited < length gens
    → i + 1 ≡ (joint_lookup gens (b ∷ bs)).visited
    → pos_less (gens_at (last_or b bs)) (get_or gens i d).pos ≡ true
walk-last = joint.joint-last

-- for the buckets that an accepted placement takes it gives the generations that the placement gives them
pub taken-generations : (s : List ℕ) (room : ℕ) → (place s room).number ≡ 0
    → (joint_lookup (read_volume s).trees.gens (walk_of (read_call s)).taken).generations ≡ map (gen_of (read_volume s).trees.gens) (walk_of (read_call s)).taken
taken-generations = lookups.taken-generations

-- ---- the worked cases of FORMAT.md
-- 1. bucket 128, stored 96, 96, 64: three buckets, offset 0 each, and the LRU root is wanted
pub case1 : next_fit 128 0 0 (96 ∷ 96 ∷ 64 ∷ []) ≡ slot 0 0 ∷ slot 1 0 ∷ slot 2 0 ∷ []
case1 = cases.case1

pub case1-buckets : buckets_needed (next_fit 128 0 0 (96 ∷ 96 ∷ 64 ∷ [])) ≡ 3
case1-buckets = cases.case1-buckets

pub case1-root : lru_wanted 128 (96 ∷ 96 ∷ 64 ∷ []) ≡ true
case1-root = cases.case1-root

-- the same of the whole answer, on forty free buckets: its fields 71, 72 and 70
pub case1-accepted : three_pieces.number ≡ 0
case1-accepted = worked-answers.three-accepted

pub case1-taken : of_batches (λ b. b.taken) three_pieces ≡ (bucket 0 ∷ bucket 1 ∷ bucket 2 ∷ []) ∷ []
case1-taken = worked-answers.three-taken

pub case1-placed : of_batches (λ b. b.spots) three_pieces ≡ (spot 0 96 0 ∷ spot 128 96 1 ∷ spot 256 64 2 ∷ []) ∷ []
case1-placed = worked-answers.three-placed

pub case1-roots : of_batches (λ b. b.roots) three_pieces ≡ (10 ∷ []) ∷ []
case1-roots = worked-answers.three-roots

-- beside it: a full bucket, and no piece at all, want no root
pub full-root : of_batches (λ b. b.roots) (place (placing (free_volume 33) (plain 128 ∷ [])) 2000) ≡ [] ∷ []
full-root = worked-answers.full-root

pub none-root : of_batches (λ b. b.roots) (place (placing (free_volume 32) []) 14) ≡ [] ∷ []
none-root = worked-answers.none-root

-- 2. bucket 128, stored 64, 64, 1: (0,0), (0,64), (1,0)
pub case2 : next_fit 128 0 0 (64 ∷ 64 ∷ 1 ∷ []) ≡ slot 0 0 ∷ slot 0 64 ∷ slot 1 0 ∷ []
case2 = cases.case2

-- 3. no pieces, reserve 0: free 32 accepted, 31 gives 11
pub case3 : (place (placing (free_volume 32) []) 14).number ≡ 0
case3 = cases.case3

pub case3-short : (place (placing (free_volume 31) []) 14).number ≡ 11
case3-short = cases.case3-short

-- 4. run end 20 size 10, 12 reserved, three taken, nothing kept back: 10, 11, 13; size 6 remains
pub case4 : walk (is_in (bucket 12 ∷ [])) (λ b. false) 3 (run 20 10 ∷ [])
    ≡ record { taken = bucket 10 ∷ bucket 11 ∷ bucket 13 ∷ []; queue = run 20 6 ∷ []; refusal = 0 }
case4 = cases.case4

-- 5. dirty 96 of 128: 1,610,612,736 in the LRU inode
pub case5 : (lru_at (fragmentation 96 128) (bucket 5)).inode ≡ 2 ^ 61 + 1_610_612_736
case5 = cases.case5

-- 6. generation 255, flags hexadecimal 23: emptied 0 and 21
pub case6 : get gen (emptied 7 (new_alloc 1 255 96 1)) ≡ 0
case6 = cases.case6

pub case6-oldest : get oldest_gen (emptied 7 (new_alloc 1 255 96 1)) ≡ 0
case6-oldest = cases.case6-oldest

pub case6-before : get flags (new_alloc 1 255 96 1) ≡ 0x23
case6-before = cases.case6-before

pub case6-flags : get flags (emptied 7 (new_alloc 1 255 96 1)) ≡ 0x21
case6-flags = cases.case6-flags

-- 7. held 96: freeing 96 empties, 97 gives 18
pub case7 : of_batches (λ b. map (λ k. get data_type k.value) b.trees.alloc) (release (releasing held_volume (freeing 640 96 ∷ [])) 65536 1000)
    ≡ (9 ∷ []) ∷ []
case7 = cases.case7

pub case7-more : (release (releasing held_volume (freeing 640 97 ∷ [])) 65536 1000).number ≡ 18
case7-more = cases.case7-more

-- 8. byte 12 at 15 is discarded, 16 waits
pub case8 : of_batches run_ends (discard (volume_bytes (waiting 1 15 (3 ∷ []))) 1000) ≡ ((4, 1) ∷ []) ∷ []
case8 = cases.case8

pub case8-waits : discard (volume_bytes (waiting 1 16 (3 ∷ []))) 1000 ≡ record { number = 0; written = [] }
case8-waits = cases.case8-waits

-- 9. option 1, kind 0, 128 sectors, checksum 0: hexadecimal 500FFFE
pub case9 : crc32 128 128 (csum_type_of 1) 0 0 ≡ 0x500FFFE
case9 = cases.case9

-- 10. discard 3, 4, 6: batch 3 gives ends 5, 7 with sizes 2, 1; batch 1 gives three runs
pub case10 : map run_ends (discard_batches (waiting 3 0 (3 ∷ 4 ∷ 6 ∷ []))) ≡ ((5, 2) ∷ (7, 1) ∷ []) ∷ []
case10 = cases.case10

pub case10-each : map run_ends (discard_batches (waiting 1 0 (3 ∷ 4 ∷ 6 ∷ []))) ≡ ((4, 1) ∷ []) ∷ ((5, 1) ∷ []) ∷ ((7, 1) ∷ []) ∷ []
case10-each = cases.case10-each

-- beside them: run 10 to 80, bucket 15 used, three taken: accepted, since only the walk meets 13
pub used : (place (placing (volume_for (head_for 1 1) (used_bucket 15 0 128 ∷ []) (run 80 70 ∷ []) [] []) (plain 128 ∷ plain 128 ∷ plain 128 ∷ [])) 2000).number ≡ 0
used = cases.used

pub used-met : (place (placing (volume_for (head_for 1 1) (used_bucket 12 0 128 ∷ []) (run 80 70 ∷ []) [] []) (plain 128 ∷ plain 128 ∷ plain 128 ∷ [])) 2000).number ≡ 13
used-met = cases.used-met

-- ---- whole answers, each on a small list on which an answer that gets one thing wrong differs
-- a list that passes a limit is 3, and 2 where its layout is broken too
pub limit-passed : (place past_base 14).number ≡ 3
limit-passed = worked-answers.limit-passed

pub broken-and-passed : (place (past_base ++ (0 ∷ [])) 14).number ≡ 2
broken-and-passed = worked-answers.broken-and-passed

-- runs 0 to 20 and 20 to 40 only touch; 0 to 20 and 19 to 40 overlap
pub touching : (place (placing (volume_for (head_for 1 1) [] (run 20 20 ∷ run 40 20 ∷ []) [] []) []) 14).number ≡ 0
touching = worked-answers.touching

pub overlapping : (place (placing (volume_for (head_for 1 1) [] (run 20 20 ∷ run 40 21 ∷ []) [] []) []) 14).number ≡ 10
overlapping = worked-answers.overlapping

-- the clock is that of a key of inode 1
pub any-inode :
    of_batches (λ b. map (λ k. get io_time_write k.value) b.trees.alloc)
    (place (placing (volume_for (head_for 1 1) (elsewhere 9 ∷ []) (run 40 40 ∷ []) [] []) (plain 128 ∷ [])) 2000)
    ≡ (9 ∷ []) ∷ []
any-inode = worked-answers.any-inode

-- buckets 6 and 5 are named in this order; 6 would be refused by 18, and 5, which is lower and has no alloc key, decides
pub lowest-decides :
    (release (releasing (volume_for (head_for 2 1) (used_bucket 6 0 96 ∷ []) [] [] []) (freeing 768 97 ∷ freeing 640 1 ∷ [])) 65536 1000).number ≡ 15
lowest-decides = worked-answers.lowest-decides

-- bucket 3 is freed behind a run that ends before it: a run of its own
pub not-joined :
    of_batches run_ends (discard (volume_bytes (volume_for (head_for 3 1) (emptied_at 3 0 ∷ []) (run 3 3 ∷ []) (waits_since 7 3 ∷ []) [])) 1000)
    ≡ ((4, 1) ∷ []) ∷ []
not-joined = worked-answers.not-joined

-- of two need-discard keys of bucket 3 the last is deleted
pub last-deleted :
    of_batches (λ b. map (λ k. k.pos.inode) b.trees.need_discard)
    (discard (volume_bytes (volume_for (head_for 3 1) (emptied_at 3 0 ∷ []) [] (waits_since 7 3 ∷ waits_since 8 3 ∷ []) [])) 1000)
    ≡ (8 ∷ []) ∷ []
last-deleted = worked-answers.last-deleted

-- bucket 70,000 passes its limit, which is 3; where it stands twice it is 22
pub once-passed : (place (placing (volume_for (head_for 1 1) [] [] [] (bucket 70000 ∷ [])) []) 14).number ≡ 3
once-passed = worked-answers.once-passed

pub twice-passed : (place (placing (volume_for (head_for 1 1) [] [] [] (bucket 70000 ∷ bucket 70000 ∷ [])) []) 14).number ≡ 22
twice-passed = worked-answers.twice-passed

-- two keys at one position, and a reserved bucket twice, also apart
pub keys-twice : (sort (volume_bytes (holding 14 (key_at 1 5 ∷ key_at 1 5 ∷ []) [])) 400).number ≡ 22
keys-twice = worked-answers.keys-twice

pub bucket-twice : (sort (volume_bytes (holding 14 [] (bucket 4 ∷ bucket 3 ∷ bucket 4 ∷ []))) 400).number ≡ 22
bucket-twice = worked-answers.bucket-twice

-- in each tree, 4, 10, 11, 12, 13 and 14, two keys that descend, and two reserved buckets that descend, are accepted
pub keys-descend :
    map (λ tree. (sort (volume_bytes (holding tree (key_at 0 6 ∷ key_at 0 5 ∷ []) [])) 400).number) (4 ∷ 10 ∷ 11 ∷ 12 ∷ 13 ∷ 14 ∷ [])
    ≡ 0 ∷ 0 ∷ 0 ∷ 0 ∷ 0 ∷ 0 ∷ []
keys-descend = worked-answers.keys-descend

pub buckets-descend : (sort (volume_bytes (holding 14 [] (bucket 4 ∷ bucket 3 ∷ []))) 400).number ≡ 0
buckets-descend = worked-answers.buckets-descend

-- the inode goes before the offset
pub inode-first :
    (sort (volume_bytes (holding 10 (key_at 2 3 ∷ key_at 1 5 ∷ []) [])) 400).written
    ≡ volume_bytes (holding 10 (key_at 1 5 ∷ key_at 2 3 ∷ []) [])
inode-first = worked-answers.inode-first

-- two pieces of descending size keep their order
pub requests-kept : (sort two_pieces 400).written ≡ two_pieces
requests-kept = worked-answers.requests-kept

-- fields in another order, with field 1 last
pub shuffled-sorted : (sort two_pieces_shuffled 400).written ≡ two_pieces
shuffled-sorted = worked-answers.shuffled-sorted

-- generations: two bytes of a record; the third is past its end, the next has a key of another type, and the walk ends with the first of two keys past all records
pub looked-up : generations (volume_bytes two_records) (bucket 1 ∷ bucket 2 ∷ bucket 3 ∷ bucket 256 ∷ bucket 512 ∷ []) 5
    ≡ record { number = 0; written = 6 ∷ 7 ∷ 0 ∷ 0 ∷ 8 ∷ []; visited = 4 }
looked-up = worked-answers.looked-up

-- the same with the fields in the opposite order
pub looked-up-shuffled : generations (encode (backwards (volume_fields two_records))) (bucket 1 ∷ bucket 2 ∷ bucket 3 ∷ bucket 256 ∷ bucket 512 ∷ []) 5
    ≡ record { number = 0; written = 6 ∷ 7 ∷ 0 ∷ 0 ∷ 8 ∷ []; visited = 4 }
looked-up-shuffled = worked-answers.looked-up-shuffled

-- it visits the record and the key behind it; every key where none is past the record; none for no buckets
pub ends-behind : generations (volume_bytes two_records) (bucket 1 ∷ []) 1 ≡ record { number = 0; written = 6 ∷ []; visited = 2 }
ends-behind = worked-answers.ends-behind

pub ends-with-all : generations (volume_bytes (holding 14 (gens_from 0 (5 ∷ []) ∷ []) [])) (bucket 0 ∷ bucket 700 ∷ []) 2
    ≡ record { number = 0; written = 5 ∷ 0 ∷ []; visited = 1 }
ends-with-all = worked-answers.ends-with-all

pub none-visited : generations (volume_bytes two_records) [] 0 ≡ record { number = 0; written = []; visited = 0 }
none-visited = worked-answers.none-visited

-- a bucket twice, and two that descend, are 2
pub equal-buckets : (generations (volume_bytes two_records) (bucket 1 ∷ bucket 1 ∷ []) 2).number ≡ 2
equal-buckets = worked-answers.equal-buckets

pub descending-buckets : (generations (volume_bytes two_records) (bucket 2 ∷ bucket 1 ∷ []) 2).number ≡ 2
descending-buckets = worked-answers.descending-buckets

-- the order of 2, 22, 3 and 21
pub two-before-22 : (generations (volume_bytes (holding 14 (key_at 1 5 ∷ key_at 1 5 ∷ []) [])) (bucket 1 ∷ bucket 1 ∷ []) 2).number ≡ 2
two-before-22 = worked-answers.two-before-22

pub twice-before-limit : (generations (volume_bytes (holding 14 (key_at 1 5 ∷ key_at 1 5 ∷ []) [])) (bucket 65536 ∷ []) 1).number ≡ 22
twice-before-limit = worked-answers.twice-before-limit

pub limit-before-room : generations (volume_bytes two_records) (bucket 65536 ∷ []) 0 ≡ record { number = 3; written = []; visited = 0 }
limit-before-room = worked-answers.limit-before-room

pub no-room : generations (volume_bytes two_records) (bucket 65535 ∷ []) 0 ≡ record { number = 21; written = []; visited = 0 }
no-room = worked-answers.no_room

-- ---- what is written is read back
-- what an accepted call writes is laid out right, and is read back as the batches, or the volume, of its definition
pub place-read-back : (s : List ℕ) (room : ℕ) → Bytes s → (place s room).number ≡ 0
    → (change_laid_out (place s room).written ≡ true)
    × (changes_of (place s room).written ≡ place_batch (read_volume s) (placed_of (read_call s)) (walk_of (read_call s)) ∷ [])
place-read-back s room r h = let w = answers.place-written s r room h in (w.laid_out, w.back)

pub release-read-back : (s : List ℕ) (scratch room : ℕ) → Bytes s → (release s scratch room).number ≡ 0
    → (change_laid_out (release s scratch room).written ≡ true)
    × (changes_of (release s scratch room).written ≡ release_batch (read_volume s) (read_call s).releases ∷ [])
release-read-back s scratch room r h = let w = answers.release-written s r room scratch h in (w.laid_out, w.back)

pub discard-read-back : (s : List ℕ) (room : ℕ) → Bytes s → (discard s room).number ≡ 0
    → (change_laid_out (discard s room).written ≡ true) × (changes_of (discard s room).written ≡ discard_batches (read_volume s))
discard-read-back s room r h = let w = answers.discard-written s r room h in (w.laid_out, w.back)

pub apply-read-back : (s change : List ℕ) (room : ℕ) → Bytes s → Bytes change → (apply s change room).number ≡ 0
    → (volume_laid_out (apply s change room).written ≡ true) × (none_twice (read_volume (apply s change room).written) ≡ true)
    × (read_volume (apply s change room).written ≡ next_volume s change)
apply-read-back = answers.apply-written

-- ---- the LRU root
-- a placement's field 70 names it exactly where an LRU key is queued and it does not exist
pub lru-root : (v : Volume) (ps : List Placed) (w : Walked)
    → (place_batch v ps w).roots ≡ roots_if (not (is_empty (place_batch v ps w).trees.lru) && root_missing v.head.roots 0) 10
lru-root = roots.lru-root

-- so it exists once an accepted placement that queues an LRU key is applied
pub lru-root-exists : (s : List ℕ) (room apply_room : ℕ) → Bytes s → (place s room).number ≡ 0
    → any_of (λ b. not (is_empty b.trees.lru)) (changes_of (place s room).written) ≡ true
    → (apply (without_requests s) (place s room).written apply_room).number ≡ 0
    → root_missing (read_volume (apply (without_requests s) (place s room).written apply_room).written).head.roots 0 ≡ false
lru-root-exists = roots.lru-root-exists

-- and an accepted placement queues one wherever its stored sectors in all are no multiple of the bucket
pub total-queued : (s : List ℕ) (room : ℕ) → Bytes s → (place s room).number ≡ 0
    → (total (λ p. p.stored) (read_call s).pieces % (read_volume s).head.bucket_sectors ≡ 0 → ⊥)
    → any_of (λ b. not (is_empty b.trees.lru)) (changes_of (place s room).written) ≡ true
total-queued = roots.total-queued

-- ==== Demand 2: what the Linux headers decide

-- ---- the formulas of FORMAT.md, "Pieces and extents"
pub pointer-is : (d : DeviceSector) (generation : ℕ) → sector_number d < 2 ^ 44 → generation < 256
    → 1 + 16 * sector_number d + 2 ^ 56 * generation ≡ pointer d generation
pointer-is = entries.pointer_is

pub crc32-is : (stored file ctype kind checksum : ℕ) → stored ≤ 128 → file ≤ 128 → ctype < 16 → kind < 16
    → 2 + (stored - 1) * 2 ^ 2 + (file - 1) * 2 ^ 9 + ctype * 2 ^ 24 + kind * 2 ^ 28 + checksum % 2 ^ 32 * 2 ^ 32 ≡ crc32 stored file ctype kind checksum
crc32-is = entries.crc32-is

pub crc64-is : (stored file ctype kind : ℕ) → stored ≤ 512 → file ≤ 512 → ctype < 16 → kind < 16
    → 4 + (stored - 1) * 2 ^ 3 + (file - 1) * 2 ^ 12 + ctype * 2 ^ 40 + kind * 2 ^ 44 ≡ crc64 stored file ctype kind
crc64-is = entries.crc64-is

pub csum-none : csum_type_of 0 ≡ 0
csum-none = entries.csum-none

pub csum-is : (option : ℕ) → 0 < option → option ≤ 3 → option + 4 ≡ csum_type_of option
csum-is = entries.csum-is

-- the words of an extent, by option
pub words-0 : (kind stored file checksum word : ℕ) → extent_words 0 kind stored file checksum word ≡ word ∷ []
words-0 = entries.words-0

pub words-1 : (kind stored file checksum word : ℕ)
    → extent_words 1 kind stored file checksum word ≡ crc32 stored file (csum_type_of 1) kind checksum ∷ word ∷ []
words-1 = entries.words-1

pub words-more : (kind stored file checksum word option : ℕ) → 1 < option
    → extent_words option kind stored file checksum word ≡ crc64 stored file (csum_type_of option) kind ∷ checksum ∷ word ∷ []
words-more = entries.words_more

-- ---- each packed word and struct has the fields that the header names
-- struct bch_extent_ptr: type, cached, unused, unwritten, offset, dev, gen
pub pointer-decodes : (d : DeviceSector) (generation : ℕ) → sector_number d < 2 ^ 44 → generation < 256
    → unpack (1 ∷ 1 ∷ 1 ∷ 1 ∷ 44 ∷ 8 ∷ 8 ∷ []) (pointer d generation) ≡ 1 ∷ 0 ∷ 0 ∷ 0 ∷ sector_number d ∷ 0 ∷ generation ∷ []
pointer-decodes = decoded.pointer-decodes

-- struct bch_extent_crc32: type, _compressed_size, _uncompressed_size, offset, _unused, csum_type, compression_type, csum
pub crc32-decodes : (stored file ctype kind checksum : ℕ) → stored ≤ 128 → file ≤ 128 → ctype < 16 → kind < 16
    → unpack (2 ∷ 7 ∷ 7 ∷ 7 ∷ 1 ∷ 4 ∷ 4 ∷ 32 ∷ []) (crc32 stored file ctype kind checksum)
    ≡ 2 ∷ (stored - 1) ∷ (file - 1) ∷ 0 ∷ 0 ∷ ctype ∷ kind ∷ (checksum % 2 ^ 32) ∷ []
crc32-decodes = decoded.crc32-decodes

-- struct bch_extent_crc64: type, _compressed_size, _uncompressed_size, offset, nonce, csum_type, compression_type, csum_hi
pub crc64-decodes : (stored file ctype kind : ℕ) → stored ≤ 512 → file ≤ 512 → ctype < 16 → kind < 16
    → unpack (3 ∷ 9 ∷ 9 ∷ 9 ∷ 10 ∷ 4 ∷ 4 ∷ 16 ∷ []) (crc64 stored file ctype kind) ≡ 4 ∷ (stored - 1) ∷ (file - 1) ∷ 0 ∷ 0 ∷ ctype ∷ kind ∷ 0 ∷ []
crc64-decodes = decoded.crc64-decodes

-- the type of an entry is the position of its first set bit: 0 in a pointer, 1 in a crc32, 2 in a crc64
pub pointer-first : (d : DeviceSector) (generation : ℕ) → pointer d generation % 2 ≡ 1
pointer-first = decoded.pointer-first

pub crc32-first : (stored file ctype kind checksum : ℕ) → crc32 stored file ctype kind checksum % 4 ≡ 2
crc32-first = decoded.crc32-first

pub crc64-first : (stored file ctype kind : ℕ) → crc64 stored file ctype kind % 8 ≡ 4
crc64-first = decoded.crc64-first

-- alloc_v4's flags: NEED_DISCARD, NEED_INC_GEN, BACKPOINTERS_START, NR_BACKPOINTERS, and the bits above them
pub flags-decode : (f : Flags) → f.need_discard < 2 ^ 1 → f.need_inc_gen < 2 ^ 1 → f.backpointers_start < 2 ^ 6 → f.nr_backpointers < 2 ^ 6
    → f.unnamed < 2 ^ 18 → flags_of (flags_word f) ≡ f
flags-decode f a b c d e =
    decoded.flags-decode f (record { need_discard = a; need_inc_gen = b; backpointers_start = c; nr_backpointers = d; unnamed = e })

-- struct bch_alloc_v4: what a new value holds, and what emptying, a discard and another dirty count make of each member
pub new-decodes : (journal generation dirty clock : ℕ) → journal < 2 ^ 64 → generation < 256 → dirty < 2 ^ 32 → clock < 2 ^ 64
    → map (λ m. get m (new_alloc journal generation dirty clock)) alloc_v4
    ≡ journal ∷ 0x23 ∷ generation ∷ generation ∷ 4 ∷ 0 ∷ dirty ∷ 0 ∷ 1 ∷ clock ∷ 0 ∷ 0 ∷ 0 ∷ 0 ∷ 0 ∷ []
new-decodes = alloc.new-decodes

pub emptied-decodes : (journal : ℕ) (v : List ℕ) → 56 ≤ length v → journal < 2 ^ 64
    → map (λ m. get m (emptied journal v)) alloc_v4
    ≡ get journal_seq v ∷ emptied_flags (get flags v) ∷ next_gen (get gen v) ∷ next_gen (get gen v) ∷ 9 ∷ 0 ∷ 0 ∷ get cached_sectors v
    ∷ get io_time_read v ∷ get io_time_write v ∷ get stripe v ∷ get nr_external_backpointers v ∷ journal ∷ get stripe_sectors v ∷ get pad v ∷ []
emptied-decodes = alloc.emptied-decodes

pub discarded-decodes : (v : List ℕ) → 56 ≤ length v
    → map (λ m. get m (discarded v)) alloc_v4
    ≡ 0 ∷ discarded_flags (get flags v) ∷ get gen v ∷ get oldest_gen v ∷ 0 ∷ get stripe_redundancy v ∷ get dirty_sectors v
    ∷ get cached_sectors v ∷ get io_time_read v ∷ get io_time_write v ∷ get stripe v ∷ get nr_external_backpointers v ∷ 0 ∷ get stripe_sectors v ∷ get pad v ∷ []
discarded-decodes = alloc.discarded-decodes

pub dirty-decodes : (dirty : ℕ) (v : List ℕ) → 20 ≤ length v → dirty < 2 ^ 32
    → map (λ m. get m (with_dirty dirty v)) alloc_v4
    ≡ get journal_seq v ∷ get flags v ∷ get gen v ∷ get oldest_gen v ∷ get data_type v ∷ get stripe_redundancy v ∷ dirty ∷ get cached_sectors v
    ∷ get io_time_read v ∷ get io_time_write v ∷ get stripe v ∷ get nr_external_backpointers v ∷ get journal_seq_empty v ∷ get stripe_sectors v ∷ get pad v ∷ []
dirty-decodes = alloc.dirty-decodes

-- and no other byte of a value changes
pub emptied-kept : (journal : ℕ) (v : List ℕ) (i : ℕ) → (i < 8) ⊎ (((20 ≤ i) × (i < 48)) ⊎ (56 ≤ i)) → get_or (emptied journal v) i 0 ≡ get_or v i 0
emptied-kept = alloc.emptied-kept

pub discarded-kept : (v : List ℕ) (i : ℕ) → ((12 ≤ i) × (i < 14)) ⊎ (((15 ≤ i) × (i < 48)) ⊎ (56 ≤ i)) → get_or (discarded v) i 0 ≡ get_or v i 0
discarded-kept = alloc.discarded-kept

pub dirty-kept : (dirty : ℕ) (v : List ℕ) (i : ℕ) → (i < 16) ⊎ (20 ≤ i) → get_or (with_dirty dirty v) i 0 ≡ get_or v i 0
dirty-kept = alloc.dirty-kept

-- struct bch_backpointer: btree_id, level, data_type, bucket_gen, pad, bucket_len, and pos, which is snapshot, offset, inode
pub backpointer-decodes : (generation stored : ℕ) (extent : Bpos) → generation < 256 → stored < 2 ^ 32 → extent.snapshot < 2 ^ 32
    → extent.offset < 2 ^ 64 → extent.inode < 2 ^ 64
    → read_struct (1 ∷ 1 ∷ 1 ∷ 1 ∷ 4 ∷ 4 ∷ 4 ∷ 8 ∷ 8 ∷ []) (backpointer generation stored extent)
    ≡ 0 ∷ 0 ∷ 4 ∷ generation ∷ 0 ∷ stored ∷ extent.snapshot ∷ extent.offset ∷ extent.inode ∷ []
backpointer-decodes = backpointers.backpointer-decodes

-- struct bch_bucket_gens: byte b mod 256 is bucket b's generation, 0 in a new record
pub gen-there : (b : Bucket) (generation : ℕ) (v : List ℕ) → gens_byte b < length v → gen_in (with_gen b generation v) b ≡ some generation
gen-there = gens.gen-there

pub gen-elsewhere : (b : Bucket) (generation : ℕ) (v : List ℕ) (a : Bucket) → (gens_byte a ≡ gens_byte b → ⊥)
    → gen_in (with_gen b generation v) a ≡ gen_in v a
gen-elsewhere = gens.gen-elsewhere

pub gen-started : (b : Bucket) → gen_in no_gens b ≡ some 0
gen-started = gens.gen-started

-- ==== Demand 3: every history

pub demand3 : (clean : List ℕ) → Clean clean → (steps : List Step) → History (start clean) steps
    → Claim clean (after (start clean) steps) × GensAgree (after (start clean) steps)
demand3 = history.demand3

-- ---- beside it
-- the same after any number of the batches of a discard
pub discard-batches : (clean : List ℕ) → Clean clean → (steps : List Step) → History (start clean) steps
    → (s : List ℕ) (room : ℕ) → Allowed (after (start clean) steps) (record { call = discarding; list = s; scratch = 0; room = room; apply_room = 0 })
    → (discard s room).number ≡ 0
    → (n : ℕ)
    → let st : State = record { volume = volume_bytes (apply_batches (take n (discard_batches (read_volume s))) (read_volume s)); live = (after (start clean) steps).live } in
    Claim clean st × GensAgree st
discard-batches = batches.discard-batches

-- no two freespace runs have a bucket in common, and none begins before bucket 0
pub history-runs : (clean : List ℕ) → Clean clean → (steps : List Step) → History (start clean) steps
    → let l : List Key = runs_of (read_volume (after (start clean) steps).volume).trees.freespace in
    (overlaps l ≡ false) × (all_of (λ k. not (began_before (end_of k) k.size)) l ≡ true)
history-runs clean c steps h = let r = runs.history-runs clean c steps h in (r.disjoint, r.begun)

-- each key of tree 14 is a generation record of 256 bytes
pub history-records : (clean : List ℕ) → Clean clean → (steps : List Step) → History (start clean) steps
    → All (λ k. (k.type ≡ 30) × (length k.value ≡ 256)) (read_volume (after (start clean) steps).volume).trees.gens
history-records = records.history-records

-- an accepted lookup of generations on the volume reached tells, of the bucket of each live piece, the generation that the piece carries
pub live-generations : (clean : List ℕ) → Clean clean → (steps : List Step) → History (start clean) steps → (buckets : List Bucket) (room : ℕ)
    → let st : State = after (start clean) steps in
    (generations st.volume buckets room).number ≡ 0
    → All (λ p. (i : ℕ) → i < length buckets → get_or buckets i no_bucket ≡ bucket_of p.first (sectors_of st)
    → get_or (generations st.volume buckets room).written i 0 ≡ p.generation) st.live
live-generations = told.live-generations

-- what these stand on: whatever field 1, but for the bucket sectors, and each applied call leave true of a volume and its live pieces, every history does
pub history-keeps : (P : Volume → List Live → Type 0)
    → ((v w : Volume) (live : List Live) → w.trees ≡ v.trees → w.reserved ≡ v.reserved → w.head.bucket_sectors ≡ v.head.bucket_sectors → P v live → P w live)
    → ((s : List ℕ) (live : List Live) → Bytes s → trees_ok (read_volume s).trees ≡ true → verdict (place_tests (read_call s)) ≡ 0 → P (read_volume s) live
    → P (apply_batch (place_batch (read_volume s) (placed_of (read_call s)) (walk_of (read_call s))) (read_volume s))
    (live ++ map (λ (p : Placed). record { first = p.first; generation = p.generation; length = p.piece.stored }) (placed_of (read_call s))))
    → ((s : List ℕ) (live left : List Live) → Bytes s → trees_ok (read_volume s).trees ≡ true → verdict (release_tests (read_volume s) (read_call s).releases) ≡ 0
    → take_all (read_call s).releases live ≡ some left → P (read_volume s) live
    → P (apply_batch (release_batch (read_volume s) (read_call s).releases) (read_volume s)) left)
    → ((s : List ℕ) (live : List Live) → Bytes s → trees_ok (read_volume s).trees ≡ true → P (read_volume s) live
    → P (apply_batches (discard_batches (read_volume s)) (read_volume s)) live)
    → (steps : List Step) (st : State) → P (read_volume st.volume) st.live → History st steps
    → P (read_volume (after st steps).volume) (after st steps).live
history-keeps P same placed released discarded =
    keeping.history-keeps {P = P}
    (record {
      same = same;
      place = λ s live r. placed s live r.bytes r.trees;
      release = λ s live left r. released s live left r.bytes r.trees;
      discard = λ s live r. discarded s live r.bytes r.trees;
    })

-- the buckets that a placement takes ascend strictly
pub taken-ascend : (s : List ℕ) → call_laid_out 1 s ≡ true → none_twice (read_volume s) ≡ true → overlaps (runs_of (read_volume s).trees.freespace) ≡ false
    → in_order bucket_below (walk_of (read_call s)).taken ≡ true
taken-ascend = taken.laid-taken-ascend

-- and so do those that a walk takes from runs in order that do not overlap
pub walk-taken-ascend : (reserved used : Bucket → Bool) (need : ℕ) (l : List Key) → keys_ok l ≡ true → overlaps (runs_of l) ≡ false
    → in_order bucket_below (walk reserved used need (runs_of l)).taken ≡ true
walk-taken-ascend reserved used need l k = taken.walk-taken-ascend reserved used need l (keys-order l k).0

-- an accepted placement writes one batch; its fields 72 and its extents' pointers, the last word of each, tell the same, and a pointer gives sector and generation back
pub pointers-agree : (s : List ℕ) (room : ℕ) → Bytes s → (place s room).number ≡ 0
    → (b : Batch) × (changes_of (place s room).written ≡ b ∷ [])
    × (map (λ k. le 8 (drop (length k.value - 8) k.value)) b.extents ≡ map (λ t. pointer t.first t.generation) b.spots)
    × All (λ t. unpack (1 ∷ 1 ∷ 1 ∷ 1 ∷ 44 ∷ 8 ∷ 8 ∷ []) (pointer t.first t.generation) ≡ 1 ∷ 0 ∷ 0 ∷ 0 ∷ sector_number t.first ∷ 0 ∷ t.generation ∷ []) b.spots
pointers-agree s room r h = let p = pointers.pointers-agree s room r h in (p.0, p.1, p.2.same, p.2.read)

-- ---- it is not empty: eight calls on a small volume, of which one is refused and one has its apply refused
pub worked-clean : Clean example.clean
worked-clean = worked.clean-volume

pub worked-history : History (start example.clean) (example.ran (start example.clean) example.steps)
worked-history = worked.worked

pub worked-live : (example.reached).live ≡ example.piece 8 0 4 ∷ example.piece 16 0 3 ∷ example.piece 0 1 5 ∷ example.piece 32 0 5 ∷ []
worked-live = worked.live-pieces

pub worked-claim : Claim example.clean example.reached × GensAgree example.reached
worked-claim = worked.worked-claim

-- ==== The program

pub bucket-lines : {M : Type 1} → lines_s.statement M
bucket-lines = lines_m.met

module _ (κs : Lfts 2) (a : Dens κs lines_k.ps) (r : ℕ) (e : AtExit (ended_of 2 lines_k.ps lines_k.r) κs) where
  pub bucket-lines-asks : lines_r.Asked κs a ≡ Unit {0}
  bucket-lines-asks = refl

  pub bucket-lines-says :
      let list : List ℕ = a.0.now in
      let text : List ℕ = a.1.0.now in
      let text-after : List ℕ = e.1.0.now in
      lines_r.Learnt κs a r e ≡ Shown (bucket_lines list) text text-after r
  bucket-lines-says = refl

-- the printed case of FORMAT.md
pub printed : bucket_lines printed_list ≡ printed_text
printed = printing.printed
