-- The sorted form of a list that passes refusals 2 and 22: it is read as the list is, it has the same fields, and every call answers it alike.
use mathlib.Core.Path.{◌≡◌, ap, sym, ◌∙◌}
use mathlib.Core.Bool.{Bool, true, not, ◌&&◌}
use mathlib.Core.List.{List, [], ◌∷◌, ◌++◌}
use Prim.Native.Nat.{ℕ, ◌+◌}
use native.Mathlib.Omega.{arith}
use lib.Dec.{leb, eqb}
use lib.ListN.{length}
use borrow.Author.Tests.{eqb-true}
use Rattle.wire.specs.Fields.{Field, fields, size, whole}
use Rattle.wire.specs.Bytes.{Bytes}
use Rattle.wire.specs.Kinds.{bucket_below}
use Rattle.calls.specs.Lists.{all_of, in_order, one}
use Rattle.calls.specs.SameFields.{same_field, AsOften}
use Rattle.calls.specs.CallList.{CallList, all_trees, snapshots_ok, head_ok, bodies, Shape, shaped, volume_shapes, request_shapes, laid_out, call_laid_out, volume_laid_out, list_laid_out, none_twice, volume_bytes, call_bytes}
use Rattle.calls.specs.Limits.{list_within, volume_within, buckets_within}
use Rattle.calls.specs.JointLookup.{JointLookup, joint_lookup}
use Rattle.calls.specs.ChangeList.{change_bytes, change_laid_out, changes_of}
use Rattle.calls.specs.Refusals.{test}
use Rattle.calls.specs.Place.{place_tests, place_batch, placed_of, walk_of}
use Rattle.calls.specs.Release.{release_tests, release_batch}
use Rattle.calls.specs.Discard.{discard_batches}
use Rattle.calls.specs.Apply.{apply_batches}
use Rattle.wire.specs.declared.kinds.Bucket.{Bucket}
use Rattle.calls.specs.Answers.{answer, generations, read_call, read_volume, sorted_form, sort, with_visited}
use Rattle.calls.specs.ListCalls.{ListCall, placing, releasing, discarding, applying, sorting, answer_of}
use Rattle.calls.proofs.lists.TotalLaws.{all-count}
use Rattle.calls.proofs.encoding.CallTrip.{call_back, call-whole, call-bytes, laid-call}
use Rattle.calls.proofs.encoding.FieldTotals.{size-total, bodies-count}
use Rattle.calls.proofs.encoding.FormFields.{form-total}
use Rattle.calls.proofs.encoding.OftenLaws.{often-volume}
use Rattle.calls.proofs.encoding.VolumeTrip.{ListLaid, list-laid}
use Rattle.calls.proofs.answers.AnswerLaws.{place_is, release-is, discard-is, apply-is, sort-is, generations-is, arranged}

module _ {s : List ℕ} (r : Bytes s) (l : list_laid_out s ≡ true) (o : none_twice (read_volume s) ≡ true) where
  -- the list is laid out right, whatever its requests
  abbrev laid : ListLaid s
  laid = list-laid r l

  -- it is read as the list is
  pub form-reads : read_call (sorted_form s) ≡ read_call s
  form-reads = call_back (laid-call laid) o

  -- every field stands in it as often
  pub form-fields : AsOften (fields (sorted_form s)) (fields s)
  form-fields f = form-total laid (λ g. one (same_field f g))

  -- it is whole fields, of as many bytes
  form-whole : whole (sorted_form s) ≡ true
  form-whole = call-whole (laid-call laid)

  form-size : size (fields (sorted_form s)) ≡ size (fields s)
  form-size = size-total (fields (sorted_form s)) ∙ form-total laid (λ f. 3 + length f.body) ∙ sym (size-total (fields s))

  pub form-length : length (sorted_form s) ≡ length s
  unfolding whole
  form-length =
      omega (
        arith,
        form-size,
        eqb-true (size (fields (sorted_form s))) (length (sorted_form s)) form-whole,
        eqb-true (size (fields s)) (length s) laid.ends,
      )

  pub form-bytes : Bytes (sorted_form s)
  form-bytes = call-bytes (laid-call laid)

  -- a test of all fields, and the number of fields with a tag
  form-all : (t : Field → Bool) → all_of t (fields (sorted_form s)) ≡ all_of t (fields s)
  form-all t =
      all-count t (fields (sorted_form s)) ∙ ap (λ (n : ℕ). eqb n 0) (form-total laid (λ f. one (not (t f)))) ∙ sym (all-count t (fields s))

  form-tagged : (t : ℕ) → length (bodies t (fields (sorted_form s))) ≡ length (bodies t (fields s))
  form-tagged t =
      bodies-count t (fields (sorted_form s)) ∙ form-total laid (λ f. one (eqb f.tag t)) ∙ sym (bodies-count t (fields s))

  -- it is laid out right where the list is
  pub form-laid : (ss : List Shape) → laid_out ss (sorted_form s) ≡ laid_out ss s
  unfolding laid_out
  form-laid ss =
      let w : whole (sorted_form s) ≡ whole s = form-whole ∙ sym laid.ends in
      λ i.
      w i
      && (form-all (shaped ss) i
      && (eqb (form-tagged 1 i) 1 && (head_ok (form-reads i).volume.head && all_trees snapshots_ok (form-reads i).volume.trees)))

  -- it is its own sorted form
  pub form-again : sorted_form (sorted_form s) ≡ sorted_form s
  form-again = ap call_bytes form-reads

  -- the layouts that calls ask for
  form-call : (call : ℕ) → call_laid_out call (sorted_form s) ≡ call_laid_out call s
  unfolding call_laid_out
  form-call call = λ i. form-laid (volume_shapes ++ request_shapes call) i && eqb (form-reads i).volume.head.call call

  form-volume : volume_laid_out (sorted_form s) ≡ volume_laid_out s
  unfolding volume_laid_out
  form-volume = form-laid volume_shapes

  form-list : list_laid_out (sorted_form s) ≡ list_laid_out s
  unfolding list_laid_out
  form-list =
      ap (λ (c : CallList). laid_out (volume_shapes ++ request_shapes c.volume.head.call) (sorted_form s)) form-reads
      ∙ form-laid (volume_shapes ++ request_shapes (read_volume s).head.call)

  -- every call answers it alike
  pub answers-sorted : (c : ListCall) (room : ℕ) → answer_of c (sorted_form s) room ≡ answer_of c s room
  answers-sorted placing room =
      place_is (sorted_form s) room
      ∙ (λ i.
      let c : CallList = form-reads i in
      answer (test 2 (form-call 1 i) ∷ test 22 (none_twice c.volume) ∷ test 3 (list_within c) ∷ place_tests c)
      (change_bytes (place_batch c.volume (placed_of c) (walk_of c) ∷ [])) room)
      ∙ sym (place_is s room)
  answers-sorted (releasing scratch) room =
      release-is (sorted_form s) scratch room
      ∙ (λ i.
      let c : CallList = form-reads i in
      answer
      (test 1 (leb 65536 scratch) ∷ test 2 (form-call 2 i) ∷ test 22 (none_twice c.volume) ∷ test 3 (list_within c)
      ∷ release_tests c.volume c.releases)
      (change_bytes (release_batch c.volume c.releases ∷ [])) room)
      ∙ sym (release-is s scratch room)
  answers-sorted discarding room =
      discard-is (sorted_form s) room
      ∙ (λ i.
      let c : CallList = form-reads i in
      answer
      (test 2 (form-call 3 i) ∷ test 22 (none_twice c.volume) ∷ test 3 (list_within c)
      ∷ test 20 (not (eqb c.volume.head.batch 0))
      ∷ [])
      (change_bytes (discard_batches c.volume)) room)
      ∙ sym (discard-is s room)
  answers-sorted (applying change) room =
      apply-is (sorted_form s) change room
      ∙ (λ i.
      let c : CallList = form-reads i in
      answer
      (test 2 (form-volume i && change_laid_out change) ∷ test 22 (none_twice c.volume) ∷ test 3 (volume_within c.volume)
      ∷ test 3 (volume_within (apply_batches (changes_of change) c.volume))
      ∷ [])
      (volume_bytes (apply_batches (changes_of change) c.volume)) room)
      ∙ sym (apply-is s change room)
  answers-sorted sorting room =
      sort-is (sorted_form s) room
      ∙ (λ i.
      let c : CallList = form-reads i in
      answer (test 2 (form-list i) ∷ test 22 (none_twice c.volume) ∷ test 3 (list_within c) ∷ []) (call_bytes c) room)
      ∙ sym (sort-is s room)

  -- so does the lookup of generations
  pub generations-sorted : (buckets : List Bucket) (room : ℕ) → generations (sorted_form s) buckets room ≡ generations s buckets room
  generations-sorted buckets room =
      generations-is (sorted_form s) buckets room
      ∙ (λ i.
      let c : CallList = form-reads i in
      let looked : JointLookup = joint_lookup c.volume.trees.gens buckets in
      with_visited looked.visited
      (answer
      (test 2 (form-volume i && in_order bucket_below buckets) ∷ test 22 (none_twice c.volume)
      ∷ test 3 (volume_within c.volume && buckets_within buckets)
      ∷ [])
      looked.generations room))
      ∙ sym (generations-is s buckets room)

-- what sort writes, it leaves as it is
pub sort-again : (s : List ℕ) (room : ℕ) → Bytes s → (sort s room).number ≡ 0 → sort (sort s room).written room ≡ sort s room
sort-again s room r h =
    let a = arranged s room h in
    ap (λ (b : List ℕ). sort b room) a.written ∙ answers-sorted r a.laid_out a.once sorting room

-- lists with the same fields, the requests in the same order, have one sorted form
pub one_form : (a b : List ℕ) → Bytes a → list_laid_out a ≡ true → none_twice (read_volume a) ≡ true → AsOften (fields a) (fields b)
    → (read_call a).pieces ≡ (read_call b).pieces
    → (read_call a).releases ≡ (read_call b).releases
    → sorted_form a ≡ sorted_form b
one_form a b r l o h p q =
    let v : read_volume a ≡ read_volume b = often-volume (fields a) (fields b) h (list-laid r l).one o in
    ap call_bytes (λ i. record { volume = v i; pieces = p i; releases = q i })
