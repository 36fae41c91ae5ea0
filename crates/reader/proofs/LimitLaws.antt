-- The limits of a list, found field by field and rank by rank.
use Prim.Native.Nat.{ℕ, ◌≤◌}
use mathlib.Core.Path.{◌≡◌, sym, ◌∙◌, ap}
use mathlib.Core.Logic.{inl, inr, ⊎_elim}
use mathlib.Core.List.{List, map}
use mathlib.Core.Bool.{true}
use lib.ListN.{length, length-map}
use lib.Dec.{leb}
use borrow.Author.Tests.{eq-eqb, ne_eqb, le-leb, leb-true}
use native.Mathlib.Omega.{arith}
use Rattle.wire.specs.Fields.{Field}
use Rattle.wire.specs.Keys.{Key, key_of}
use Rattle.wire.specs.Kinds.{bucket_read, bucket_below, bucket_in_range}
use Rattle.wire.specs.declared.kinds.Bucket.{Bucket}
use Rattle.wire.specs.Bytes.{All}
use Rattle.calls.specs.Lists.{all_of}
use Rattle.calls.specs.Sorting.{sorted_by}
use Rattle.calls.specs.CallList.{CallList, bodies, first_body, head_of, keys_of, sorted_trees, reserved_of, key_below, call_list_of, piece_of, freed_of}
use Rattle.calls.specs.Limits.{few_keys, counts_ok, buckets_ok, volume_within, list_within}
use Rattle.reader.specs.CallFields.{head_within, alloc_within, run_within, waiting_within, field_within}
use Rattle.reader.specs.Table.{rank_of, most_of}
use Rattle.calls.proofs.lists.BoolLaws.{both}
use Rattle.calls.proofs.lists.AllLaws.{test-all, all-test, all-imp, all-zip}
use Rattle.calls.proofs.lists.AllOfLaws.{all_of_map, all-of-sorted}
use Rattle.calls.proofs.lists.SortLaws.{length-sorted}
use Rattle.reader.proofs.BoolLaws.{and_left, and_right}
use Rattle.reader.proofs.ShapeLaws.{same_or}
use Rattle.reader.proofs.ListLaws.{bodies-all, all-bodies}
use Rattle.reader.proofs.ListedLaws.{FieldListed, key, reserved, piece, freed}

-- the limits, one by one
pub record FieldsWithin (fs : List Field) : Type 0 where
  pub alloc : length (bodies 4 fs) ≤ 4096
  pub lru : length (bodies 10 fs) ≤ 4096
  pub freespace : length (bodies 11 fs) ≤ 4096
  pub need_discard : length (bodies 12 fs) ≤ 4096
  pub backpointers : length (bodies 13 fs) ≤ 4096
  pub gens : length (bodies 14 fs) ≤ 4096
  pub alloc_keys : all_of (λ b. alloc_within (key_of b)) (bodies 4 fs) ≡ true
  pub waiting_keys : all_of (λ b. waiting_within (key_of b)) (bodies 12 fs) ≡ true
  pub run_keys : all_of (λ b. run_within (key_of b)) (bodies 11 fs) ≡ true
  pub reserved : length (bodies 64 fs) ≤ 4096
  pub reserved_range : all_of (λ b. bucket_in_range (bucket_read b)) (bodies 64 fs) ≡ true
  pub head : head_within (head_of (first_body (bodies 1 fs))) ≡ true
  pub pieces : length (bodies 65 fs) ≤ 1024
  pub releases : length (bodies 66 fs) ≤ 1024

few-of : {A : Type 0} (f : List ℕ → A) (n : ℕ) (bs : List (List ℕ)) → leb (length (map f bs)) n ≡ true → length bs ≤ n
few-of f n bs h = leb-true (length bs) n (rw length-map at h)

of-few : {A : Type 0} (f : List ℕ → A) (n : ℕ) (bs : List (List ℕ)) → length bs ≤ n → leb (length (map f bs)) n ≡ true
of-few f n bs h = rw length-map (le-leb (length bs) n h)

-- what a list is read as, with its fields as they stand
abbrev as_stands : List Field → CallList
as_stands fs =
    record {
      volume =
          record { head = head_of (first_body (bodies 1 fs)); trees = keys_of fs; reserved = map bucket_read (bodies 64 fs) };
      pieces = map piece_of (bodies 65 fs);
      releases = map freed_of (bodies 66 fs);
    }

-- its limits are those of what it is read as
few-sorted : (ks : List Key) → few_keys (sorted_by key_below ks) ≡ few_keys ks
unfolding few_keys
few-sorted ks = ap (λ (n : ℕ). leb n 4096) (length-sorted key_below ks)

few-reserved : (bs : List Bucket) → leb (length (sorted_by bucket_below bs)) 4096 ≡ leb (length bs) 4096
few-reserved bs = ap (λ (n : ℕ). leb n 4096) (length-sorted bucket_below bs)

within-stands : (fs : List Field) → list_within (call_list_of fs) ≡ list_within (as_stands fs)
unfolding list_within volume_within counts_ok buckets_ok call_list_of sorted_trees keys_of reserved_of
within-stands fs =
    rw (
      few-sorted (map key_of (bodies 4 fs)),
      few-sorted (map key_of (bodies 10 fs)),
      few-sorted (map key_of (bodies 11 fs)),
      few-sorted (map key_of (bodies 12 fs)),
      few-sorted (map key_of (bodies 13 fs)),
      few-sorted (map key_of (bodies 14 fs)),
      all-of-sorted alloc_within key_below (map key_of (bodies 4 fs)),
      all-of-sorted waiting_within key_below (map key_of (bodies 12 fs)),
      all-of-sorted run_within key_below (map key_of (bodies 11 fs)),
      few-reserved (map bucket_read (bodies 64 fs)),
      all-of-sorted bucket_in_range bucket_below (map bucket_read (bodies 64 fs)),
    )

pub within-parts : (fs : List Field) → list_within (call_list_of fs) ≡ true → FieldsWithin fs
unfolding list_within volume_within counts_ok few_keys buckets_ok keys_of
within-parts fs k =
    let h = sym (within-stands fs) ∙ k in
    let v = and_left (volume_within (as_stands fs).volume) _ h in
    let r = and_right (volume_within (as_stands fs).volume) _ h in
    let n = and_left (counts_ok (keys_of fs)) _ v in
    let v1 = and_right (counts_ok (keys_of fs)) _ v in
    let b = and_left (buckets_ok (keys_of fs)) _ v1 in
    let v2 = and_right (buckets_ok (keys_of fs)) _ v1 in
    let v3 = and_right (leb (length (map bucket_read (bodies 64 fs))) 4096) _ v2 in
    let n1 = and_right (leb (length (map key_of (bodies 4 fs))) 4096) _ n in
    let n2 = and_right (leb (length (map key_of (bodies 10 fs))) 4096) _ n1 in
    let n3 = and_right (leb (length (map key_of (bodies 11 fs))) 4096) _ n2 in
    let n4 = and_right (leb (length (map key_of (bodies 12 fs))) 4096) _ n3 in
    let n5 = and_right (leb (length (map key_of (bodies 13 fs))) 4096) _ n4 in
    let b1 = and_right (all_of alloc_within (map key_of (bodies 4 fs))) _ b in
    record {
      alloc = few-of key_of 4096 (bodies 4 fs) (and_left _ _ n);
      lru = few-of key_of 4096 (bodies 10 fs) (and_left _ _ n1);
      freespace = few-of key_of 4096 (bodies 11 fs) (and_left _ _ n2);
      need_discard = few-of key_of 4096 (bodies 12 fs) (and_left _ _ n3);
      backpointers = few-of key_of 4096 (bodies 13 fs) (and_left _ _ n4);
      gens = few-of key_of 4096 (bodies 14 fs) n5;
      alloc_keys = sym (all_of_map alloc_within key_of (bodies 4 fs)) ∙ and_left (all_of alloc_within (map key_of (bodies 4 fs))) _ b;
      waiting_keys = sym (all_of_map waiting_within key_of (bodies 12 fs)) ∙ and_left (all_of waiting_within (map key_of (bodies 12 fs))) _ b1;
      run_keys = sym (all_of_map run_within key_of (bodies 11 fs)) ∙ and_right (all_of waiting_within (map key_of (bodies 12 fs))) _ b1;
      reserved = few-of bucket_read 4096 (bodies 64 fs) (and_left _ _ v2);
      reserved_range =
          sym (all_of_map bucket_in_range bucket_read (bodies 64 fs))
          ∙ and_left (all_of bucket_in_range (map bucket_read (bodies 64 fs))) _ v3;
      head = and_right (all_of bucket_in_range (map bucket_read (bodies 64 fs))) _ v3;
      pieces = few-of piece_of 1024 (bodies 65 fs) (and_left _ _ r);
      releases = few-of freed_of 1024 (bodies 66 fs) (and_right (leb (length (map piece_of (bodies 65 fs))) 1024) _ r);
    }

pub parts_within : (fs : List Field) → FieldsWithin fs → list_within (call_list_of fs) ≡ true
unfolding list_within volume_within counts_ok few_keys buckets_ok keys_of
parts_within fs w =
    within-stands fs
    ∙ both
    (both
    (both (of-few key_of 4096 (bodies 4 fs) w.alloc)
    (both (of-few key_of 4096 (bodies 10 fs) w.lru)
    (both (of-few key_of 4096 (bodies 11 fs) w.freespace)
    (both (of-few key_of 4096 (bodies 12 fs) w.need_discard)
    (both (of-few key_of 4096 (bodies 13 fs) w.backpointers) (of-few key_of 4096 (bodies 14 fs) w.gens))))))
    (both
    (both (all_of_map alloc_within key_of (bodies 4 fs) ∙ w.alloc_keys)
    (both (all_of_map waiting_within key_of (bodies 12 fs) ∙ w.waiting_keys) (all_of_map run_within key_of (bodies 11 fs) ∙ w.run_keys)))
    (both (of-few bucket_read 4096 (bodies 64 fs) w.reserved)
    (both (all_of_map bucket_in_range bucket_read (bodies 64 fs) ∙ w.reserved_range) w.head))))
    (both (of-few piece_of 1024 (bodies 65 fs) w.pieces) (of-few freed_of 1024 (bodies 66 fs) w.releases))

-- the limits on each field

module _ (f : Field) where
  field-made :
      (f.tag ≡ 4 → alloc_within (key_of f.body) ≡ true) → (f.tag ≡ 11 → run_within (key_of f.body) ≡ true)
      → (f.tag ≡ 12 → waiting_within (key_of f.body) ≡ true) → (f.tag ≡ 64 → bucket_in_range (bucket_read f.body) ≡ true)
      → field_within f ≡ true
  unfolding field_within
  field-made a r w b =
      ⊎_elim (λ e. rw (eq-eqb f.tag 4 e) (a e))
      (λ n4.
      ⊎_elim (λ e. rw (ne_eqb f.tag 4 n4, eq-eqb f.tag 11 e) (r e))
      (λ n11.
      ⊎_elim (λ e. rw (ne_eqb f.tag 4 n4, ne_eqb f.tag 11 n11, eq-eqb f.tag 12 e) (w e))
      (λ n12.
      ⊎_elim (λ e. rw (ne_eqb f.tag 4 n4, ne_eqb f.tag 11 n11, ne_eqb f.tag 12 n12, eq-eqb f.tag 64 e) (b e))
      (λ n64. rw (ne_eqb f.tag 4 n4, ne_eqb f.tag 11 n11, ne_eqb f.tag 12 n12, ne_eqb f.tag 64 n64))
      (same_or f.tag 64))
      (same_or f.tag 12))
      (same_or f.tag 11))
      (same_or f.tag 4)

  module _ (h : field_within f ≡ true) where
    field-alloc : f.tag ≡ 4 → alloc_within (key_of f.body) ≡ true
    unfolding field_within
    field-alloc e = rw (eq-eqb f.tag 4 e) at h

    field-run : f.tag ≡ 11 → run_within (key_of f.body) ≡ true
    unfolding field_within
    field-run e = rw (ne_eqb f.tag 4 (λ z. omega arith), eq-eqb f.tag 11 e) at h

    field-waiting : f.tag ≡ 12 → waiting_within (key_of f.body) ≡ true
    unfolding field_within
    field-waiting e =
        rw (ne_eqb f.tag 4 (λ z. omega arith), ne_eqb f.tag 11 (λ z. omega arith), eq-eqb f.tag 12 e) at h

    field-reserved : f.tag ≡ 64 → bucket_in_range (bucket_read f.body) ≡ true
    unfolding field_within
    field-reserved e =
        rw (ne_eqb f.tag 4 (λ z. omega arith), ne_eqb f.tag 11 (λ z. omega arith), ne_eqb f.tag 12 (λ z. omega arith), eq-eqb f.tag 64 e) at h

-- a list's fields keep the limits
pub fields_within : (fs : List Field) → FieldsWithin fs → all_of field_within fs ≡ true
fields_within fs w =
    all-test field_within
    (all-imp (λ f h. field-made f h.0 h.1.0 h.1.1.0 h.1.1.1)
    (all-zip (bodies-all 4 (λ b. alloc_within (key_of b)) fs w.alloc_keys)
    (all-zip (bodies-all 11 (λ b. run_within (key_of b)) fs w.run_keys)
    (all-zip (bodies-all 12 (λ b. waiting_within (key_of b)) fs w.waiting_keys)
    (bodies-all 64 (λ b. bucket_in_range (bucket_read b)) fs w.reserved_range)))))

module _ (fs : List Field) (h : all_of field_within fs ≡ true) where
  each : All (λ f. field_within f ≡ true) fs
  each = test-all field_within fs h

  pub within-alloc : all_of (λ b. alloc_within (key_of b)) (bodies 4 fs) ≡ true
  within-alloc = all-bodies 4 (λ b. alloc_within (key_of b)) (all-imp field-alloc each)

  pub within-run : all_of (λ b. run_within (key_of b)) (bodies 11 fs) ≡ true
  within-run = all-bodies 11 (λ b. run_within (key_of b)) (all-imp field-run each)

  pub within-waiting : all_of (λ b. waiting_within (key_of b)) (bodies 12 fs) ≡ true
  within-waiting = all-bodies 12 (λ b. waiting_within (key_of b)) (all-imp field-waiting each)

  pub within-reserved : all_of (λ b. bucket_in_range (bucket_read b)) (bodies 64 fs) ≡ true
  within-reserved = all-bodies 64 (λ b. bucket_in_range (bucket_read b)) (all-imp field-reserved each)

-- a tag's fields are no more than may be
pub few-at : {call t n : ℕ} (fs : List Field) → FieldsWithin fs → FieldListed call t n → length (bodies t fs) ≤ most_of (rank_of t)
unfolding rank_of
few-at fs w (key (inl e) l m) = rw e w.alloc
few-at fs w (key (inr (inl e)) l m) = rw e w.lru
few-at fs w (key (inr (inr (inl e))) l m) = rw e w.freespace
few-at fs w (key (inr (inr (inr (inl e)))) l m) = rw e w.need_discard
few-at fs w (key (inr (inr (inr (inr (inl e))))) l m) = rw e w.backpointers
few-at fs w (key (inr (inr (inr (inr (inr e))))) l m) = rw e w.gens
few-at fs w (reserved e l) = rw e w.reserved
few-at fs w (piece c e l) = rw e w.pieces
few-at fs w (freed c e l) = rw e w.releases
