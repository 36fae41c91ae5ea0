-- What the pass over a call list found at its end: the layout, the limits, the table and its ends.
use Prim.Native.Nat.{ℕ, zero, suc, ◌+◌, ◌≤◌, ◌<◌}
use mathlib.Core.Path.{◌≡◌, refl, sym, ◌∙◌, ap, subst}
use mathlib.Core.Logic.{◌⊎◌, inl, inr}
use mathlib.Core.List.{List, [], ◌∷◌, map, append-nil}
use mathlib.Core.Bool.{Bool, true, false, cond}
use lib.ListN.{length, take, drop, get_or, length-map, drop_of_length-le}
use lib.Dec.{eqb}
use borrow.Author.Tests.{ne_eqb, eqb-true, eqb-false}
use native.Mathlib.Omega.{arith}
use Rattle.wire.specs.Fields.{Field, fields_after, fields, whole}
use Rattle.wire.proofs.FieldLaws.{whole-end}
use Rattle.calls.specs.Lists.{all_of, those, in_order}
use Rattle.calls.specs.CallList.{head_of, bodies, first_body, call_list_of, none_twice}
use Rattle.calls.specs.Limits.{list_within}
use Rattle.calls.specs.Answers.{read_call, read_volume}
use Rattle.calls.proofs.encoding.Blocks.{field}
use Rattle.reader.specs.CallFields.{any_field_ok, others, follows, ascends, head_within, field_within}
use Rattle.reader.specs.Table.{most_of, rank_end, Fits, sorted_bodies, Indexed, Ended, ends_in, request_bodies, request_tag, Tabled}
use Rattle.reader.specs.Readings.{laid_as}
use Rattle.reader.specs.Surveyed.{Counted, LaidFound, Surveyed, OrderSurveyed}
use Rattle.reader.specs.declared.table.PlaceTable.{PlaceTable}
use Rattle.reader.specs.declared.survey.Laid.{Laid}
use Rattle.std.proofs.Common.{Option, Some, None}
use Rattle.reader.proofs.ShapeLaws.{KeyTag}
use Rattle.reader.proofs.ListedLaws.{key-tag-bounds}
use Rattle.reader.proofs.LayoutLaws.{list-laid}
use Rattle.reader.proofs.BesideLaws.{others-none, beside-bodies, others-listed, others-within}
use Rattle.reader.proofs.FollowsLaws.{order_from}
use Rattle.reader.proofs.FieldRankLaws.{in_rank, AllListed, rank-alloc, rank-lru, rank-freespace, rank-need-discard, rank-backpointers, rank-gens, rank-reserved, rank-asked, no_pieces, no-releases}
use Rattle.reader.proofs.LimitLaws.{FieldsWithin, parts_within, within-alloc, within-run, within-waiting, within-reserved}
use Rattle.reader.proofs.NotingLaws.{no_field, Standing, Noting, end-most, ends-fit, place-fits, rank-counted, all_here, all-within}
use Rattle.reader.proofs.RankLaws.{InRanks, ranked, fewer, rank-at, rank-inside, counted-fewer}
use Rattle.reader.proofs.SortedBodyLaws.{already-sorted, ascends-never, none_found}
use Rattle.reader.proofs.SurveyLaws.{head_bodies, head_size, last_field, Going, miscounted, head-most}

-- the field of a tag with a body of some
field_of : (t : ℕ) (bs : List (List ℕ)) (i : ℕ) → i < length bs → get_or (map (field t) bs) i no_field ≡ field t (get_or bs i [])
field_of t [] i h = absurd (omega arith)
field_of t (b ∷ bs) zero h = refl
field_of t (b ∷ bs) (suc i) h = field_of t bs i (omega arith)

module _
    (s : List ℕ) (call : ℕ) (any : Bool) (at : ℕ) (head : Option ℕ) (last : Field) (table : PlaceTable)
    (g : Going s call any at head last table) (e : length s ≤ at) where
  abbrev fs : List Field
  fs = others (fields s)

  nothing_left : drop at s ≡ []
  nothing_left = drop_of_length-le s {i = at} e

  -- the bodies of field 1 are those that were passed
  heads-are : head_bodies s head ≡ bodies 1 (fields s)
  unfolding fields_after bodies those
  heads-are = sym (append-nil (head_bodies s head)) ∙ rw nothing_left at g.heads

  pub no-head : head ≡ None → laid_as call any s ≡ false
  no-head h = miscounted s call any (λ k. omega (arith, ap length (ap (head_bodies s) (sym h) ∙ heads-are)))

  module _ (b : ℕ) (some : head ≡ Some b) where
    one-head : bodies 1 (fields s) ≡ take 39 (drop b s) ∷ []
    one-head = sym heads-are ∙ ap (head_bodies s) some

    all-fine : all_of (any_field_ok call any) (fields s) ≡ true
    unfolding all_of fields_after
    all-fine = sym (rw nothing_left at g.fine)

    ends-laid : laid_as call any s ≡ true
    ends-laid =
        let w : whole s ≡ true = whole-end s at g.walked (omega (arith, g.walked.within)) in
        list-laid s call any ∙ simp (w, all-fine, one-head)

    listed : AllListed call fs
    listed = others-listed call any (fields s) all-fine

    ends-head : head_of (take 39 (drop b s)) ≡ (read_volume s).head
    unfolding call_list_of
    ends-head = sym (ap (λ (bs : List (List ℕ)). head_of (first_body bs)) one-head)

    ends-past : table.counts ≡ None → list_within (read_call s) ≡ false
    ends-past z = (rw z at g.limits) listed

    -- fields in order

    module _ (h : last.tag ≡ 255 → ⊥) where
      all-ordered : in_order follows fs ≡ true
      unfolding in_order fields_after
      all-ordered = sym (rw (nothing_left, others-none, append-nil (last_field last)) at (g.order h)) ∙ alone (eqb last.tag 1)
        where
          alone : (q : Bool) → in_order follows (cond q [] (last ∷ [])) ≡ true
          alone true = refl
          alone false = refl

      tag-ordered : (t : ℕ) → 1 < t → in_order (ascends t) (bodies t (fields s)) ≡ true
      tag-ordered t l = ap (in_order (ascends t)) (sym (beside-bodies t l (fields s))) ∙ order_from t fs all-ordered

      section-above : (t : ℕ) → KeyTag t ⊎ (t ≡ 64) → 1 < t
      section-above t (inl k) = let b = key-tag-bounds t k in omega (arith, b.0)
      section-above t (inr k) = omega arith

      ends-once : none_twice (read_volume s) ≡ true
      ends-once = none_found (fields s) (λ t k. ascends-never t k (fields s) (tag-ordered t (section-above t k)))

      in_order_lem : (t : ℕ) → KeyTag t ⊎ (t ≡ 64) → sorted_bodies t (fields s) ≡ bodies t (fields s)
      in_order_lem t k = already-sorted t k (fields s) (tag-ordered t (section-above t k))

    -- fields within their limits

    module _ (c : List ℕ) (z : table.counts ≡ Some c) where
      known : (length c ≡ 8) × Noting s fs at (head_size head) table.n c table.index.now
      known = rw z at g.limits

      width : length c ≡ 8
      width = known.0

      noted : Noting s fs at (head_size head) table.n c table.index.now
      noted = known.1

      -- a rank's bodies, in the whole list
      rank-bodies : (k t : ℕ) → 1 < t → in_rank k fs ≡ map (field t) (bodies t fs) → in_rank k fs ≡ map (field t) (bodies t (fields s))
      rank-bodies k t l z = z ∙ ap (map (field t)) (beside-bodies t l (fields s))

      rank-requests : in_rank 7 fs ≡ map (field (request_tag call)) (request_bodies call (fields s))
      rank-requests =
          rank-asked call fs listed
          ∙ ap (map (field (request_tag call)))
          (λ i.
          cond (eqb call 1) (beside-bodies 65 (omega arith) (fields s) i)
          (cond (eqb call 2) (beside-bodies 66 (omega arith) (fields s) i) []))

      -- the fields of a rank are those of a tag, with these bodies
      abbrev RankIs : ℕ → ℕ → List (List ℕ) → Type 0
      RankIs k t bs = in_rank k fs ≡ map (field t) bs

      count-is : (k t : ℕ) (bs : List (List ℕ)) → k < 8 → RankIs k t bs → get_or c k 0 ≡ length bs
      count-is k t bs l z = rank-counted s fs at (head_size head) table.n c table.index.now noted e k l ∙ ap length z ∙ length-map bs (field t)

      few-is : (k t : ℕ) (bs : List (List ℕ)) → k < 8 → RankIs k t bs → length bs ≤ most_of k
      few-is k t bs l z = omega (arith, count-is k t bs l z, noted.few k l)

      -- where a rank ends
      end_is : (k t : ℕ) (bs : List (List ℕ)) → k < 8 → RankIs k t bs → rank_end c (suc k) ≡ rank_end c k + length bs
      unfolding rank_end
      end_is k t bs l z = ap (λ (x : ℕ). rank_end c k + x) (count-is k t bs l z)

      alloc : RankIs 0 4 (bodies 4 (fields s))
      alloc = rank-bodies 0 4 (omega arith) (rank-alloc call fs listed)

      lru : RankIs 1 10 (bodies 10 (fields s))
      lru = rank-bodies 1 10 (omega arith) (rank-lru call fs listed)

      freespace : RankIs 2 11 (bodies 11 (fields s))
      freespace = rank-bodies 2 11 (omega arith) (rank-freespace call fs listed)

      need_discard : RankIs 3 12 (bodies 12 (fields s))
      need_discard = rank-bodies 3 12 (omega arith) (rank-need-discard call fs listed)

      backpointers : RankIs 4 13 (bodies 13 (fields s))
      backpointers = rank-bodies 4 13 (omega arith) (rank-backpointers call fs listed)

      gens : RankIs 5 14 (bodies 14 (fields s))
      gens = rank-bodies 5 14 (omega arith) (rank-gens call fs listed)

      reserved : RankIs 6 64 (bodies 64 (fields s))
      reserved = rank-bodies 6 64 (omega arith) (rank-reserved call fs listed)

      first-end : rank_end c 1 ≡ length (bodies 4 (fields s))
      unfolding rank_end
      first-end = omega (arith, count-is 0 4 (bodies 4 (fields s)) (omega arith) alloc)

      ends-ended : Ended call s table.index.now (ends_in c)
      ends-ended =
          record {
            alloc = first-end;
            lru = end_is 1 10 (bodies 10 (fields s)) (omega arith) lru;
            freespace = end_is 2 11 (bodies 11 (fields s)) (omega arith) freespace;
            need_discard = end_is 3 12 (bodies 12 (fields s)) (omega arith) need_discard;
            backpointers = end_is 4 13 (bodies 13 (fields s)) (omega arith) backpointers;
            gens = end_is 5 14 (bodies 14 (fields s)) (omega arith) gens;
            reserved = end_is 6 64 (bodies 64 (fields s)) (omega arith) reserved;
            requests = end_is 7 (request_tag call) (request_bodies call (fields s)) (omega arith) rank-requests;
            within = omega (arith, end-most c width, noted.all, noted.inside);
          }

      -- the requests of the call are within their limit, and the other call's are none
      pieces-few : length (bodies 65 (fields s)) ≤ 1024
      pieces-few = go (eqb call 1) refl
        where
          go : (p : Bool) → eqb call 1 ≡ p → length (bodies 65 (fields s)) ≤ 1024
          go true x = few-is 7 65 (bodies 65 (fields s)) (omega arith) (rank-requests ∙ simp x)
          go false x =
              omega (arith, ap length (sym (beside-bodies 65 (omega arith) (fields s)) ∙ no_pieces call fs listed (eqb-false call 1 x)))

      releases-few : length (bodies 66 (fields s)) ≤ 1024
      releases-few = go (eqb call 2) refl
        where
          go : (p : Bool) → eqb call 2 ≡ p → length (bodies 66 (fields s)) ≤ 1024
          go true x =
              few-is 7 66 (bodies 66 (fields s)) (omega arith) (rank-requests ∙ simp (ne_eqb call 1 (λ z. omega (arith, eqb-true call 2 x)), x))
          go false x =
              omega (arith, ap length (sym (beside-bodies 66 (omega arith) (fields s)) ∙ no-releases call fs listed (eqb-false call 2 x)))

      fields-ok : all_of field_within (fields s) ≡ true
      fields-ok = sym (others-within (fields s)) ∙ all-within s fs at (head_size head) table.n c table.index.now noted e

      within_all : head_within (read_volume s).head ≡ true → FieldsWithin (fields s)
      unfolding call_list_of
      within_all z =
          record {
            alloc = few-is 0 4 (bodies 4 (fields s)) (omega arith) alloc;
            lru = few-is 1 10 (bodies 10 (fields s)) (omega arith) lru;
            freespace = few-is 2 11 (bodies 11 (fields s)) (omega arith) freespace;
            need_discard = few-is 3 12 (bodies 12 (fields s)) (omega arith) need_discard;
            backpointers = few-is 4 13 (bodies 13 (fields s)) (omega arith) backpointers;
            gens = few-is 5 14 (bodies 14 (fields s)) (omega arith) gens;
            alloc_keys = within-alloc (fields s) fields-ok;
            waiting_keys = within-waiting (fields s) fields-ok;
            run_keys = within-run (fields s) fields-ok;
            reserved = few-is 6 64 (bodies 64 (fields s)) (omega arith) reserved;
            reserved_range = within-reserved (fields s) fields-ok;
            head = z;
            pieces = pieces-few;
            releases = releases-few;
          }

      ends-counted : Counted call s c table.index.now
      ends-counted =
          record {
            within = λ z. parts_within (fields s) (within_all z);
            ends = ends-ended;
            fits = ends-fit s fs at (head_size head) table.n c table.index.now width noted;
            short = omega (arith, e, place-fits s fs at (head_size head) table.n c table.index.now width noted (head-most head));
          }

      -- the places of a rank stand after those of the ranks below
      module _ (o : last.tag ≡ 255 → ⊥) where
        in-ranks : InRanks fs
        in-ranks = ranked call fs (all-ordered o) listed

        in-rank : (k : ℕ) → k < 8 → (i : ℕ) → i < length (in_rank k fs)
            → Standing s (get_or table.index.now (rank_end c k + i) 0) (get_or (in_rank k fs) i no_field)
        in-rank k l i z =
            let base : rank_end c k ≡ fewer k fs = counted-fewer c fs (rank-counted s fs at (head_size head) table.n c table.index.now noted e) k (omega arith) in
            rw (base, ← rank-at in-ranks k i z) (all_here s fs at (head_size head) table.n c table.index.now noted e (fewer k fs + i) (rank-inside fs k i z))

        table_is : (k t : ℕ) (bs : List (List ℕ)) → k < 8 → RankIs k t bs → Tabled s table.index.now (rank_end c k) t bs
        table_is k t bs l z i y =
            rw (z, field_of t bs i y) at (in-rank k l i (omega (arith, ap length z, length-map bs (field t))))

        -- a section that is in order
        section-is : (k t : ℕ) → k < 8 → KeyTag t ⊎ (t ≡ 64) → RankIs k t (bodies t (fields s)) → Tabled s table.index.now (rank_end c k) t (sorted_bodies t (fields s))
        section-is k t l y z = rw (in_order_lem o t y) (table_is k t (bodies t (fields s)) l z)

        ends-indexed : Indexed call s table.index.now (ends_in c)
        unfolding rank_end
        ends-indexed =
            record {
              alloc = section-is 0 4 (omega arith) (inl (inl refl)) alloc;
              lru = section-is 1 10 (omega arith) (inl (inr (inl refl))) lru;
              freespace = section-is 2 11 (omega arith) (inl (inr (inr (inl refl)))) freespace;
              need_discard = section-is 3 12 (omega arith) (inl (inr (inr (inr (inl refl))))) need_discard;
              backpointers = section-is 4 13 (omega arith) (inl (inr (inr (inr (inr (inl refl)))))) backpointers;
              gens = section-is 5 14 (omega arith) (inl (inr (inr (inr (inr (inr refl)))))) gens;
              reserved = section-is 6 64 (omega arith) (inr refl) reserved;
              requests = table_is 7 (request_tag call) (request_bodies call (fields s)) (omega arith) rank-requests;
            }

    pub ends_found : (ordered : Bool) → (ordered ≡ true → last.tag ≡ 255 → ⊥)
        → LaidFound call any s table.index.now (record { head_at = b; ordered = ordered; counts = table.counts })
    ends_found ordered told =
        record {
          laid = ends-laid;
          inside = g.inside b some;
          first = ends-head;
          past = ends-past;
          counted = ends-counted;
          once = λ o. ends-once (told o);
          table = λ o c h. ends-indexed c h (told o);
        }

-- the one outcome of the pass, or the other
pub broken-found : {call : ℕ} {any : Bool} {s index : List ℕ} → laid_as call any s ≡ false → Surveyed call any s index None
broken-found h = record { broken = λ e. h; found = λ p e. absurd (let z : ◌≡◌ {A = ℕ} 0 1 = cc in omega arith) }

pub laid-found : {call : ℕ} {any : Bool} {s index : List ℕ} {p : Laid}
    → LaidFound call any s index p → Surveyed call any s index (Some p)
laid-found {call = call} {any = any} {s = s} {index = index} {p = p} f =
    record {
      broken = λ e. absurd (let z : ◌≡◌ {A = ℕ} 0 1 = cc in omega arith);
      found = λ q e.
          let z : p ≡ q = cc in
          subst (λ (o : Laid). LaidFound call any s index o) z f;
    }

pub ordered-found : {call : ℕ} {any : Bool} {s index : List ℕ} {p : Laid}
    → Fits s index → LaidFound call any s index p → p.ordered ≡ true → OrderSurveyed call any s index (Some p)
ordered-found {call = call} {any = any} {s = s} {index = index} {p = p} w f t =
    record {
      found = λ q e.
          let z : p ≡ q = cc in
          subst (λ (o : Laid). LaidFound call any s index o) z f;
      ordered = λ q e.
          let z : p ≡ q = cc in
          subst (λ (o : Laid). o.ordered ≡ true) z t;
      fits = w;
    }
