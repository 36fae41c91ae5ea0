-- The pass over a call list: what holds of it, and what one more field changes.
use Prim.Native.Nat.{ℕ, ◌+◌, ◌*◌, ◌≤◌, ◌<◌}
use mathlib.Core.Path.{◌≡◌, refl, sym, ◌∙◌, ap}
use mathlib.Core.Logic.{◌⊎◌, inl, inr, ⊎_elim}
use Rattle.std.specs.Prelude.{is_some}
use Rattle.std.proofs.Common.{Option, Some, None}
use mathlib.Core.List.{List, [], ◌∷◌, ◌++◌}
use mathlib.Core.Bool.{Bool, true, false, ◌&&◌, cond, and-false}
use lib.ListN.{length, take, drop, get_or, set, length-set, length-map}
use lib.Dec.{eqb}
use borrow.Author.Tests.{ne_eqb, eqb-true, lt-ltb, le-ltb}
use native.Mathlib.Omega.{arith}
use Rattle.wire.specs.Fields.{Field, fields, field_at, step_of, whole, found}
use Rattle.wire.proofs.NumberLaws.{body-length}
use Rattle.wire.proofs.FieldLaws.{FieldAt, field-at, FieldsWalked, walked_none, walked_more, whole-stop}
use Rattle.calls.specs.Lists.{all_of, in_order}
use Rattle.calls.specs.CallList.{bodies, shaped}
use Rattle.calls.specs.Limits.{list_within}
use Rattle.calls.specs.Answers.{read_call}
use Rattle.calls.proofs.encoding.Blocks.{field}
use Rattle.reader.specs.CallFields.{rest_shapes, call_field_ok, head_field_ok, any_field_ok, others, least_of, follows, field_within}
use Rattle.reader.specs.Table.{rank_of, most_of, Fits, Free, Unfilled, room, counted_more, Noted, FieldNoted}
use Rattle.reader.specs.Readings.{laid_as}
use Rattle.reader.specs.declared.table.PlaceTable.{PlaceTable}
use Rattle.reader.proofs.BoolLaws.{apart, and_left, fails}
use Rattle.reader.proofs.ShapeLaws.{same_or}
use Rattle.reader.proofs.ListLaws.{bodies-here, bodies-other}
use Rattle.reader.proofs.ListedLaws.{FieldListed, listed, listed_above, listed_below}
use Rattle.reader.proofs.LayoutLaws.{any_head, any-beside, list-laid}
use Rattle.reader.proofs.BesideLaws.{others-head, others-more, beside-bodies, others-within}
use Rattle.reader.proofs.FieldRankLaws.{in_rank, AllListed, rank-listed, rank_below}
use Rattle.reader.proofs.LimitLaws.{within-parts, fields_within, few-at}
use Rattle.reader.proofs.PlaceLaws.{listed-least, listed-most, here-at}
use Rattle.reader.proofs.TableLaws.{room-true, room-false}
use Rattle.reader.proofs.NotingLaws.{Noting, noting-none, noting-head, noting-more, place-fits, table-free, rank-full, field-over}

-- the loop's invariant

-- what is known of the limits beside the head's: one is passed, if the layout is right to the end; or none was yet
abbrev pub Limits : List ℕ → ℕ → ℕ → ℕ → ℕ → Option (List ℕ) → List ℕ → Type 0
Limits s call at h m None index = AllListed call (others (fields s)) → list_within (read_call s) ≡ false
Limits s call at h m (Some c) index = (length c ≡ 8) × Noting s (others (fields s)) at h m c index

-- field 1, if it was passed: its body, and its bytes
abbrev pub head_bodies : List ℕ → Option ℕ → List (List ℕ)
head_bodies s None = []
head_bodies s (Some b) = take 39 (drop b s) ∷ []

abbrev pub head_size : Option ℕ → ℕ
head_size None = 0
head_size (Some b) = 42

pub head-most : (head : Option ℕ) → head_size head ≤ 42
head-most None = omega arith
head-most (Some b) = omega arith

none-passed : (head : Option ℕ) → is_some head ≡ false → head ≡ None
none-passed None h = refl
none-passed (Some b) h = apart h

-- the last field that was passed beside field 1
abbrev pub last_field : Field → List Field
last_field last = cond (eqb last.tag 1) [] (last ∷ [])

-- the pass at a place of the list: the last field that was passed has the tag 1 where none beside field 1 was, and 255 where they are not in order
pub record Going (s : List ℕ) (call : ℕ) (any : Bool) (at : ℕ) (head : Option ℕ) (last : Field) (table : PlaceTable) : Type 0 where
  pub walked : FieldsWalked s at
  pub heads : head_bodies s head ++ bodies 1 (fields (drop at s)) ≡ bodies 1 (fields s)
  pub inside : (b : ℕ) → head ≡ Some b → b + 39 ≤ length s
  pub fine : all_of (any_field_ok call any) (fields (drop at s)) ≡ all_of (any_field_ok call any) (fields s)
  pub kept : (last.tag ≡ 1) ⊎ (least_of last.tag ≤ length last.body)
  pub order : (last.tag ≡ 255 → ⊥) → in_order follows (last_field last ++ others (fields (drop at s))) ≡ in_order follows (others (fields s))
  pub fits : Fits s table.index.now
  pub many : 3 * table.n ≤ at
  pub limits : Limits s call at (head_size head) table.n table.counts table.index.now

pub going_start :
    (s : List ℕ) (call : ℕ) (any : Bool) (last : Field) (table : PlaceTable) → last.tag ≡ 1 → Fits s table.index.now → Unfilled table
    → Going s call any 0 None last table
going_start s call any last table t z e =
    record {
      walked = walked_none s;
      heads = refl;
      inside = λ b n. absurd (let z : ◌≡◌ {A = ℕ} 0 1 = cc in omega arith);
      fine = refl;
      kept = inl t;
      order = λ h. rw t refl;
      fits = z;
      many = omega (arith, e.1);
      limits = rw (e.0, e.1) (refl, noting-none s table.index.now);
    }

ok-listed : (s : List ℕ) (call t b n : ℕ) → b + n ≤ length s → call_field_ok call (field_at s t b n) ≡ true → FieldListed call t n
unfolding call_field_ok
ok-listed s call t b n w h =
    let l = listed call (field_at s t b n) (and_left (shaped (rest_shapes call) (field_at s t b n)) _ h) in
    rw (body-length s b n w) at l

-- a list that breaks the layout

module _ (s : List ℕ) (call : ℕ) (any : Bool) where
  cut : whole s ≡ false → laid_as call any s ≡ false
  cut h = list-laid s call any ∙ simp h

  unfit : all_of (any_field_ok call any) (fields s) ≡ false → laid_as call any s ≡ false
  unfit h = list-laid s call any ∙ simp (h, and-false)

  pub miscounted : (length (bodies 1 (fields s)) ≡ 1 → ⊥) → laid_as call any s ≡ false
  miscounted n = list-laid s call any ∙ simp (ne_eqb (length (bodies 1 (fields s))) 1 n, and-false)

module _
    (s : List ℕ) (call : ℕ) (any : Bool) (at : ℕ) (head : Option ℕ) (last : Field) (table : PlaceTable)
    (g : Going s call any at head last table) where
  pub breaks : step_of at (drop at s) ≡ None → eqb at (length s) ≡ false → laid_as call any s ≡ false
  breaks e h = cut s call any (whole-stop s at g.walked e ∙ h)

  module _ (t b n : ℕ) (f : FieldAt s at t b n) where
    pub bad : any_field_ok call any (field_at s t b n) ≡ false → laid_as call any s ≡ false
    unfolding all_of
    bad h = unfit s call any (sym g.fine ∙ ap (all_of (any_field_ok call any)) f.here ∙ simp h)

    passed-fine : any_field_ok call any (field_at s t b n) ≡ true
        → all_of (any_field_ok call any) (fields (drop (b + n) s)) ≡ all_of (any_field_ok call any) (fields s)
    unfolding all_of
    passed-fine h = simp h at (ap (all_of (any_field_ok call any)) (sym f.here) ∙ g.fine)

    -- field 1
    module _ (e : t ≡ 1) where
      comes : bodies 1 (fields (drop at s)) ≡ take n (drop b s) ∷ bodies 1 (fields (drop (b + n) s))
      comes = ap (bodies 1) f.here ∙ bodies-here 1 (field_at s t b n) (fields (drop (b + n) s)) e

      pub second : is_some head ≡ true → laid_as call any s ≡ false
      second h = miscounted s call any (λ k. more head h (ap length (sym g.heads ∙ ap (λ (bs : List (List ℕ)). head_bodies s head ++ bs) comes)) k)
        where
          more : (o : Option ℕ) → is_some o ≡ true
              → length (bodies 1 (fields s)) ≡ length (head_bodies s o ++ (take n (drop b s) ∷ bodies 1 (fields (drop (b + n) s))))
              → length (bodies 1 (fields s)) ≡ 1 → ⊥
          more None h z k = apart (sym h)
          more (Some c) h z k = omega arith

      pub bad-head : head_field_ok call any (take n (drop b s)) ≡ false → laid_as call any s ≡ false
      bad-head h = bad (any_head call any (field_at s t b n) e ∙ h)

      module _ (h : is_some head ≡ false) (ok : head_field_ok call any (take n (drop b s)) ≡ true) where
        head-long : n ≡ 39
        unfolding head_field_ok
        head-long = sym (body-length s b n f.within) ∙ eqb-true (length (take n (drop b s))) 39 (and_left _ _ ok)

        first-at : FieldAt s at 1 b 39
        first-at = rw (e, head-long) at f

        passed-heads : head_bodies s (Some b) ++ bodies 1 (fields (drop (b + n) s)) ≡ bodies 1 (fields s)
        passed-heads =
            ap (λ (k : ℕ). take k (drop b s) ∷ bodies 1 (fields (drop (b + n) s))) (sym head-long) ∙ sym comes
            ∙ ap (λ (x : Option ℕ). head_bodies s x ++ bodies 1 (fields (drop at s))) (sym (none-passed head h)) ∙ g.heads

        passed-limits : (o : Option (List ℕ)) → Limits s call at (head_size head) table.n o table.index.now → Limits s call (b + n) 42 table.n o table.index.now
        passed-limits None w = w
        passed-limits (Some c) w =
            let z : head_size head ≡ 0 = ap head_size (none-passed head h) in
            rw head-long (w.0, noting-head s (others (fields s)) at (head_size head) table.n c table.index.now w.0 w.1 z b first-at)

        others_same : others (fields (drop at s)) ≡ others (fields (drop (b + n) s))
        others_same = ap others f.here ∙ others-head (field_at s t b n) (fields (drop (b + n) s)) e

        pub goes-head : Going s call any (b + n) (Some b) last table
        goes-head =
            record {
              walked = walked_more s at g.walked t b n f;
              heads = passed-heads;
              inside = λ c z.
                  let y : b ≡ c = cc in
                  omega (arith, f.within, head-long);
              fine = passed-fine (any_head call any (field_at s t b n) e ∙ ok);
              kept = g.kept;
              order = λ o. ap (λ (fs : List Field). in_order follows (last_field last ++ fs)) (sym others_same) ∙ g.order o;
              fits = g.fits;
              many = omega (arith, g.many, f.on);
              limits = passed-limits table.counts g.limits;
            }

    -- a field beside it
    module _ (beside : t ≡ 1 → ⊥) where
      pub bad-beside : call_field_ok call (field_at s t b n) ≡ false → laid_as call any s ≡ false
      bad-beside h = bad (any-beside call any (field_at s t b n) beside ∙ h)

    module _ (ok : call_field_ok call (field_at s t b n) ≡ true) where
      next-listed : FieldListed call t n
      next-listed = ok-listed s call t b n f.within ok

      pub next-within : least_of t ≤ n
      next-within = listed-least next-listed

      pub next-below : t ≡ 255 → ⊥
      next-below e = omega (arith, listed_below next-listed)

      pub last_within : last.tag ≡ t → least_of t ≤ length last.body
      last_within e = ⊎_elim (λ z. absurd (omega (arith, listed_above next-listed))) (λ k. rw (← e) k) g.kept

      -- the order of the fields, with the one that comes
      comes-beside : others (fields (drop at s)) ≡ field_at s t b n ∷ others (fields (drop (b + n) s))
      comes-beside =
          ap others f.here ∙ others-more (field_at s t b n) (fields (drop (b + n) s)) (λ e. omega (arith, listed_above next-listed))

      abbrev ordered_on : List Field → Bool
      ordered_on rest = follows last (field_at s t b n) && in_order follows (field_at s t b n ∷ rest)

      -- it is the first of them, or stands after another
      order-first : last.tag ≡ 1 → (rest : List Field) → ordered_on rest ≡ in_order follows (last_field last ++ (field_at s t b n ∷ rest))
      unfolding follows
      order-first z rest = rw (z, lt-ltb 1 t (omega (arith, listed_above next-listed)))

      order-later : (last.tag ≡ 1 → ⊥) → (rest : List Field)
          → ordered_on rest ≡ in_order follows (last_field last ++ (field_at s t b n ∷ rest))
      unfolding in_order
      order-later z rest = rw (ne_eqb last.tag 1 z) refl

      order-here : (last.tag ≡ 255 → ⊥) → ordered_on (others (fields (drop (b + n) s))) ≡ in_order follows (others (fields s))
      order-here o =
          ⊎_elim (λ z. order-first z (others (fields (drop (b + n) s))))
          (λ z. order-later z (others (fields (drop (b + n) s))))
          (same_or last.tag 1)
          ∙ ap (λ (fs : List Field). in_order follows (last_field last ++ fs)) (sym comes-beside)
          ∙ g.order o

-- a limit that is passed

refute : (a : Bool) → (a ≡ true → ⊥) → a ≡ false
refute true h = absurd (h refl)
refute false h = refl

module _ (s : List ℕ) (call : ℕ) where
  over-field : all_of field_within (others (fields s)) ≡ false → list_within (read_call s) ≡ false
  over-field h =
      fails _ _ (λ k. others-within (fields s) ∙ fields_within (fields s) (within-parts (fields s) k)) h

  over-rank :
      (t n : ℕ) → FieldListed call t n → AllListed call (others (fields s))
      → most_of (rank_of t) < length (in_rank (rank_of t) (others (fields s))) → list_within (read_call s) ≡ false
  over-rank t n l r h =
      refute (list_within (read_call s))
      (λ k.
      omega (arith, few-at (fields s) (within-parts (fields s) k) l, ap length (beside-bodies t (listed_above l) (fields s)), ap length (rank-listed l (others (fields s)) r), length-map (bodies t (others (fields s))) (field t)))

-- one more field

set-length : (r : Bool) (xs : List ℕ) (i v : ℕ) → length (cond r (set xs i v) xs) ≡ length xs
set-length true xs i v = length-set xs i v
set-length false xs i v = refl

pub passed_length :
    {within : Bool} {rank b : ℕ} {before after : PlaceTable} → Noted within before after rank b → length after.index.now ≡ length before.index.now
passed_length {b = b} {before = before} {after = after} p = ap length p.placed ∙ set-length (is_some after.counts) before.index.now before.n b

at-most-one : (r : Bool) (n : ℕ) → cond r (n + 1) n ≤ n + 1
at-most-one true n = omega arith
at-most-one false n = omega arith

module _
    (s : List ℕ) (call : ℕ) (any : Bool) (at : ℕ) (head : Option ℕ) (last : Field) (table : PlaceTable)
    (g : Going s call any at head last table) (t b n : ℕ) (e : step_of at (drop at s) ≡ found t b n)
    (ok : call_field_ok call (field_at s t b n) ≡ true) where
  f : FieldAt s at t b n
  f = field-at s at t b n e

  l : FieldListed call t n
  l = ok-listed s call t b n f.within ok

  beside : t ≡ 1 → ⊥
  beside e = omega (arith, listed_above l)

  abbrev h : ℕ
  h = head_size head

  -- an entry for it, where it is noted
  entry_free : (o : Option (List ℕ)) → table.counts ≡ o → Limits s call at h table.n o table.index.now → Free table (rank_of t)
  entry_free None z w = λ c e. absurd (let y : ◌≡◌ {A = ℕ} 0 1 = cc in omega arith)
  entry_free (Some d) z w =
      λ c e k.
      let y : d ≡ c = cc in
      ⊎_elim
      (λ l. omega (arith, table-free s (others (fields s)) at h table.n d table.index.now w.0 w.1 (rank_of t) (rank_below t) (rw y k)))
      (λ l. omega (arith, g.many, f.on, f.within))
      g.fits

  pub next-free : Free table (rank_of t)
  next-free = entry_free table.counts refl g.limits

  -- the counts, with one more or none, and the table with them
  abbrev LimitsWith : Option (List ℕ) → Type 0
  LimitsWith o = Limits s call (b + n) h (cond (is_some o) (table.n + 1) table.n) o (cond (is_some o) (set table.index.now table.n b) table.index.now)

  limits-next : (o : Option (List ℕ)) → table.counts ≡ o → Limits s call at h table.n o table.index.now → LimitsWith (counted_more (field_within (field_at s t b n)) (rank_of t) b o)
  limits-next None z w = w
  limits-next (Some c) z w = go (field_within (field_at s t b n)) (room c (rank_of t) b) refl refl
    where
      go : (p q : Bool) → p ≡ field_within (field_at s t b n) → q ≡ room c (rank_of t) b
          → LimitsWith (cond (p && q) (Some (set c (rank_of t) (get_or c (rank_of t) 0 + 1))) None)
      go false q hp hq =
          λ r.
          over-field s call
          (field-over s (others (fields s)) at h table.n c table.index.now w.0 w.1 t b n f beside (sym hp))
      go true false hp hq =
          λ r.
          over-rank s call t n l r
          (rank-full s (others (fields s)) at h table.n c table.index.now w.0 w.1 t b n f beside
          (room-false c (rank_of t) b
          (omega (arith, f.on, place-fits s (others (fields s)) at h table.n c table.index.now w.0 w.1 (head-most head))) hq))
      go true true hp hq = (
        length-set c (rank_of t) (get_or c (rank_of t) 0 + 1) ∙ w.0,
        noting-more s (others (fields s)) at h table.n c table.index.now w.0 w.1 t b n f beside
            (entry_free (Some c) z w c z (room-true c (rank_of t) b hq)) (here-at s at t b n e f)
            (listed-most l) (sym hp) (room-true c (rank_of t) b hq),
      )

  -- none stands in order after 255
  last_some : follows last (field_at s t b n) ≡ true → last.tag ≡ 255 → ⊥
  unfolding follows
  last_some z e =
      apart (sym z ∙ rw (e, le-ltb 255 t (omega (arith, listed_below l)), ne_eqb 255 t (λ y. omega (arith, listed_below l))))

  -- the tag, where the field stands in order after the last
  abbrev next_tag : Bool → ℕ
  next_tag q = cond q t 255

  passed-order : (q : Bool) → follows last (field_at s t b n) ≡ q → (next_tag q ≡ 255 → ⊥)
      → in_order follows (last_field (record { tag = next_tag q; body = take n (drop b s) }) ++ others (fields (drop (b + n) s))) ≡ in_order follows (others (fields s))
  passed-order false z k = absurd (k refl)
  passed-order true z k =
      rw (ne_eqb t 1 (λ y. omega (arith, listed_above l)))
      (simp z at (order-here s call any at head last table g t b n f ok (last_some z)))

  least-next : (q : Bool) → least_of (next_tag q) ≤ n
  least-next true = listed-least l
  least-next false = omega arith

  pub goes_on :
      (after : PlaceTable) (tag : ℕ) → tag ≡ cond (follows last (field_at s t b n)) t 255
      → FieldNoted (field_at s t b n) b table after → Going s call any (b + n) head (record { tag = tag; body = take n (drop b s) }) after
  goes_on after tag z p =
      let q = follows last (field_at s t b n) in
      record {
        walked = walked_more s at g.walked t b n f;
        heads =
            ap (λ (bs : List (List ℕ)). head_bodies s head ++ bs)
            (sym (ap (bodies 1) f.here ∙ bodies-other 1 (field_at s t b n) (fields (drop (b + n) s)) beside))
            ∙ g.heads;
        inside = g.inside;
        fine =
            passed-fine s call any at head last table g t b n f
            (any-beside call any (field_at s t b n) beside ∙ ok);
        kept = inr (rw (z, body-length s b n f.within) (least-next q));
        order = rw z (passed-order q refl);
        fits =
            let z = passed_length p in
            ⊎_elim (λ l. inl (omega arith)) (λ l. inr (omega arith)) g.fits;
        many = omega (arith, g.many, f.on, p.number, at-most-one (is_some after.counts) table.n);
        limits =
            rw (p.placed, p.number, p.counted) (limits-next table.counts refl g.limits);
      }

  -- where it follows the last
  pub goes_after :
      (after : PlaceTable) → follows last (field_at s t b n) ≡ true
      → FieldNoted (field_at s t b n) b table after → Going s call any (b + n) head (field_at s t b n) after
  goes_after after z p = goes_on after t (sym (rw z)) p
