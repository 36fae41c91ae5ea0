-- A placement that is accepted, over what was read: it keeps the invariant, and what the next layer needs of it.
use mathlib.Core.Path.{◌≡◌, refl, ap, sym, ◌∙◌}
use mathlib.Core.Bool.{Bool, true, false, ◌&&◌, ◌||◌, cond}
use mathlib.Core.List.{List, [], ◌∷◌, ◌++◌, map, zip_with}
use mathlib.Core.Option.{some, some-injective}
use Prim.Native.Nat.{ℕ, zero, suc, ◌+◌, ◌*◌, ◌/◌, ◌%◌, ◌^◌, ◌≤◌, ◌<◌, min}
use native.Mathlib.Omega.{arith}
use native.Mathlib.Nat.{mul-le-mul_right, div-add-mod'}
use lib.Dec.{leb}
use lib.ListN.{length}
use borrow.Author.Tests.{lt-ltb, leb-true, eqb-false, not-true}
use Rattle.wire.specs.Keys.{Key}
use Rattle.wire.specs.Kinds.{no_bucket, extent_end}
use Rattle.wire.specs.Positions.{alloc_at}
use Rattle.wire.specs.declared.kinds.Bucket.{Bucket}
use Rattle.wire.specs.declared.kinds.FileSector.{FileSector}
use Rattle.wire.specs.Bytes.{All, none, more}
use Rattle.format.specs.Packing.{get}
use Rattle.format.specs.AllocV4.{gen, data_type, dirty_sectors}
use Rattle.calls.specs.Lists.{all_of, total}
use Rattle.calls.specs.CallList.{Volume, Piece, CallList}
use Rattle.calls.specs.Trees.{lookup, apply_queue}
use Rattle.calls.specs.Freespace.{is_in, runs_of, overlaps, free_count, wanted, is_used}
use Rattle.calls.specs.Generations.{gen_of}
use Rattle.calls.specs.Clock.{clock_of}
use Rattle.calls.specs.Pieces.{next_fit, buckets_needed, piece_sized, block_of}
use Rattle.calls.specs.Extents.{Placed, bucket_at, placed_at}
use Rattle.calls.specs.ChangeList.{Spot}
use Rattle.calls.specs.Buckets.{remove_buckets}
use Rattle.calls.specs.Refusals.{verdict}
use Rattle.calls.specs.Place.{slots_of, walk_of, placed_of, dirty_in, new_alloc_key, spot_at, place_batch, place_tests}
use Rattle.calls.specs.Apply.{apply_trees, apply_batch}
use Rattle.calls.specs.History.{Live}
use Rattle.calls.proofs.lists.AllLaws.{all-imp, all_map}
use Rattle.calls.proofs.trees.AllocReads.{new-gen, new-dirty, new-kind}
use Rattle.calls.proofs.lists.BoolLaws.{parts}
use Rattle.calls.proofs.freespace.BucketLaws.{count, in-counted, out-counted, counted-in, after-keys, is_in-inserts}
use Rattle.calls.proofs.freespace.CoverLaws.{ends_within, cover-bound}
use Rattle.calls.proofs.place.FitLaws.{fills, stored_in, Sizes, Fitted, fitted}
use Rattle.calls.proofs.history.Phases.{in_bucket, LiesIn, alloc_dirty, alloc_kind, occ, len_on, free_by, Good, alloc_gen}
use Rattle.calls.proofs.place.PlacePhases.{free-empty, PlacedPhases, place-good}
use Rattle.calls.proofs.answers.RefusalLaws.{verdict-ok, test-ok}
use Rattle.calls.proofs.freespace.RunLaws.{walk-gives, covered}
use Rattle.calls.proofs.trees.SortedLaws.{Sorted}
use Rattle.calls.proofs.lists.TotalLaws.{total-map, total-same}
use Rattle.calls.proofs.trees.TreeLaws.{lookup-apply_queue}
use Rattle.calls.proofs.history.View.{bucket, read_alloc, cover_of, view, GensHeld}

-- ---- the tests passed
sized : (B block : ℕ) (ps : List Piece) → all_of (piece_sized B block) ps ≡ true → Sizes B ps
unfolding all_of piece_sized
sized B block [] h = none
sized B block (p ∷ ps) h =
    let a = parts (piece_sized B block p) (all_of (piece_sized B block) ps) h in
    let f = parts (leb 1 p.file && leb p.file (min 128 B)) _ a.0 in
    let s = parts (leb 1 p.stored && leb p.stored p.file) _ f.1 in
    let within = leb-true p.file (min 128 B) (parts (leb 1 p.file) _ f.0).1 in
    let t = parts (leb 1 p.stored) _ s.0 in
    more (leb-true 1 p.stored t.0, omega (arith, leb-true p.stored p.file t.1)) (sized B block ps a.1)

-- what the tests tell
pub record PlaceAccepted (c : CallList) : Type 0 where
  pub sectors : 0 < c.volume.head.bucket_sectors
  pub sizes : Sizes c.volume.head.bucket_sectors c.pieces
  pub disjoint : overlaps (runs_of c.volume.trees.freespace) ≡ false
  pub free : buckets_needed (slots_of c) ≤ free_count (is_in c.volume.reserved) (runs_of c.volume.trees.freespace)

pub place-accepted : (c : CallList) → verdict (place_tests c) ≡ 0 → PlaceAccepted c
unfolding place_tests wanted
place-accepted c h =
    let h4 = verdict-ok _ _ h in
    let h9 = verdict-ok _ _ (verdict-ok _ _ (verdict-ok _ _ (verdict-ok _ _ (verdict-ok _ _ h4.1).1).1).1).1 in
    let h10 = verdict-ok _ _ h9.1 in
    let h11 = verdict-ok _ _ h10.1 in
    let B = c.volume.head.bucket_sectors in
    let z = eqb-false B 0 (not-true _ (test-ok 4 _ (omega arith) h4.0)) in
    let n = buckets_needed (slots_of c) in
    let f = free_count (is_in c.volume.reserved) (runs_of c.volume.trees.freespace) in
    record {
      sectors = omega arith;
      sizes = sized B (block_of c.volume.head.block_sectors) c.pieces (test-ok 9 _ (omega arith) h9.0);
      disjoint = not-true _ (test-ok 10 _ (omega arith) h10.0);
      free = omega (arith, leb-true (wanted n c.volume.head.reserve) f (test-ok 11 _ (omega arith) h11.0));
    }

-- ---- the alloc tree
-- what is read of a new alloc key
module _ (v : Volume) (ps : List Placed) (b : Bucket) where
  pub new-key-gen : gen_of v.trees.gens b < 256 → get gen (new_alloc_key v ps b).value ≡ gen_of v.trees.gens b
  unfolding new_alloc_key
  new-key-gen h = new-gen v.head.journal (gen_of v.trees.gens b) (dirty_in ps b) (clock_of v.trees.alloc) h

  pub new-key-dirty : dirty_in ps b < 2 ^ 32 → get dirty_sectors (new_alloc_key v ps b).value ≡ dirty_in ps b
  unfolding new_alloc_key
  new-key-dirty h = new-dirty v.head.journal (gen_of v.trees.gens b) (dirty_in ps b) (clock_of v.trees.alloc) h

  pub new-key-kind : get data_type (new_alloc_key v ps b).value ≡ 4
  unfolding new_alloc_key
  new-key-kind = new-kind v.head.journal (gen_of v.trees.gens b) (dirty_in ps b) (clock_of v.trees.alloc)

-- ---- the pieces
-- a piece placed, as a live one
abbrev pub live_placed : Placed → Live
live_placed p = record { first = p.first; generation = p.generation; length = p.piece.stored }

spots-live : (B : ℕ) (gen : Bucket → ℕ) (at : ℕ → Bucket) (from : FileSector) (i u : ℕ) (ps : List Piece)
    → let placed = placed_at B gen at from ps (next_fit B i u (map (λ (p : Piece). p.stored) ps)) in
    zip_with (λ (t : Spot) (p : Piece). record { first = t.first; generation = t.generation; length = p.stored }) (map spot_at placed) ps ≡ map live_placed placed
unfolding placed_at next_fit zip_with
spots-live B gen at from i u [] = refl
spots-live B gen at from i u (p ∷ ps) =
    rw (spots-live B gen at (extent_end from p.file) (cond (leb (u + p.stored) B) i (suc i)) (cond (leb (u + p.stored) B) u 0 + p.stored) ps)

-- the pieces that are placed are those asked for
pieces-placed : (B : ℕ) (gen : Bucket → ℕ) (at : ℕ → Bucket) (from : FileSector) (ps : List Piece) (i u : ℕ)
    → map (λ (p : Placed). p.piece) (placed_at B gen at from ps (next_fit B i u (map (λ (p : Piece). p.stored) ps))) ≡ ps
unfolding placed_at next_fit
pieces-placed B gen at from [] i u = refl
pieces-placed B gen at from (p ∷ ps) i u = ap (λ (l : List Piece). p ∷ l) (pieces-placed B gen at (extent_end from p.file) ps _ _)

pub placed-pieces : (c : CallList) → map (λ p. p.piece) (placed_of c) ≡ c.pieces
unfolding placed_of slots_of
placed-pieces c = pieces-placed _ _ _ _ c.pieces 0 0

-- ---- the volume after a placement
abbrev pub sectors_in : CallList → ℕ
sectors_in c = c.volume.head.bucket_sectors

abbrev pub gens_in : CallList → Bucket → ℕ
gens_in c = gen_of c.volume.trees.gens

abbrev pub run_keys : CallList → List Key
run_keys c = c.volume.trees.freespace

abbrev pub taken_by : CallList → List Bucket
taken_by c = (walk_of c).taken

abbrev pub new_pieces : CallList → List Live
new_pieces c = map live_placed (placed_of c)

abbrev pub placed_volume : CallList → Volume
placed_volume c = apply_batch (place_batch c.volume (placed_of c) (walk_of c)) c.volume

-- a piece placed: in a bucket taken that is below the limit, inside it, with its generation
pub record PlacedIn (c : CallList) (p : Placed) : Type 0 where
  pub taken : is_in (taken_by c) p.bucket ≡ true
  pub below : p.bucket.0 < 65536
  pub some : 0 < p.piece.stored
  pub at : p.first.0 / sectors_in c ≡ p.bucket.0
  pub within : p.first.0 % sectors_in c + p.piece.stored ≤ sectors_in c
  pub sector : p.first.0 ≡ p.bucket.0 * sectors_in c + p.first.0 % sectors_in c
  pub ends : p.first.0 + p.piece.stored ≤ 65536 * sectors_in c
  pub generation : p.generation ≡ gens_in c p.bucket

module _ (c : CallList) where
  -- the spots written, with the pieces asked, are the new pieces
  pub placed-spots :
      zip_with (λ (t : Spot) (p : Piece). record { first = t.first; generation = t.generation; length = p.stored }) (map spot_at (placed_of c)) c.pieces ≡ new_pieces c
  unfolding placed_of slots_of
  placed-spots = spots-live (sectors_in c) (gens_in c) (bucket_at no_bucket (taken_by c)) c.volume.head.base 0 0 c.pieces

  -- each bucket taken has its new alloc key, and no other bucket's key changes
  pub place-alloc : (b : Bucket)
      → lookup (alloc_at b) (placed_volume c).trees.alloc
      ≡ cond (is_in (taken_by c) b) (some (new_alloc_key c.volume (placed_of c) b)) (lookup (alloc_at b) c.volume.trees.alloc)
  unfolding apply_batch apply_trees place_batch new_alloc_key
  place-alloc b =
      lookup-apply_queue (alloc_at b) (map (new_alloc_key c.volume (placed_of c)) (taken_by c)) c.volume.trees.alloc
      ∙ after-keys (new_alloc_key c.volume (placed_of c)) (λ b. refl) b (taken_by c) (lookup (alloc_at b) c.volume.trees.alloc)

  pub place-reserved : (b : Bucket) → is_in (placed_volume c).reserved b ≡ (is_in (taken_by c) b || is_in c.volume.reserved b)
  unfolding apply_batch place_batch remove_buckets
  place-reserved b = is_in-inserts (taken_by c) c.volume.reserved b

  -- what stays
  pub place-needs : (placed_volume c).trees.need_discard ≡ c.volume.trees.need_discard
  unfolding apply_batch apply_trees place_batch apply_queue
  place-needs = refl

  pub place-gens-same : (placed_volume c).trees.gens ≡ c.volume.trees.gens
  unfolding apply_batch apply_trees place_batch apply_queue
  place-gens-same = refl

  -- where the lookup in tree 14 gave each alloc key's generation, it still does
  pub place-gens : ((b : Bucket) → gens_in c b < 256)
      → GensHeld c.volume
      → GensHeld (placed_volume c)
  place-gens small old b k e = rw place-gens-same (go (is_in (taken_by c) b) (sym (place-alloc b) ∙ e))
    where
      go : (t : Bool) → cond t (some (new_alloc_key c.volume (placed_of c) b)) (lookup (alloc_at b) c.volume.trees.alloc) ≡ some k → gens_in c b ≡ get gen k.value
      go true d = sym (new-key-gen c.volume (placed_of c) b (small b)) ∙ ap (λ (j : Key). get gen j.value) (some-injective (new_alloc_key c.volume (placed_of c) b) k d)
      go false d = old b k d

  module _ (ok : verdict (place_tests c) ≡ 0) where
    -- the walk takes just what is needed, and the pieces fit in it
    pub place-enough : length (taken_by c) ≡ buckets_needed (slots_of c)
    unfolding walk_of
    place-enough =
        omega (
          arith,
          (place-accepted c ok).free,
          walk-gives (is_in c.volume.reserved) (is_used c.volume.trees.alloc) (buckets_needed (slots_of c)) (runs_of (run_keys c)),
        )

    pub place-fitted : Fitted (sectors_in c) (gens_in c) (taken_by c) (placed_of c)
    unfolding placed_of slots_of
    place-fitted = fitted (sectors_in c) (gens_in c) c.volume.head.base c.pieces (taken_by c) (place-accepted c ok).sizes place-enough

    -- what the invariant sees of the new pieces
    sum-stored : (b : ℕ) → total (len_on (sectors_in c) b) (new_pieces c) ≡ total (stored_in b) (placed_of c)
    sum-stored b =
        let B = sectors_in c in
        total-map (len_on B b) live_placed (placed_of c)
        ∙ total-same (λ (p : Placed). len_on B b (live_placed p)) (stored_in b)
        (all-imp (λ p h. rw h.at) place-fitted.laid)

    sum-fills : (x : ℕ) → total (occ x) (new_pieces c) ≡ total (fills x) (placed_of c)
    sum-fills x = total-map (occ x) live_placed (placed_of c)

    new-placed : All (λ (p : Live). LiesIn (sectors_in c) p
        × (is_in (taken_by c) (bucket (in_bucket (sectors_in c) p)) ≡ true)
        × (p.generation ≡ gens_in c (bucket (in_bucket (sectors_in c) p)))) (new_pieces c)
    new-placed = all_map live_placed
        (all-imp
        (λ p h. ((h.some, h.within), rw h.at (counted-in p.bucket (taken_by c) h.named), rw h.at h.generation)) place-fitted.laid)

    module _ (srt : Sorted (run_keys c)) where
      -- what the placement does to the cover of b
      record PlaceCover (b : ℕ) : Type 0 where
        plain : is_in c.volume.reserved (bucket b) ≡ false
            → cover_of (run_keys c) b ≡ cover_of (placed_volume c).trees.freespace b + count b (taken_by c)
        less : cover_of (placed_volume c).trees.freespace b ≤ cover_of (run_keys c) b
        shut : is_in c.volume.reserved (bucket b) ≡ true → count b (taken_by c) ≡ 0

      place-cover : (b : ℕ) → PlaceCover b
      unfolding apply_batch apply_trees place_batch walk_of
      place-cover b =
          let k = covered (is_in c.volume.reserved) (is_used c.volume.trees.alloc) (buckets_needed (slots_of c)) (run_keys c) b srt in
          record { plain = k.plain; less = k.less; shut = k.shut }

      -- a bucket taken was in a run and not reserved
      unreserved : (b : ℕ) → 0 < count b (taken_by c) → is_in c.volume.reserved (bucket b) ≡ false
      unreserved b h = go (is_in c.volume.reserved (bucket b)) refl
        where
          go : (t : Bool) → is_in c.volume.reserved (bucket b) ≡ t → t ≡ false
          go true e = absurd (omega (arith, (place-cover b).shut e))
          go false e = refl

      was_covered : (b : ℕ) → 0 < count b (taken_by c) → 0 < cover_of (run_keys c) b
      was_covered b h = omega (arith, (place-cover b).plain (unreserved b h))

      -- so where the runs are within their limit, it is below it, and each piece lies inside such a bucket
      module _ (within : ends_within (run_keys c) ≡ true) where
        pub taken-bound : (b : Bucket) → is_in (taken_by c) b ≡ true → b.0 < 65536
        taken-bound b e = cover-bound b.0 (run_keys c) within (was_covered b.0 (in-counted b (taken_by c) e))

        pub placed-bounds : All (PlacedIn c) (placed_of c)
        placed-bounds = all-imp
            (λ p h.
            let B = sectors_in c in
            let t = counted-in p.bucket (taken_by c) h.named in
            let below = taken-bound p.bucket t in
            let sector : p.first.0 ≡ p.bucket.0 * B + p.first.0 % B = sym (div-add-mod' p.first.0 B) ∙ ap (λ (n : ℕ). n * B + p.first.0 % B) h.at in
            record {
              taken = t;
              below = below;
              some = h.some;
              at = h.at;
              within = h.within;
              sector = sector;
              ends = omega (arith, h.within, mul-le-mul_right B below);
              generation = h.generation;
            })
            place-fitted.laid

      module _ (live : List Live) (offered : ℕ → Bool) (g : Good (sectors_in c) offered (view c.volume live)) where
        was_free : (b : ℕ) → 0 < count b (taken_by c) → free_by (cover_of (run_keys c) b) (is_in c.volume.reserved (bucket b)) ≡ true
        was_free b h = rw (unreserved b h, lt-ltb 0 (cover_of (run_keys c) b) (was_covered b h))

        one-cover : (b : ℕ) → 0 < count b (taken_by c) → cover_of (run_keys c) b ≡ 1
        one-cover b h = (free-empty _ _ _ _ _ _ (g.phase b) (was_free b h)).2

        -- no bucket is taken twice, so a dirty count is at most a bucket's sectors
        pub taken-once : (b : ℕ) → count b (taken_by c) ≤ 1
        taken-once b = go (count b (taken_by c)) refl
          where
            go : (n : ℕ) → count b (taken_by c) ≡ n → n ≤ 1
            go zero e = omega arith
            go (suc n) e =
                let h : 0 < count b (taken_by c) = omega arith in
                omega (arith, one-cover b h, (place-cover b).plain (unreserved b h))

        pub place-dirty : (b : Bucket) → dirty_in (placed_of c) b ≤ sectors_in c
        unfolding dirty_in
        place-dirty b = omega (arith, mul-le-mul_right (sectors_in c) (taken-once b.0), place-fitted.most b.0)

        module _ (limit : sectors_in c < 65536) (small : (b : Bucket) → gens_in c b < 256) where
          alloc_new : (b : ℕ) → is_in (taken_by c) (bucket b) ≡ true
              → read_alloc (lookup (alloc_at (bucket b)) (placed_volume c).trees.alloc) ≡ read_alloc (some (new_alloc_key c.volume (placed_of c) (bucket b)))
          alloc_new b e = ap read_alloc (place-alloc (bucket b)) ∙ rw e

          pub place-placing :
              PlacedPhases (sectors_in c) (view c.volume live) (view (placed_volume c) (live ++ new_pieces c)) (λ b. is_in (taken_by c) (bucket b)) (new_pieces c)
          unfolding dirty_in
          place-placing =
              let B = sectors_in c in
              let ps = new_pieces c in
              let ts = taken_by c in
              record {
                was_free = λ b e. was_free b (in-counted (bucket b) ts e);
                cover-taken = λ b e.
                    let h = in-counted (bucket b) ts e in
                    omega (arith, one-cover b h, (place-cover b).plain (unreserved b h));
                cover-same = λ b e k. omega (arith, out-counted (bucket b) ts e, (place-cover b).plain k);
                cover-le = λ b. (place-cover b).less;
                kept = λ b. place-reserved (bucket b);
                alloc-taken = λ b e. (
                  ap alloc_kind (alloc_new b e) ∙ new-key-kind c.volume (placed_of c) (bucket b),
                  ap alloc_dirty (alloc_new b e) ∙ new-key-dirty c.volume (placed_of c) (bucket b) (omega (arith, place-dirty (bucket b))) ∙ sym (sum-stored b),
                );
                alloc_same = λ b e. ap read_alloc (place-alloc (bucket b)) ∙ rw e;
                waits-same = λ b. rw place-needs;
                live = refl;
                ps-placed = all-imp
                    (λ p h. (
                      h.0,
                      ap alloc_gen (alloc_new (in_bucket B p) h.1)
                          ∙ ap some (new-key-gen c.volume (placed_of c) (bucket (in_bucket B p)) (small (bucket (in_bucket B p))) ∙ sym h.2),
                    ))
                    new-placed;
                ps-taken = all-imp (λ p h. h.1) new-placed;
                ps-once = λ x. omega (arith, sum-fills x, place-fitted.once x, taken-once (x / B));
                ps-some = λ b e. omega (arith, sum-stored b, in-counted (bucket b) ts e, place-fitted.least b);
              }

          pub place-keeps : Good (sectors_in c) offered (view (placed_volume c) (live ++ new_pieces c))
          place-keeps =
              place-good (sectors_in c) offered (view c.volume live) (view (placed_volume c) (live ++ new_pieces c)) g (λ b. is_in (taken_by c) (bucket b)) (new_pieces c)
              place-placing
