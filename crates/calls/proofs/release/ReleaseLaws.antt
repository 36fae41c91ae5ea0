-- An accepted release is a `Releasing` of the invariant, and keeps the generations in agreement.
use mathlib.Core.Path.{◌≡◌, refl, sym, ◌∙◌}
use mathlib.Core.Bool.{Bool, true, false, not, ◌&&◌, ◌||◌, cond, or-true, and-false, and-true, or-false}
use mathlib.Core.List.{List, [], ◌∷◌, map}
use mathlib.Core.Option.{Option, none, some}
use Prim.Native.Nat.{ℕ, zero, suc, ◌+◌, ◌-◌, ◌/◌, ◌≤◌, ◌<◌}
use native.Mathlib.Omega.{arith}
use native.Mathlib.Nat.{zero-add}
use lib.ListN.{length}
use lib.Dec.{leb, ltb, eqb}
use borrow.Author.Tests.{ltb-true, lt-ltb, leb-true, eqb-true, eqb-false, eq-eqb, ne_eqb, not-true}
use Rattle.wire.specs.Keys.{Key}
use Rattle.wire.specs.Kinds.{same_bucket, bucket_in_range, bucket_of, offset_in}
use Rattle.wire.specs.Positions.{alloc_at}
use Rattle.wire.specs.declared.kinds.Bucket.{Bucket}
use Rattle.format.specs.Packing.{get}
use Rattle.format.specs.AllocV4.{gen, dirty_sectors, with_dirty, next_gen, emptied}
use Rattle.calls.specs.Lists.{all_of, any_of, those, total, is_none, from_option}
use Rattle.calls.specs.CallList.{Volume, Freed}
use Rattle.calls.specs.Trees.{lookup, apply_queue, new_key, with_value}
use Rattle.calls.specs.Freespace.{is_in}
use Rattle.calls.specs.Generations.{gen_of, gen_short}
use Rattle.calls.specs.Buckets.{insert_buckets, remove_buckets}
use Rattle.calls.specs.Refusals.{verdict}
use Rattle.calls.specs.Release.{freed_ok, freed_buckets, freed_in, alloc_value, dirty_at, is_emptied, bucket_refusal, release_tests, released_key, emptied_gen, release_batch}
use Rattle.calls.specs.Apply.{apply_trees, apply_batch}
use Rattle.calls.specs.History.{Live, take_all}
use Rattle.calls.proofs.trees.AllocReads.{part-gen, part-kind, part-dirty, emptied-gen, emptied-kind, emptied-dirty}
use Rattle.calls.proofs.lists.BoolLaws.{clash, parts, not-both}
use Rattle.calls.proofs.freespace.BucketLaws.{is_in-inserts, is_in-those, after-keys}
use Rattle.calls.proofs.release.GensLaws.{gens-after}
use Rattle.calls.proofs.history.Phases.{alloc_dirty, Good}
use Rattle.calls.proofs.answers.RefusalLaws.{verdict-ok, test-ok, verdict-map-mem}
use Rattle.calls.proofs.release.ReleasePhases.{ask_on, Releasing, release-good}
use Rattle.calls.proofs.trees.TreeLaws.{lookup-pos, op-some, Typed, op_of, lookup-apply_queue}
use Rattle.calls.proofs.history.View.{bucket, read_alloc, named, view, GensHeld}
use Rattle.calls.proofs.discard.WaitLaws.{named-queue}

-- ---- the buckets that requests name
-- the sum, as the invariant has it
freed-asked : (sectors : ℕ) (rs : List Freed) (b : Bucket) → freed_in sectors rs b ≡ total (ask_on sectors b.0) rs
unfolding freed_in
freed-asked sectors rs b = refl

abbrev asked_of : ℕ → List Freed → List Bucket
asked_of sectors rs = map (λ (r : Freed). bucket_of r.first sectors) rs

module _ (sectors : ℕ) where
  request-ok : (r : Freed) → freed_ok sectors r ≡ true → (0 < r.sectors) × ((bucket_of r.first sectors).0 < 65536)
  unfolding freed_ok
  request-ok r e =
      let a = parts (leb 1 r.sectors && leb r.sectors 128) (leb (offset_in r.first sectors + r.sectors) sectors && bucket_in_range (bucket_of r.first sectors)) e in
      let b = parts (leb 1 r.sectors) (leb r.sectors 128) a.0 in
      let c = parts (leb (offset_in r.first sectors + r.sectors) sectors) (bucket_in_range (bucket_of r.first sectors)) a.1 in
      (leb-true 1 r.sectors b.0, ltb-true (bucket_of r.first sectors).0 65536 c.1)

  asked-freed : (b : Bucket) (rs : List Freed) → all_of (freed_ok sectors) rs ≡ true
      → (is_in (asked_of sectors rs) b ≡ ltb 0 (freed_in sectors rs b)) × (0 < freed_in sectors rs b → b.0 < 65536)
  unfolding all_of is_in any_of freed_in total
  asked-freed b [] e = (refl, λ h. absurd (omega arith))
  asked-freed b (r ∷ rs) e =
      let a = parts (freed_ok sectors r) (all_of (freed_ok sectors) rs) e in
      let o = request-ok r a.0 in
      go (same_bucket (bucket_of r.first sectors) b) refl o.0 o.1 (asked-freed b rs a.1)
    where
      go : (t : Bool) → same_bucket (bucket_of r.first sectors) b ≡ t → 0 < r.sectors → (bucket_of r.first sectors).0 < 65536
          → (is_in (asked_of sectors rs) b ≡ ltb 0 (freed_in sectors rs b)) × (0 < freed_in sectors rs b → b.0 < 65536)
          → ((t || is_in (asked_of sectors rs) b) ≡ ltb 0 (cond t r.sectors 0 + freed_in sectors rs b))
          × (0 < cond t r.sectors 0 + freed_in sectors rs b → b.0 < 65536)
      go true d p q ih =
          (sym (lt-ltb 0 (r.sectors + freed_in sectors rs b) (omega arith)), λ h. omega (arith, eqb-true (r.first.0 / sectors) b.0 d))
      go false d p q ih = (rw zero-add ih.0, λ h. ih.1 (omega arith))

module _ (sectors : ℕ) (rs : List Freed) (ok : all_of (freed_ok sectors) rs ≡ true) (b : Bucket) where
  pub named-freed : is_in (freed_buckets sectors rs) b ≡ ltb 0 (freed_in sectors rs b)
  unfolding freed_buckets is_in any_of
  named-freed = is_in-inserts (asked_of sectors rs) [] b ∙ or-false (is_in (asked_of sectors rs) b) ∙ (asked-freed sectors b rs ok).0

  pub named-range : is_in (freed_buckets sectors rs) b ≡ true → b.0 < 65536
  named-range m = (asked-freed sectors b rs ok).1 (ltb-true 0 (freed_in sectors rs b) (sym named-freed ∙ m))

-- ---- what acceptance tells
-- the buckets that are named, and the sectors freed of one
abbrev pub touched : Volume → List Freed → List Bucket
touched v rs = freed_buckets v.head.bucket_sectors rs

abbrev pub freed : Volume → List Freed → Bucket → ℕ
freed v rs b = freed_in v.head.bucket_sectors rs b

-- of a bucket that is named
pub record BucketHeld (v : Volume) (rs : List Freed) (b : Bucket) : Type 0 where
  pub key : Key
  pub found : lookup (alloc_at b) v.trees.alloc ≡ some key
  pub long : 56 ≤ length key.value
  pub small : get dirty_sectors key.value ≤ v.head.bucket_sectors
  pub held : freed v rs b ≤ get dirty_sectors key.value
  pub room : is_emptied v rs b ≡ true → gen_short v.trees.gens b ≡ false

pub record ReleaseAccepted (v : Volume) (rs : List Freed) : Type 0 where
  pub some-sectors : 0 < v.head.bucket_sectors
  pub requests : all_of (freed_ok v.head.bucket_sectors) rs ≡ true
  pub held : (b : Bucket) → is_in (touched v rs) b ≡ true → BucketHeld v rs b

pub held_of : (v : Volume) (rs : List Freed) (b : Bucket) → bucket_refusal v rs b ≡ 0 → BucketHeld v rs b
unfolding bucket_refusal alloc_value dirty_at
held_of v rs b e =
    let a15 = verdict-ok _ _ e in
    let a16 = verdict-ok _ _ a15.1 in
    let a17 = verdict-ok _ _ a16.1 in
    let a18 = verdict-ok _ _ a17.1 in
    let a19 = verdict-ok _ _ a18.1 in
    go (lookup (alloc_at b) v.trees.alloc) refl
    (test-ok 15 _ (omega arith) a15.0)
    (leb-true 56 _ (test-ok 16 _ (omega arith) a16.0))
    (leb-true _ _ (test-ok 17 _ (omega arith) a17.0))
    (leb-true _ _ (test-ok 18 _ (omega arith) a18.0))
    (not-both (is_emptied v rs b) (gen_short v.trees.gens b) (test-ok 19 _ (omega arith) a19.0))
  where
    go : (o : Option Key) → lookup (alloc_at b) v.trees.alloc ≡ o → not (is_none o) ≡ true → 56 ≤ length (from_option [] (λ k. k.value) o)
        → get dirty_sectors (from_option [] (λ k. k.value) o) ≤ v.head.bucket_sectors
        → freed v rs b ≤ get dirty_sectors (from_option [] (λ k. k.value) o)
        → (is_emptied v rs b ≡ true → gen_short v.trees.gens b ≡ false)
        → BucketHeld v rs b
    go none f n l d h r = absurd (clash n refl)
    go (some k) f n l d h r = record { key = k; found = f; long = l; small = d; held = h; room = r }

pub release-accepted : (v : Volume) (rs : List Freed) → verdict (release_tests v rs) ≡ 0 → ReleaseAccepted v rs
unfolding release_tests
release-accepted v rs e =
    let a4 = verdict-ok _ _ e in
    let a14 = verdict-ok _ _ a4.1 in
    let a15 = verdict-ok _ _ a14.1 in
    let n = eqb-false v.head.bucket_sectors 0 (not-true _ (test-ok 4 _ (omega arith) a4.0)) in
    record {
      some-sectors = omega arith;
      requests = test-ok 14 _ (omega arith) a14.0;
      held = λ b m. held_of v rs b (verdict-map-mem (bucket_refusal v rs) (touched v rs) a15.0 b m);
    }

-- ---- the batch
abbrev pub released : Volume → List Freed → Volume
released v rs = apply_batch (release_batch v rs) v

module _ (v : Volume) (rs : List Freed) where
  free-same : (released v rs).trees.freespace ≡ v.trees.freespace
  unfolding apply_batch apply_trees release_batch apply_queue
  free-same = refl

  kept_same : (released v rs).reserved ≡ v.reserved
  unfolding apply_batch release_batch insert_buckets remove_buckets
  kept_same = refl

  released-pos : (b : Bucket) → (released_key v rs b).pos ≡ alloc_at b
  unfolding released_key
  released-pos b = go (lookup (alloc_at b) v.trees.alloc) refl
    where
      go : (o : Option Key) → lookup (alloc_at b) v.trees.alloc ≡ o → (from_option (new_key 27 0 (alloc_at b) []) (λ k. k) o).pos ≡ alloc_at b
      go none e = refl
      go (some k) e = lookup-pos (alloc_at b) v.trees.alloc k e

  alloc_at_lem : (b : Bucket) → lookup (alloc_at b) (released v rs).trees.alloc ≡ cond (is_in (touched v rs) b) (op_of (released_key v rs b)) (lookup (alloc_at b) v.trees.alloc)
  unfolding apply_batch apply_trees release_batch
  alloc_at_lem b =
      lookup-apply_queue (alloc_at b) (map (released_key v rs) (touched v rs)) v.trees.alloc
      ∙ after-keys (released_key v rs) released-pos b (touched v rs) (lookup (alloc_at b) v.trees.alloc)

  needs-at : (b : ℕ) → named (released v rs).trees.need_discard b ≡ ((is_emptied v rs (bucket b) && is_in (touched v rs) (bucket b)) || named v.trees.need_discard b)
  unfolding apply_batch apply_trees release_batch
  needs-at b =
      named-queue v.head.journal b (those (is_emptied v rs) (touched v rs)) v.trees.need_discard
      ∙ rw (is_in-those (is_emptied v rs) (touched v rs) (bucket b))

  gens-at : ReleaseAccepted v rs → (b : Bucket) → gen_of (released v rs).trees.gens b ≡ cond (is_emptied v rs b && is_in (touched v rs) b) (emptied_gen v.trees b) (gen_of v.trees.gens b)
  unfolding apply_batch apply_trees release_batch
  gens-at a b =
      gens-after (emptied_gen v.trees) (those (is_emptied v rs) (touched v rs)) v.trees.gens v.trees.gens (λ p. refl)
      (λ c m. let t = parts (is_emptied v rs c) (is_in (touched v rs) c) (sym (is_in-those (is_emptied v rs) (touched v rs) c) ∙ m) in (a.held c t.1).room t.0) b
      ∙ rw (is_in-those (is_emptied v rs) (touched v rs) b)

-- ---- a bucket that is named
module _ (v : Volume) (rs : List Freed) (b : Bucket) (h : BucketHeld v rs b) where
  abbrev value : List ℕ
  value = h.key.value

  abbrev partly : List ℕ
  partly = with_dirty (get dirty_sectors value - freed v rs b) value

  abbrev wholly : List ℕ
  wholly = emptied v.head.journal value

  emptied-is : is_emptied v rs b ≡ eqb (freed v rs b) (get dirty_sectors value)
  unfolding is_emptied dirty_at alloc_value
  emptied-is = rw h.found

  stays : freed v rs b < get dirty_sectors value → is_emptied v rs b ≡ false
  stays l = emptied-is ∙ ne_eqb (freed v rs b) (get dirty_sectors value) (λ e. omega arith)

  goes : freed v rs b ≡ get dirty_sectors value → is_emptied v rs b ≡ true
  goes e = emptied-is ∙ eq-eqb (freed v rs b) (get dirty_sectors value) e

  gen-is : emptied_gen v.trees b ≡ next_gen (get gen value)
  unfolding emptied_gen alloc_value
  gen-is = rw h.found

  key-is : released_key v rs b
      ≡ with_value h.key (cond (is_emptied v rs b) wholly partly)
  unfolding released_key dirty_at alloc_value
  key-is = rw h.found

  module _ (t : Typed v.trees.alloc) (m : is_in (touched v rs) b ≡ true) where
    alloc-is : (w : List ℕ) → cond (is_emptied v rs b) wholly partly ≡ w
        → lookup (alloc_at b) (released v rs).trees.alloc ≡ some (with_value h.key w)
    alloc-is w e = alloc_at_lem v rs b ∙ rw (m, key-is, t (alloc_at b) h.key h.found, e)

    part-is : is_emptied v rs b ≡ false → lookup (alloc_at b) (released v rs).trees.alloc ≡ some (with_value h.key partly)
    part-is e = alloc-is partly (rw e)

    whole_is : is_emptied v rs b ≡ true → lookup (alloc_at b) (released v rs).trees.alloc ≡ some (with_value h.key wholly)
    whole_is e = alloc-is wholly (rw e)

-- ---- the whole
module _ (v : Volume) (rs : List Freed) (live live' : List Live) (ok : verdict (release_tests v rs) ≡ 0) (small : v.head.bucket_sectors < 65536)
    (t : Typed v.trees.alloc) (named : take_all rs live ≡ some live') where
  abbrev asks : ℕ → ℕ
  asks b = total (ask_on v.head.bucket_sectors b) rs

  a : ReleaseAccepted v rs
  a = release-accepted v rs ok

  is-named : (b : ℕ) → is_in (touched v rs) (bucket b) ≡ ltb 0 (asks b)
  is-named b = named-freed v.head.bucket_sectors rs a.requests (bucket b) ∙ rw (freed-asked v.head.bucket_sectors rs (bucket b))

  holds : (b : ℕ) → 0 < asks b → BucketHeld v rs (bucket b)
  holds b p = a.held (bucket b) (is-named b ∙ lt-ltb 0 (asks b) p)

  dirty-is : (b : ℕ) (h : BucketHeld v rs (bucket b)) → alloc_dirty (read_alloc (lookup (alloc_at (bucket b)) v.trees.alloc)) ≡ get dirty_sectors h.key.value
  dirty-is b h = rw h.found

  some-held : (b n : ℕ) → asks b ≡ n → n ≤ alloc_dirty (read_alloc (lookup (alloc_at (bucket b)) v.trees.alloc))
  some-held b zero e = omega arith
  some-held b (suc n) e =
      let h = holds b (omega arith) in omega (arith, dirty-is b h, h.held, freed-asked v.head.bucket_sectors rs (bucket b))

  pub releasing : Releasing v.head.bucket_sectors (view v live) (view (released v rs) live') rs
  releasing =
      record {
        live = named;
        cover = λ b. rw (free-same v rs);
        kept = λ b. rw (kept_same v rs);
        waits = λ b e. needs-at v rs b ∙ rw e (or-true (is_emptied v rs (bucket b) && is_in (touched v rs) (bucket b)));
        held = λ b. some-held b (asks b) refl;
        same = λ b z. rw (alloc_at_lem v rs (bucket b), is-named b, z);
        part =
            λ b p l.
            let h = holds b p in
            let f = freed-asked v.head.bucket_sectors rs (bucket b) in
            let d = dirty-is b h in
            let left = get dirty_sectors h.key.value - freed v rs (bucket b) in
            let e = part-is v rs (bucket b) h t (is-named b ∙ lt-ltb 0 (asks b) p) (stays v rs (bucket b) h (omega arith)) in (
              rw (e, h.found, part-gen left h.key.value),
              rw (e, h.found, part-kind left h.key.value),
              rw (e, h.found, part-dirty left h.key.value (omega (arith, h.small)) (omega (arith, h.long)), f),
            );
        emptied =
            λ b p q.
            let h = holds b p in
            let f = freed-asked v.head.bucket_sectors rs (bucket b) in
            let d = dirty-is b h in
            let m = is-named b ∙ lt-ltb 0 (asks b) p in
            let w = goes v rs (bucket b) h (omega arith) in
            let e = whole_is v rs (bucket b) h t m w in (
              rw (e, emptied-kind v.head.journal h.key.value h.long),
              rw (e, emptied-dirty v.head.journal h.key.value h.long),
              needs-at v rs b ∙ rw (w, m),
            );
      }

  pub releasing-good : (offered : ℕ → Bool) → Good v.head.bucket_sectors offered (view v live) → Good v.head.bucket_sectors offered (view (released v rs) live')
  releasing-good offered g =
      release-good v.head.bucket_sectors offered (view v live) (view (released v rs) live') g rs releasing

-- ---- generations
pub release-gens : (v : Volume) (rs : List Freed) → verdict (release_tests v rs) ≡ 0 → GensHeld v → GensHeld (released v rs)
release-gens v rs ok g b k e = gens-at v rs a b ∙ go (is_in (touched v rs) b) refl (sym (alloc_at_lem v rs b) ∙ e)
  where
    a : ReleaseAccepted v rs
    a = release-accepted v rs ok

    go : (s : Bool) → is_in (touched v rs) b ≡ s
        → cond s (op_of (released_key v rs b)) (lookup (alloc_at b) v.trees.alloc) ≡ some k
        → cond (is_emptied v rs b && s) (emptied_gen v.trees b) (gen_of v.trees.gens b) ≡ get gen k.value
    go false m q = rw (and-false (is_emptied v rs b)) (g b k q)
    go true m q =
        let h = a.held b m in
        rw (and-true (is_emptied v rs b), ← (op-some (released_key v rs b) k q).1, key-is v rs b h) (each h (is_emptied v rs b))
      where
        each : (h : BucketHeld v rs b) (t : Bool) → cond t (emptied_gen v.trees b) (gen_of v.trees.gens b) ≡ get gen (cond t (wholly v rs b h) (partly v rs b h))
        each h true = gen-is v rs b h ∙ sym (emptied-gen v.head.journal h.key.value h.long)
        each h false =
            g b h.key h.found
            ∙ sym (part-gen (get dirty_sectors h.key.value - freed v rs b) h.key.value)
