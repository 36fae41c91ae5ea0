-- A discard keeps the invariant after each of its batches, and changes no generation.
use mathlib.Core.Path.{◌≡◌, refl, ap, sym, ◌∙◌}
use mathlib.Core.Bool.{Bool, true, false, not, ◌&&◌, ◌||◌, cond}
use mathlib.Core.List.{List, [], ◌∷◌, map, flat_map, Memᴰ}
use mathlib.Core.Option.{Option, some, some-injective}
use Prim.Native.Nat.{ℕ, zero, suc, ◌+◌, ◌≤◌, Ordering}
use native.Mathlib.Omega.{arith}
use lib.Dec.{leb, eqb}
use lib.ListN.{length, take, drop}
use lib.Seq.{take-length}
use borrow.Author.Tests.{leb-true, eqb-true, eqb-false, ne_eqb}
use Rattle.wire.specs.Keys.{Key}
use Rattle.wire.specs.Kinds.{same_bucket}
use Rattle.wire.specs.Order.{cmp}
use Rattle.wire.specs.Positions.{alloc_at, bucket_in}
use Rattle.wire.specs.declared.bpos.Bpos.{Bpos}
use Rattle.wire.specs.declared.kinds.Bucket.{Bucket}
use Rattle.wire.specs.Bytes.{All, none as nothing, more}
use Rattle.wire.proofs.NumberLaws.{all_take, all_drop}
use Rattle.wire.proofs.OrderLaws.{pos-cmp, pos-equal, lt≢eq}
use Rattle.format.specs.Packing.{get}
use Rattle.format.specs.AllocV4.{gen, data_type, need_discard_type, discarded}
use Rattle.calls.specs.Lists.{any_of, total, is_none, one}
use Rattle.calls.specs.CallList.{Trees, Volume}
use Rattle.calls.specs.Limits.{at_inode0}
use Rattle.calls.specs.Trees.{on_eq, lookup, apply_queue, with_value}
use Rattle.calls.specs.Freespace.{is_in}
use Rattle.calls.specs.Generations.{gen_of}
use Rattle.calls.specs.Buckets.{insert_buckets}
use Rattle.calls.specs.Discard.{waiting_key, gen_taken, is_discarded, discarded_keys, chunks, waiting_deletions, discard_batch, discard_batches}
use Rattle.calls.specs.Apply.{apply_trees, apply_batch, apply_batches}
use Rattle.calls.specs.History.{Live}
use Rattle.calls.proofs.lists.AllLaws.{all-at, all-imp, all_join, all-chosen, test-all, all-each}
use Rattle.calls.proofs.trees.AllocReads.{discarded-gen, discarded-kind, discarded-dirty}
use Rattle.calls.proofs.lists.BoolLaws.{clash, parts, neither}
use Rattle.calls.proofs.freespace.BucketLaws.{count, in-without-all}
use Rattle.calls.proofs.discard.DiscardPhases.{Discarding, discard-good, wait-cover}
use Rattle.calls.proofs.freespace.JoinLaws.{cover-joined}
use Rattle.calls.proofs.history.Phases.{alloc_kind, Good}
use Rattle.calls.proofs.trees.SortedLaws.{Sorted, chain-sorted, sorted-apply_queue, all-chain, sorted-those, lookup-own, sorted-take, sorted-drop, NoSnapshots}
use Rattle.calls.proofs.trees.TreeLaws.{op_of, last_op, lookup-apply_queue, same-offset}
use Rattle.calls.proofs.history.View.{bucket, read_alloc, view, GensHeld}
use Rattle.calls.proofs.discard.WaitLaws.{named-apart, deletions-apart}

-- ---- the alloc tree
abbrev cleared : Key → Key
cleared k = with_value k (discarded k.value)

-- the buckets of some alloc keys
abbrev pub buckets_at : List Key → List Bucket
buckets_at ks = map (λ k. bucket_in k.pos) ks

-- an alloc key of a volume that a discard may take
pub record Due (alloc : List Key) (k : Key) : Type 0 where
  pub at : k.pos ≡ alloc_at (bucket_in k.pos)
  pub type : k.type ≡ 27
  pub long : 56 ≤ length k.value
  pub waits : get data_type k.value ≡ need_discard_type
  pub found : lookup k.pos alloc ≡ some k

-- a bucket's key among some, and what they leave at its position
record At (b : ℕ) (ks : List Key) (o : Option Key) : Type 0 where
  key : Key
  listed : Memᴰ key ks
  place : key.pos ≡ alloc_at (bucket b)
  left : o ≡ some (cleared key)

module _ (alloc : List Key) (b : ℕ) where
  abbrev p : Bpos
  p = alloc_at (bucket b)

  -- what one of the keys leaves there
  abbrev next : Key → Option Key → Option Key
  next k old = on_eq (cmp p k.pos) (op_of (cleared k)) old

  meets : (k : Key) (old : Option Key) → Due alloc k → (t : Bool) → same_bucket (bucket_in k.pos) (bucket b) ≡ t → next k old ≡ cond t (some (cleared k)) old
  meets k old d true e =
      let q : k.pos ≡ p = d.at ∙ ap (λ (n : ℕ). alloc_at (bucket n)) (eqb-true k.pos.offset b e) in
      rw (ap (cmp p) q, pos-cmp.same p, d.type)
  meets k old d false e = go (cmp p k.pos) refl
    where
      go : (o : Ordering) → cmp p k.pos ≡ o → on_eq o (op_of (cleared k)) old ≡ old
      go Ordering.lt q = refl
      go Ordering.gt q = refl
      go Ordering.eq q = absurd (eqb-false k.pos.offset b e (sym (same-offset p k.pos q)))

  left_out : (ks : List Key) (old : Option Key) → All (Due alloc) ks → is_in (buckets_at ks) (bucket b) ≡ false → last_op p (map cleared ks) old ≡ old
  unfolding is_in any_of
  left_out [] old a e = refl
  left_out (k ∷ ks) old (more d a) e =
      let n = neither (same_bucket (bucket_in k.pos) (bucket b)) (is_in (buckets_at ks) (bucket b)) e in
      left_out ks (next k old) a n.1 ∙ meets k old d false n.0

  left_in : (ks : List Key) (old : Option Key) → All (Due alloc) ks → is_in (buckets_at ks) (bucket b) ≡ true → At b ks (last_op p (map cleared ks) old)
  unfolding is_in any_of
  left_in [] old a e = absurd (clash e refl)
  left_in (k ∷ ks) old (more due a) e = go (is_in (buckets_at ks) (bucket b)) refl (same_bucket (bucket_in k.pos) (bucket b)) refl e (λ d. left_in ks (next k old) a d)
    where
      go : (u : Bool) → is_in (buckets_at ks) (bucket b) ≡ u → (t : Bool) → same_bucket (bucket_in k.pos) (bucket b) ≡ t → (t || u) ≡ true
          → (is_in (buckets_at ks) (bucket b) ≡ true → At b ks (last_op p (map cleared ks) (next k old))) → At b (k ∷ ks) (last_op p (map cleared ks) (next k old))
      go true d t q h ih =
          let i = ih d in
          record { key = i.key; listed = Memᴰ.tail i.listed; place = i.place; left = i.left }
      go false d true q h ih =
          record {
            key = k;
            listed = Memᴰ.head refl;
            place = due.at ∙ ap (λ (n : ℕ). alloc_at (bucket n)) (eqb-true k.pos.offset b q);
            left = left_out ks (next k old) a d ∙ meets k old due true q;
          }
      go false d false q h ih = absurd (clash h refl)

-- ---- the keys, in order
count_none : (alloc : List Key) (b : ℕ) (ks : List Key) → All (Due alloc) ks → All (λ (k : Key). cmp (alloc_at (bucket b)) k.pos ≡ Ordering.lt) ks → count b (buckets_at ks) ≡ 0
unfolding total
count_none alloc b [] a h = refl
count_none alloc b (k ∷ ks) (more d a) (more l h) =
    let n : k.pos.offset ≡ b → ⊥ = λ q.
    lt≢eq (sym l ∙ rw (ap (cmp (alloc_at (bucket b))) (d.at ∙ ap (λ (n : ℕ). alloc_at (bucket n)) q)) (pos-cmp.same (alloc_at (bucket b)))) in
    rw (ne_eqb k.pos.offset b n, count_none alloc b ks a h)

count-once : (alloc : List Key) (ks : List Key) → All (Due alloc) ks → Sorted ks → (b : ℕ) → count b (buckets_at ks) ≡ one (is_in (buckets_at ks) (bucket b))
unfolding total is_in any_of
count-once alloc [] a s b = refl
count-once alloc (k ∷ ks) (more d a) s b = go (same_bucket (bucket_in k.pos) (bucket b)) refl (count-once alloc ks a (chain-sorted k.pos ks s) b)
  where
    go : (t : Bool) → same_bucket (bucket_in k.pos) (bucket b) ≡ t → count b (buckets_at ks) ≡ one (is_in (buckets_at ks) (bucket b))
        → one t + count b (buckets_at ks) ≡ one (t || is_in (buckets_at ks) (bucket b))
    go true e ih =
        let q : alloc_at (bucket b) ≡ k.pos = sym (d.at ∙ ap (λ (n : ℕ). alloc_at (bucket n)) (eqb-true k.pos.offset b e)) in
        let z : count b (buckets_at ks) ≡ 0 = count_none alloc b ks a (rw q (all-chain k.pos ks s)) in
        omega arith
    go false e ih = omega arith

-- ---- one batch
-- what a history keeps of a volume and its live pieces
pub record VolumeSound (B : ℕ) (offered : ℕ → Bool) (live : List Live) (v : Volume) : Type 0 where
  pub good : Good B offered (view v live)
  pub alloc : Sorted v.trees.alloc
  pub freespace : Sorted v.trees.freespace
  pub need_discard : Sorted v.trees.need_discard

module _ (t : Trees) (ks : List Key) (v : Volume) (due : All (Due v.trees.alloc) ks) where
  abbrev v' : Volume
  v' = apply_batch (discard_batch t ks) v

  abbrev in_batch : ℕ → Bool
  in_batch b = is_in (buckets_at ks) (bucket b)

  alloc-in : (b : ℕ) → in_batch b ≡ true → At b ks (lookup (alloc_at (bucket b)) v'.trees.alloc)
  unfolding apply_batch apply_trees discard_batch
  alloc-in b e =
      rw (lookup-apply_queue (alloc_at (bucket b)) (map cleared ks) v.trees.alloc)
      (left_in v.trees.alloc b ks (lookup (alloc_at (bucket b)) v.trees.alloc) due e)

  alloc-out : (b : ℕ) → in_batch b ≡ false → lookup (alloc_at (bucket b)) v'.trees.alloc ≡ lookup (alloc_at (bucket b)) v.trees.alloc
  unfolding apply_batch apply_trees discard_batch
  alloc-out b e =
      lookup-apply_queue (alloc_at (bucket b)) (map cleared ks) v.trees.alloc
      ∙ left_out v.trees.alloc b ks (lookup (alloc_at (bucket b)) v.trees.alloc) due e

  module _ (b : ℕ) (o : Option Key) (i : At b ks o) where
    key-due : Due v.trees.alloc i.key
    key-due = all-at due i.listed

    was : lookup (alloc_at (bucket b)) v.trees.alloc ≡ some i.key
    was = ap (λ (q : Bpos). lookup q v.trees.alloc) (sym i.place) ∙ key-due.found

  nine : (b : ℕ) → in_batch b ≡ true → alloc_kind (read_alloc (lookup (alloc_at (bucket b)) v.trees.alloc)) ≡ 9
  nine b e = let i = alloc-in b e in rw (was b _ i) (key-due b _ i).waits

  pub gens-kept : GensHeld v → GensHeld v'
  unfolding apply_batch apply_trees discard_batch apply_queue
  gens-kept h b k e = tree ∙ go (in_batch b.0) refl
    where
      tree : gen_of v'.trees.gens b ≡ gen_of v.trees.gens b
      tree = refl

      go : (u : Bool) → in_batch b.0 ≡ u → gen_of v.trees.gens b ≡ get gen k.value
      go true d =
          let i = alloc-in b.0 d in
          let q : cleared i.key ≡ k = some-injective (cleared i.key) k (sym i.left ∙ e) in
          h b i.key (was b.0 _ i) ∙ sym (discarded-gen i.key.value (key-due b.0 _ i).long) ∙ ap (λ (x : Key). get gen x.value) q
      go false d = h b k (sym (alloc-out b.0 d) ∙ e)

  module _ (B : ℕ) (offered : ℕ → Bool) (live : List Live) (s : VolumeSound B offered live v) (sorted : Sorted ks) where
    pub discarding : Discarding (view v live) (view v' live) in_batch
    unfolding apply_batch apply_trees discard_batch insert_buckets
    discarding =
        record {
          live = refl;
          cover = cover-joined (buckets_at ks) v.trees.freespace s.freespace (count-once v.trees.alloc ks due sorted)
              (λ c m. wait-cover _ _ _ _ _ _ (s.good.phase c) (nine c m));
          kept = λ b. in-without-all (bucket b) (buckets_at ks) v.reserved;
          waited = nine;
          cleared = λ b e.
              let i = alloc-in b e in
              let d = key-due b _ i in
              (rw i.left (discarded-kind i.key.value d.long), rw (i.left, was b _ i) (discarded-dirty i.key.value d.long));
          same = λ b e. (
            ap read_alloc (alloc-out b e),
            named-apart b (flat_map (waiting_deletions t.need_discard) (buckets_at ks)) v.trees.need_discard s.need_discard (deletions-apart b t.need_discard (buckets_at ks) e),
          );
        }

    pub batch-sound : VolumeSound B offered live v'
    unfolding apply_batch apply_trees discard_batch
    batch-sound =
        record {
          good = discard-good B offered (view v live) (view v' live) s.good in_batch discarding;
          alloc = sorted-apply_queue _ v.trees.alloc s.alloc;
          freespace = sorted-apply_queue _ v.trees.freespace s.freespace;
          need_discard = sorted-apply_queue _ v.trees.need_discard s.need_discard;
        }

-- ---- the keys that a batch leaves for the next
-- the first n keys leave alone what stands at the others' positions
abbrev Passed : List Key → Key → Type 0
Passed ks k = (old : Option Key) → last_op k.pos (map cleared ks) old ≡ old

passed : (n : ℕ) (ks : List Key) → Sorted ks → All (Passed (take n ks)) (drop n ks)
passed zero ks s = all-each (λ k old. refl) ks
passed (suc n) [] s = nothing
passed (suc n) (k ∷ ks) s =
    all_join
    (λ (j : Key) l (h : Passed (take n ks) j) old. h (on_eq (cmp j.pos k.pos) (op_of (cleared k)) old) ∙ rw (pos-cmp.lt-gt k.pos j.pos l))
    (all_drop n (all-chain k.pos ks s))
    (passed n ks (chain-sorted k.pos ks s))

due-after : (t : Trees) (v : Volume) (n : ℕ) (ks : List Key) → All (Due v.trees.alloc) ks → Sorted ks
    → All (Due (apply_batch (discard_batch t (take n ks)) v).trees.alloc) (drop n ks)
unfolding apply_batch apply_trees discard_batch
due-after t v n ks a s =
    all_join
    (λ k d h.
    record {
      at = d.at;
      type = d.type;
      long = d.long;
      waits = d.waits;
      found = lookup-apply_queue k.pos (map cleared (take n ks)) v.trees.alloc ∙ h (lookup k.pos v.trees.alloc) ∙ d.found;
    })
    (all_drop n a) (passed n ks s)

-- ---- all batches
-- what every batch keeps stands after any number of them
module _ (t : Trees) (P : Volume → Type 0)
    (keeps : (v : Volume) (ks : List Key) → All (Due v.trees.alloc) ks → Sorted ks → P v → P (apply_batch (discard_batch t ks) v)) where
  chunks-keep : (most size n : ℕ) (ks : List Key) (v : Volume) → All (Due v.trees.alloc) ks → Sorted ks → P v
      → P (apply_batches (take n (map (discard_batch t) (chunks most size ks))) v)
  unfolding apply_batches chunks
  chunks-keep zero size zero ks v a s h = h
  chunks-keep zero size (suc n) ks v a s h = h
  chunks-keep (suc most) size zero ks v a s h = h
  chunks-keep (suc most) size (suc n) [] v a s h = h
  chunks-keep (suc most) size (suc n) (k ∷ ks) v a s h =
      let front = take size (k ∷ ks) in
      chunks-keep most size n (drop size (k ∷ ks)) (apply_batch (discard_batch t front) v) (due-after t v size (k ∷ ks) a s) (sorted-drop size (k ∷ ks) s)
      (keeps v front (all_take size a) (sorted-take size (k ∷ ks) s) h)

-- ---- the keys that a discard takes
due : (t : Trees) (k : Key) → is_discarded t k ≡ true → k.pos.snapshot ≡ 0 → lookup k.pos t.alloc ≡ some k → Due t.alloc k
unfolding is_discarded
due t k h z f =
    let taken = gen_taken k.value && not (is_none (waiting_key t.need_discard (bucket_in k.pos))) in
    let kind = eqb (get data_type k.value) need_discard_type in
    let a = parts (eqb k.type 27 && at_inode0 k) (leb 56 (length k.value) && (kind && taken)) h in
    let b = parts (eqb k.type 27) (at_inode0 k) a.0 in
    let c = parts (leb 56 (length k.value)) (kind && taken) a.1 in
    record {
      at = pos-equal k.pos (alloc_at (bucket_in k.pos)) (eqb-true k.pos.inode 0 b.1) refl z;
      type = eqb-true k.type 27 b.0;
      long = leb-true 56 (length k.value) c.0;
      waits = eqb-true (get data_type k.value) need_discard_type (parts kind taken c.1).0;
      found = f;
    }

module _ (t : Trees) (s : Sorted t.alloc) (z : NoSnapshots t.alloc) where
  all-due : All (Due t.alloc) (discarded_keys t)
  unfolding discarded_keys
  all-due =
      let own : All (λ k. (k.pos.snapshot ≡ 0) × (lookup k.pos t.alloc ≡ some k)) t.alloc =
      all_join (λ k e f. (eqb-true k.pos.snapshot 0 e, f)) (test-all (λ k. eqb k.pos.snapshot 0) t.alloc z) (lookup-own t.alloc s) in
      all-imp (λ k h. due t k h.0 h.1.0 h.1.1) (all-chosen (is_discarded t) own)

  all-sorted : Sorted (discarded_keys t)
  unfolding discarded_keys
  all-sorted = sorted-those (is_discarded t) t.alloc s

-- ---- the whole
-- all batches are one of the numbers of them
pub after-all : (v : Volume) (P : Volume → Type 0) → ((n : ℕ) → P (apply_batches (take n (discard_batches v)) v)) → P (apply_batches (discard_batches v) v)
after-all v P h = rw take-length at (h (length (discard_batches v)))

module _ (v : Volume) (s : Sorted v.trees.alloc) (z : NoSnapshots v.trees.alloc) where
  -- what every batch keeps stands after any number of a discard's batches
  pub discard-keeps : (P : Volume → Type 0)
      → ((w : Volume) (ks : List Key) → All (Due w.trees.alloc) ks → Sorted ks → P w → P (apply_batch (discard_batch v.trees ks) w))
      → P v → (n : ℕ) → P (apply_batches (take n (discard_batches v)) v)
  unfolding discard_batches
  discard-keeps P keeps h n =
      let ks = discarded_keys v.trees in
      chunks-keep v.trees P keeps (length ks) v.head.batch n ks v (all-due v.trees s z) (all-sorted v.trees s z) h

  pub discard-gens : GensHeld v → (n : ℕ) → GensHeld (apply_batches (take n (discard_batches v)) v)
  discard-gens = discard-keeps GensHeld (λ w ks a c h. gens-kept v.trees ks w a h)

module _ (B : ℕ) (offered : ℕ → Bool) (live : List Live) (v : Volume) (s : VolumeSound B offered live v) (z : NoSnapshots v.trees.alloc) where
  pub discard-sound : (n : ℕ) → VolumeSound B offered live (apply_batches (take n (discard_batches v)) v)
  discard-sound = discard-keeps v s.alloc z (VolumeSound B offered live) (λ w ks a c h. batch-sound v.trees ks w a B offered live h c) s

  pub discard-all : VolumeSound B offered live (apply_batches (discard_batches v) v)
  discard-all = after-all v (VolumeSound B offered live) discard-sound
