-- The LRU root of a placement: it is wanted exactly where an LRU key is queued, it exists once the placement is applied, and it is wanted wherever the
-- stored sectors in all are no multiple of the bucket.
use mathlib.Core.Path.{◌≡◌, refl, sym, ap, ◌∙◌}
use mathlib.Core.Bool.{Bool, true, false, not, ◌&&◌, ◌||◌, cond}
use mathlib.Core.List.{List, [], ◌∷◌, ◌++◌, map, flat_map}
use Prim.Native.Nat.{ℕ, ◌+◌, ◌*◌, ◌/◌, ◌%◌, ◌^◌, ◌≤◌}
use native.Mathlib.Omega.{arith}
use native.Mathlib.Nat.{one-mul, mul-mod_left, mul-le-mul_right}
use lib.ListN.{length}
use borrow.Author.Tests.{eqb-true, ne_eqb, ltb-false}
use Rattle.wire.specs.Bytes.{All, none, more, Bytes}
use Rattle.wire.specs.Kinds.{same_bucket}
use Rattle.wire.specs.Positions.{lru_at}
use Rattle.wire.specs.declared.kinds.Bucket.{Bucket}
use Rattle.format.specs.Lru.{fragmentation}
use Rattle.calls.specs.Lists.{any_of, total, is_empty}
use Rattle.calls.specs.Trees.{new_key}
use Rattle.calls.specs.CallList.{Volume, CallList, Piece, trees_ok}
use Rattle.calls.specs.Freespace.{Walked}
use Rattle.calls.specs.Extents.{Placed}
use Rattle.calls.specs.Lru.{part_filled, lru_keys, lru_wanted}
use Rattle.calls.specs.ChangeList.{changes_of}
use Rattle.calls.specs.Refusals.{verdict}
use Rattle.calls.specs.Place.{root_missing, roots_if, dirty_in, place_batch, place_tests, placed_of, walk_of}
use Rattle.calls.specs.Apply.{set_roots, with_roots, apply_batch}
use Rattle.calls.specs.Answers.{read_call, read_volume, place, apply}
use Rattle.calls.specs.History.{without_requests}
use Rattle.calls.proofs.lists.AllLaws.{all-imp}
use Rattle.calls.proofs.lists.BoolLaws.{clash, neither}
use Rattle.calls.proofs.lists.TotalLaws.{total-map, total-same, total-constant, total-swap}
use Rattle.calls.proofs.freespace.BucketLaws.{count, counted-times}
use Rattle.calls.proofs.freespace.TakenAscend.{ascend-once, call-trees, place-taken-ascend}
use Rattle.calls.proofs.place.PlaceLaws.{sectors_in, taken_by, placed-pieces, place-accepted, place-fitted}
use Rattle.calls.proofs.answers.AnswerLaws.{placement, applied}
use Rattle.calls.proofs.answers.AnswersReadBack.{place-written}
use Rattle.calls.proofs.history.HistoryKeeps.{placed-read}

-- ---- wanted exactly where a key is queued
module _ (sectors : ℕ) (dirty : Bucket → ℕ) where
  pub wanted-queued : (bs : List Bucket) → lru_wanted sectors (map dirty bs) ≡ not (is_empty (flat_map (λ b. lru_keys sectors b (dirty b)) bs))
  unfolding lru_wanted any_of lru_keys flat_map
  wanted-queued [] = refl
  wanted-queued (b ∷ bs) = go (part_filled sectors (dirty b)) (wanted-queued bs)
    where
      go : (t : Bool) → lru_wanted sectors (map dirty bs) ≡ not (is_empty (flat_map (λ b. lru_keys sectors b (dirty b)) bs))
          → (t || lru_wanted sectors (map dirty bs))
          ≡ not (is_empty (cond t (new_key 25 0 (lru_at (fragmentation (dirty b) sectors) b) [] ∷ []) [] ++ flat_map (λ b. lru_keys sectors b (dirty b)) bs))
      go true ih = refl
      go false ih = ih

module _ (v : Volume) (ps : List Placed) (w : Walked) where
  -- field 70 names it where a key is queued and it does not exist
  pub lru-root : (place_batch v ps w).roots ≡ roots_if (not (is_empty (place_batch v ps w).trees.lru) && root_missing v.head.roots 0) 10
  unfolding place_batch
  lru-root = ap (λ t. roots_if (t && root_missing v.head.roots 0) 10) (wanted-queued v.head.bucket_sectors (dirty_in ps) w.taken)

-- ---- it exists once the placement is applied
root-set : (roots : ℕ) → root_missing (set_roots (roots_if (root_missing roots 0) 10) roots) 0 ≡ false
unfolding set_roots root_missing
root-set roots = go (root_missing roots 0) refl
  where
    go : (t : Bool) → root_missing roots 0 ≡ t → root_missing (set_roots (roots_if t 10) roots) 0 ≡ false
    go true e =
        let z : roots / 2 ^ 0 % 2 ≡ 0 = eqb-true _ _ e in
        rw e (ne_eqb ((roots + 1) / 2 ^ 0 % 2) 0 (λ x. omega arith))
    go false e = e

module _ (v : Volume) (ps : List Placed) (w : Walked) where
  root-made : is_empty (place_batch v ps w).trees.lru ≡ false → root_missing (apply_batch (place_batch v ps w) v).head.roots 0 ≡ false
  unfolding apply_batch with_roots
  root-made h = rw (lru-root v ps w, h) (root-set v.head.roots)

-- over bytes: of an accepted placement that queues an LRU key, once its change is applied
pub lru-root-exists : (s : List ℕ) (room apply_room : ℕ) → Bytes s → (place s room).number ≡ 0
    → any_of (λ b. not (is_empty b.trees.lru)) (changes_of (place s room).written) ≡ true
    → (apply (without_requests s) (place s room).written apply_room).number ≡ 0
    → root_missing (read_volume (apply (without_requests s) (place s room).written apply_room).written).head.roots 0 ≡ false
unfolding any_of
lru-root-exists s room apply_room r h q m =
    let c = read_call s in
    let p = placement s room h in
    let b = place_batch (read_volume s) (placed_of c) (walk_of c) in
    let k : (not (is_empty b.trees.lru) || false) ≡ true = rw (place-written s r room h).back at q in
    rw (placed-read s (place s room) _ r p (applied (without_requests s) (place s room).written apply_room m))
    (root-made (read_volume s) (placed_of c) (walk_of c) (not-empty (is_empty b.trees.lru) k))
  where
    not-empty : (t : Bool) → (not t || false) ≡ true → t ≡ false
    not-empty true e = absurd (clash e refl)
    not-empty false e = refl

-- ---- the stored sectors in all
-- where no bucket is part filled, each holds at least its sectors
filled : (B : ℕ) (dirty : Bucket → ℕ) (bs : List Bucket) → lru_wanted B (map dirty bs) ≡ false → All (λ b. B ≤ dirty b) bs
unfolding lru_wanted any_of
filled B dirty [] h = none
filled B dirty (b ∷ bs) h =
    let n = neither (part_filled B (dirty b)) (lru_wanted B (map dirty bs)) h in
    more {a = b} (omega (arith, ltb-false (dirty b) B n.0)) (filled B dirty bs n.1)

module _ (c : CallList) (trees : trees_ok c.volume.trees ≡ true) (ok : verdict (place_tests c) ≡ 0) where
  once : (b : ℕ) → count b (taken_by c) ≤ 1
  once b = ascend-once b (taken_by c) (place-taken-ascend c trees (place-accepted c ok).disjoint)

  -- the dirty counts of the buckets taken add up to it
  dirty-total : total (dirty_in (placed_of c)) (taken_by c) ≡ total (λ (p : Placed). p.piece.stored) (placed_of c)
  unfolding dirty_in
  dirty-total =
      total-swap (λ (b : Bucket) (p : Placed). cond (same_bucket p.bucket b) p.piece.stored 0) (taken_by c) (placed_of c)
      ∙ total-same _ _
      (all-imp
      (λ p h.
      let n : count p.bucket.0 (taken_by c) ≡ 1 = omega (arith, h.named, once p.bucket.0) in
      counted-times p.bucket p.piece.stored (taken_by c) ∙ rw n (one-mul p.piece.stored)) (place-fitted c ok).laid)

  -- none of them passes the bucket
  dirty-most : (b : Bucket) → dirty_in (placed_of c) b ≤ sectors_in c
  unfolding dirty_in
  dirty-most b = omega (arith, (place-fitted c ok).most b.0, mul-le-mul_right (sectors_in c) (once b.0), one-mul (sectors_in c))

  -- so where none is part filled, it is as many buckets
  whole-total : lru_wanted (sectors_in c) (map (dirty_in (placed_of c)) (taken_by c)) ≡ false
      → total (λ (p : Placed). p.piece.stored) (placed_of c) ≡ length (taken_by c) * sectors_in c
  whole-total h =
      sym dirty-total
      ∙ total-same (dirty_in (placed_of c)) (λ b. sectors_in c) (all-imp (λ b l. omega (arith, dirty-most b)) (filled (sectors_in c) (dirty_in (placed_of c)) (taken_by c) h))
      ∙ total-constant (λ (b : Bucket). sectors_in c) (sectors_in c) (λ b. refl) (taken_by c)

  total-wanted : (total (λ (p : Piece). p.stored) c.pieces % sectors_in c ≡ 0 → ⊥) → lru_wanted (sectors_in c) (map (dirty_in (placed_of c)) (taken_by c)) ≡ true
  total-wanted h = go (lru_wanted (sectors_in c) (map (dirty_in (placed_of c)) (taken_by c))) refl
    where
      asked : total (λ (p : Placed). p.piece.stored) (placed_of c) ≡ total (λ (p : Piece). p.stored) c.pieces
      asked = sym (total-map (λ (p : Piece). p.stored) (λ (p : Placed). p.piece) (placed_of c)) ∙ ap (total (λ (p : Piece). p.stored)) (placed-pieces c)

      go : (t : Bool) → lru_wanted (sectors_in c) (map (dirty_in (placed_of c)) (taken_by c)) ≡ t → t ≡ true
      go true e = refl
      go false e = absurd (h (ap (λ (n : ℕ). n % sectors_in c) (sym asked ∙ whole-total e) ∙ mul-mod_left (length (taken_by c)) (sectors_in c)))

-- over bytes: where the stored sectors asked are no multiple of the bucket, an accepted placement queues an LRU key
pub total-queued : (s : List ℕ) (room : ℕ) → Bytes s → (place s room).number ≡ 0
    → (total (λ p. p.stored) (read_call s).pieces % (read_volume s).head.bucket_sectors ≡ 0 → ⊥)
    → any_of (λ b. not (is_empty b.trees.lru)) (changes_of (place s room).written) ≡ true
unfolding any_of place_batch
total-queued s room r h z =
    let c = read_call s in
    let p = placement s room h in
    let w = total-wanted c (call-trees 1 s p.laid_out p.once) p.tests-held z in
    rw (place-written s r room h).back
    (rw (sym (wanted-queued (sectors_in c) (dirty_in (placed_of c)) (taken_by c)), w))
