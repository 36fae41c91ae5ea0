-- Laws of the loops over the buckets taken, and of their dirty counts.
use mathlib.Core.Path.{◌≡◌, refl, sym, ap, ◌∙◌}
use mathlib.Core.Bool.{Bool, true, false, cond}
use mathlib.Core.List.{List, [], ◌∷◌}
use Prim.Native.Nat.{ℕ, zero, suc, ◌+◌, ◌*◌, ◌≤◌, ◌<◌}
use native.Mathlib.Omega.{arith}
use lib.ListN.{length, get_or, set, length-set, replicate}
use lib.Seq.{get_or-set_same, get_or-set_other}
use lib.Dec.{eqb}
use borrow.Author.Tests.{eq-eqb, eqb-true}
use Rattle.wire.specs.Kinds.{no_bucket, same_bucket, bucket_below, extent_end}
use Rattle.wire.specs.Positions.{alloc_at}
use Rattle.wire.specs.declared.kinds.Bucket.{Bucket}
use Rattle.wire.specs.declared.kinds.FileSector.{FileSector}
use Rattle.format.specs.AllocV4.{new_alloc}
use Rattle.calls.specs.Lists.{total, in_order}
use Rattle.calls.specs.CallList as lists
use Rattle.calls.specs.Trees.{new_key}
use Rattle.calls.specs.Extents as calls
use Rattle.calls.specs.Extents.{bucket_at, placed_at}
use Rattle.calls.specs.Pieces as layouts
use Rattle.calls.specs.Place.{dirty_in, new_alloc_key, placed_of}
use Rattle.calls.specs.Answers.{read_call, read_volume}
use Rattle.reader.specs.Pieces.{piece_in}
use Rattle.reader.specs.declared.head.Head.{Head}
use Rattle.reader.specs.declared.piece.Piece.{Piece}
use Rattle.next_fit.specs.Fit.{slot_in}
use Rattle.reader.specs.Located.{no_piece}
use Rattle.format.specs.declared.checksums.ChecksumOption.{ChecksumOption}
use Rattle.calls.specs.Clock.{clock_of}
use Rattle.place_keys.proofs.SlotTables.{no_slot}
use Rattle.next_fit.specs.declared.slot.Slot.{Slot}
use Rattle.place_keys.specs.Plan.{Planned, Dirty, placed_from}
use Rattle.calls.proofs.freespace.UpLaws.{ascend-same}
use Rattle.place_keys.proofs.StepLaws.{bucket-at, gen-at, placed-here, pieces-here, slots-here, stored-most, index-low}
use Rattle.place_keys.proofs.WalkLaws.{no_more}

-- the loop that counts the dirty sectors

dirty-next : (p : calls.Placed) (ps : List calls.Placed) (b : Bucket)
    → dirty_in (p ∷ ps) b ≡ cond (same_bucket p.bucket b) p.piece.stored 0 + dirty_in ps b
unfolding dirty_in total
dirty-next p ps b = refl

dirty-none : (b : Bucket) → dirty_in [] b ≡ 0
unfolding dirty_in total
dirty-none b = refl

-- of buckets that ascend the same one stands at one index alone
same-index : (bs : List Bucket) → in_order bucket_below bs ≡ true → (i j : ℕ) → i < length bs → j < length bs
    → same_bucket (bucket_at no_bucket bs i) (bucket_at no_bucket bs j) ≡ true
    → i ≡ j
same-index bs a i j k m e = ascend-same bs a i j k m (rw (bucket-at bs i, bucket-at bs j) e)

-- where the extents end in the file is nothing to the counts
dirty-ends :
    (sectors : ℕ) (gen : Bucket → ℕ) (bucket : ℕ → Bucket) (e f : FileSector) (ps : List lists.Piece) (ss : List layouts.Slot) (b : Bucket)
    → dirty_in (placed_at sectors gen bucket e ps ss) b ≡ dirty_in (placed_at sectors gen bucket f ps ss) b
unfolding placed_at dirty_in total
dirty-ends sectors gen bucket e f [] ss b = refl
dirty-ends sectors gen bucket e f (p ∷ ps) [] b = refl
dirty-ends sectors gen bucket e f (p ∷ ps) (s ∷ ss) b =
    ap (λ (n : ℕ). cond (same_bucket (bucket s.index) b) p.stored 0 + n) (dirty-ends sectors gen bucket (extent_end e p.file) (extent_end f p.file) ps ss b)

-- the pieces from piece i on, for the counts
abbrev from : List ℕ → ℕ → List calls.Placed
from s i = placed_from (read_call s) i (read_volume s).head.base

-- at piece i: each count and what is left for its bucket are all of it
pub record DirtyCounting (s : List ℕ) (buckets : List Bucket) (counts : List ℕ) (i : ℕ) : Type 0 where
  pub long : length buckets ≤ length counts
  pub most : (k : ℕ) → get_or counts k 0 ≤ 128 * i
  pub left : (j : ℕ) → j < length buckets
      → get_or counts j 0 + dirty_in (from s i) (bucket_at no_bucket buckets j) ≡ dirty_in (placed_of (read_call s)) (bucket_at no_bucket buckets j)

-- counts that are 0
pub zero-at : (n k : ℕ) → ◌≡◌ {A = ℕ} (get_or (replicate n 0) k 0) 0
zero-at zero k = refl
zero-at (suc n) zero = refl
zero-at (suc n) (suc k) = zero-at n k

pub counting-first : {s : List ℕ} {buckets : List Bucket} {counts : List ℕ} → length buckets ≤ length counts → ((k : ℕ) → get_or counts k 0 ≡ 0) → DirtyCounting s buckets counts 0
unfolding placed_from placed_of
counting-first l z = record { long = l; most = λ k. omega (arith, z k); left = λ j m. omega (arith, z j) }

module _ {s : List ℕ} {pieces : List lists.Piece} {slots : List Slot} {buckets : List Bucket} {generations : List ℕ} {h : Head} {option : ChecksumOption}
    (plan : Planned s pieces slots buckets generations h option) where
  module _ {counts : List ℕ} {i : ℕ} (q : DirtyCounting s buckets counts i) (l : i < length pieces) (p : Piece) (e : piece_in p ≡ get_or pieces i no_piece)
      (t : Slot) (f : t ≡ get_or slots i no_slot) where
    abbrev v : ℕ
    v = get_or counts t.index 0 + p.stored

    low : t.index < length buckets
    low = index-low plan i l t f

    -- the count of piece i, and of those after it
    from-here : (b : Bucket) → dirty_in (from s i) b ≡ cond (same_bucket (bucket_at no_bucket buckets t.index) b) p.stored 0 + dirty_in (from s (i + 1)) b
    unfolding placed_from
    from-here b =
        ap (λ (ps : List calls.Placed). dirty_in ps b)
        (placed-here (read_call s) i (read_volume s).head.base (piece_in p) (slot_in t) (pieces-here plan i l p e)
        (slots-here plan i l t f) (bucket_at no_bucket buckets t.index) _ _ _
        (ap (λ bs. bucket_at no_bucket bs t.index) (sym plan.taken)) refl refl refl)
        ∙ dirty-next _ _ b
        ∙ ap (λ (n : ℕ). cond (same_bucket (bucket_at no_bucket buckets t.index) b) p.stored 0 + n) (dirty-ends _ _ _ _ (read_volume s).head.base _ _ b)

    left_here : (j : ℕ) → j < length buckets
        → get_or counts j 0 + (cond (same_bucket (bucket_at no_bucket buckets t.index) (bucket_at no_bucket buckets j)) p.stored 0 + dirty_in (from s (i + 1)) (bucket_at no_bucket buckets j))
        ≡ dirty_in (placed_of (read_call s)) (bucket_at no_bucket buckets j)
    left_here j m = ap (λ (n : ℕ). get_or counts j 0 + n) (sym (from-here (bucket_at no_bucket buckets j))) ∙ q.left j m

    pub counting-next : DirtyCounting s buckets (set counts t.index v) (i + 1)
    counting-next =
        record {
          long = omega (arith, q.long, length-set counts t.index v);
          most = λ j. bound j (eqb j t.index) refl;
          left = λ j m. go j m (same_bucket (bucket_at no_bucket buckets t.index) (bucket_at no_bucket buckets j)) refl (left_here j m);
        }
      where
        same : (j : ℕ) → j ≡ t.index → get_or (set counts t.index v) j 0 ≡ v
        same j z = rw z (get_or-set_same counts t.index v 0 (omega (arith, low, q.long)))

        bound : (j : ℕ) (b : Bool) → eqb j t.index ≡ b → get_or (set counts t.index v) j 0 ≤ 128 * (i + 1)
        bound j true b = omega (arith, same j (eqb-true j t.index b), q.most t.index, stored-most plan i l p e)
        bound j false b = omega (arith, get_or-set_other counts t.index j v 0 (λ z. let y : ◌≡◌ {A = Bool} true false = sym (eq-eqb j t.index z) ∙ b in let x : ◌≡◌ {A = ℕ} 0 1 = cc in omega arith), q.most j)

        go : (j : ℕ) → j < length buckets → (b : Bool) → same_bucket (bucket_at no_bucket buckets t.index) (bucket_at no_bucket buckets j) ≡ b
            → get_or counts j 0 + (cond b p.stored 0 + dirty_in (from s (i + 1)) (bucket_at no_bucket buckets j))
            ≡ dirty_in (placed_of (read_call s)) (bucket_at no_bucket buckets j)
            → get_or (set counts t.index v) j 0 + dirty_in (from s (i + 1)) (bucket_at no_bucket buckets j)
            ≡ dirty_in (placed_of (read_call s)) (bucket_at no_bucket buckets j)
        go j m true b w =
            let z : t.index ≡ j = same-index buckets plan.ascend t.index j low m b in
            let y : get_or counts j 0 ≡ get_or counts t.index 0 = ap (λ (x : ℕ). get_or counts x 0) (sym z) in
            omega (arith, same j (sym z), w)
        go j m false b w =
            let d = get_or-set_other counts t.index j v 0
            (λ z. let y : ◌≡◌ {A = Bool} true false = sym (eq-eqb (bucket_at no_bucket buckets t.index).0 (bucket_at no_bucket buckets j).0 (ap (λ (x : ℕ). (bucket_at no_bucket buckets x).0) (sym z))) ∙ b in let x : ◌≡◌ {A = ℕ} 0 1 = cc in omega arith) in
            omega (arith, d, w)

  pub counting-end : {counts : List ℕ} {i : ℕ} → DirtyCounting s buckets counts i → length pieces ≤ i
      → Dirty (placed_of (read_call s)) buckets counts
  counting-end {counts} {i} q l =
      record { long = q.long; at = λ j m. omega (arith, rw (no_more plan i (read_volume s).head.base l, dirty-none) at (q.left j m)) }

  -- the alloc key of the bucket at an index
  pub alloc-key : {ds : List ℕ} {clock : ℕ} (i : ℕ) {b : Bucket} → clock ≡ clock_of (read_volume s).trees.alloc → Dirty (placed_of (read_call s)) buckets ds → i < length buckets
      → b ≡ bucket_at no_bucket buckets i
      → new_key 27 0 (alloc_at b) (new_alloc h.journal (get_or generations i 0) (get_or ds i 0) clock) ≡ new_alloc_key (read_volume s) (placed_of (read_call s)) b
  unfolding new_alloc_key
  alloc-key i t d l e =
      let number : h.journal ≡ (read_volume s).head.journal = ap (λ (x : lists.Head). x.journal) plan.head in
      rw (e, number, t, d.at i l, gen-at plan i l)
