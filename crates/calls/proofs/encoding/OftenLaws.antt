-- Lists in which every field stands as often: they are read as the same trees and the same reserved buckets, where none stands twice.
use mathlib.Core.Path.{◌≡◌, refl, ap, sym, ◌∙◌}
use mathlib.Core.Bool.{Bool, true, false, not, cond, false≢true}
use mathlib.Core.List.{List, [], ◌∷◌, map}
use Prim.Native.Nat.{ℕ, ◌+◌}
use native.Mathlib.Omega.{arith}
use native.Mathlib.Nat.{zero-add}
use lib.Dec.{eqb}
use lib.ListN.{length}
use borrow.Author.Tests.{eqb-true, eqb-false, eq-eqb, ne_eqb}
use Rattle.wire.specs.Fields.{Field}
use Rattle.wire.specs.Keys.{key_of}
use Rattle.wire.specs.Kinds.{bucket_read, bucket_below}
use Rattle.wire.specs.Bytes.{All, none, more}
use Rattle.calls.specs.Lists.{those, in_order, total, one, count}
use Rattle.calls.specs.Sorting.{Weak, Equality, sorted_by, twice}
use Rattle.calls.specs.SameFields.{same_bytes, same_field, AsOften}
use Rattle.calls.specs.CallList.{head_of, Volume, bodies, first_body, keys_of, sorted_trees, reserved_of, call_list_of, all_trees, keys_ascend, none_twice}
use Rattle.calls.proofs.lists.AllLaws.{all-each}
use Rattle.calls.proofs.lists.BoolLaws.{both, parts}
use Rattle.calls.proofs.lists.OneSort.{one-sort, one-element}
use Rattle.calls.proofs.lists.SortLaws.{map-sorted}
use Rattle.calls.proofs.lists.TwiceLaws.{twice-ascends, twice-map}
use Rattle.calls.proofs.lists.WeakLaws.{weak-by}
use Rattle.calls.proofs.trees.KeyOrder.{key-weak, bucket-weak}
use Rattle.calls.proofs.trees.SixTrees.{tested-each}
use Rattle.calls.proofs.encoding.Blocks.{field, bodies-cons}
use Rattle.calls.proofs.encoding.TreeFields.{tree_tags}

-- the tests are of equality

bytes_whole : (b : List ℕ) → same_bytes b b ≡ true
unfolding same_bytes
bytes_whole [] = refl
bytes_whole (x ∷ b) = both (eq-eqb x x refl) (bytes_whole b)

bytes-sound : (a b : List ℕ) → same_bytes a b ≡ true → a ≡ b
unfolding same_bytes
bytes-sound [] [] h = refl
bytes-sound [] (y ∷ b) h = absurd (false≢true h)
bytes-sound (x ∷ a) [] h = absurd (false≢true h)
bytes-sound (x ∷ a) (y ∷ b) h =
    let p = parts (eqb x y) (same_bytes a b) h in
    let d = eqb-true x y p.0 in
    let e = bytes-sound a b p.1 in λ i. d i ∷ e i

pub bytes-equality : Equality same_bytes
bytes-equality = record { whole = bytes_whole; sound = bytes-sound }

field-sound : (f g : Field) → same_field f g ≡ true → f ≡ g
unfolding same_field
field-sound f g h =
    let p = parts (eqb f.tag g.tag) (same_bytes f.body g.body) h in
    let d = eqb-true f.tag g.tag p.0 in
    let e = bytes-sound f.body g.body p.1 in λ i. record { tag = d i; body = e i }

pub field-equality : Equality same_field
unfolding same_field
field-equality = record { whole = λ f. both (eq-eqb f.tag f.tag refl) (bytes_whole f.body); sound = field-sound }

-- by tag

-- the bodies with a tag stand in both lists as often
abbrev pub BodiesOften : ℕ → List Field → List Field → Type 0
BodiesOften t fs gs = (b : List ℕ) → count (same_bytes b) (bodies t fs) ≡ count (same_bytes b) (bodies t gs)

-- a field stands as often as its body among those with its tag
count-bodies : (t : ℕ) (b : List ℕ) (fs : List Field) → count (same_field (field t b)) fs ≡ count (same_bytes b) (bodies t fs)
unfolding total bodies those same_field
count-bodies t b [] = refl
count-bodies t b (f ∷ fs) = rw (bodies-cons t f fs) (go (eqb f.tag t) refl (count-bodies t b fs))
  where
    go : (u : Bool) → eqb f.tag t ≡ u → count (same_field (field t b)) fs ≡ count (same_bytes b) (bodies t fs)
        → one (same_field (field t b) f) + count (same_field (field t b)) fs
        ≡ count (same_bytes b) (cond u (f.body ∷ bodies t fs) (bodies t fs))
    go true e ih = rw (eq-eqb t f.tag (sym (eqb-true f.tag t e)), ih)
    go false e ih = rw (ne_eqb t f.tag (λ z. eqb-false f.tag t e (sym z)), zero-add) ih

-- so the bodies with each tag stand as often
pub often-bodies : (fs gs : List Field) → AsOften fs gs → (t : ℕ) → BodiesOften t fs gs
often-bodies fs gs h t b = sym (count-bodies t b fs) ∙ h (field t b) ∙ count-bodies t b gs

-- sorted by what is read of the bodies, of which none stands twice
module _ {A : Type 0} (read : List ℕ → A) {less : A → A → Bool} (w : Weak less) where
  pub one-reading : (bs cs : List (List ℕ)) → in_order less (sorted_by less (map read bs)) ≡ true
      → ((b : List ℕ) → count (same_bytes b) bs ≡ count (same_bytes b) cs)
      → sorted_by less (map read bs) ≡ sorted_by less (map read cs)
  one-reading bs cs h c =
      sym (map-sorted read less bs) ∙ ap (map read) (one-sort (weak-by read w) bytes-equality bs cs once c) ∙ map-sorted read less cs
    where
      once : twice (λ a b. less (read a) (read b)) bs ≡ false
      once = twice-map read less bs ∙ twice-ascends w (map read bs) ∙ ap not h

-- a body that stands alone
pub one-body : (bs cs : List (List ℕ)) → length bs ≡ 1 → ((b : List ℕ) → count (same_bytes b) bs ≡ count (same_bytes b) cs) → bs ≡ cs
one-body [] cs e c = absurd (omega arith)
one-body (b ∷ []) cs e c = one-element bytes-equality b cs c
one-body (b ∷ d ∷ bs) cs e c = absurd (omega arith)

-- the trees, and the reserved buckets
module _ (fs gs : List Field) where
  -- the trees: refusal 22 of the first list is enough
  pub often-trees : All (λ t. BodiesOften t fs gs) tree_tags → all_trees keys_ascend (sorted_trees (keys_of fs)) ≡ true
      → sorted_trees (keys_of fs) ≡ sorted_trees (keys_of gs)
  unfolding sorted_trees keys_of
  often-trees (more a (more b (more c (more d (more e (more f none)))))) o =
      let up = tested-each keys_ascend (sorted_trees (keys_of fs)) o in
      λ i.
      record {
        alloc = one-reading key_of key-weak (bodies 4 fs) (bodies 4 gs) up.alloc a i;
        lru = one-reading key_of key-weak (bodies 10 fs) (bodies 10 gs) up.lru b i;
        freespace = one-reading key_of key-weak (bodies 11 fs) (bodies 11 gs) up.freespace c i;
        need_discard = one-reading key_of key-weak (bodies 12 fs) (bodies 12 gs) up.need_discard d i;
        backpointers = one-reading key_of key-weak (bodies 13 fs) (bodies 13 gs) up.backpointers e i;
        gens = one-reading key_of key-weak (bodies 14 fs) (bodies 14 gs) up.gens f i;
      }

  pub often-reserved : BodiesOften 64 fs gs → in_order bucket_below (reserved_of fs) ≡ true → reserved_of fs ≡ reserved_of gs
  unfolding reserved_of
  often-reserved h o = one-reading bucket_read bucket-weak (bodies 64 fs) (bodies 64 gs) o h

  -- the whole volume, where field 1 stands once in the first list
  pub often-volume : AsOften fs gs → length (bodies 1 fs) ≡ 1 → none_twice (call_list_of fs).volume ≡ true
      → (call_list_of fs).volume ≡ (call_list_of gs).volume
  unfolding call_list_of none_twice
  often-volume h n o =
      let v : Volume = (call_list_of fs).volume in
      let p = parts (all_trees keys_ascend v.trees) (in_order bucket_below v.reserved) o in
      let head = one-body (bodies 1 fs) (bodies 1 gs) n (often-bodies fs gs h 1) in
      let trees = often-trees (all-each (λ t. often-bodies fs gs h t) tree_tags) p.0 in
      let reserved = often-reserved (often-bodies fs gs h 64) p.1 in
      λ i. record { head = head_of (first_body (head i)); trees = trees i; reserved = reserved i }
