-- A table that is cut where the places of each tag end: the keys, the reserved buckets and the places of a list that was read.
use mathlib.Core.Path.{◌≡◌, refl, ap, ◌∙◌}
use mathlib.Core.Bool.{Bool}
use mathlib.Core.List.{List, [], ◌∷◌, map}
use Prim.Native.Nat.{ℕ, ◌≤◌, ◌<◌}
use native.Mathlib.Omega.{arith}
use lib.ListN.{take}
use Rattle.wire.specs.Bytes.{Bytes}
use Rattle.wire.specs.Fields.{fields}
use Rattle.wire.specs.Keys.{key_of}
use Rattle.calls.specs.Sorting.{sorted_by}
use Rattle.calls.specs.CallList.{bodies, key_below, call_list_of, sorted_trees, keys_of, reserved_of}
use Rattle.reader.specs.Table.{between, sorted_bodies, request_bodies}
use Rattle.reader.specs.Collected.{body_at, PlacesOf}
use Rattle.reader.specs.KeyHere.{key_here, keys_here}
use Rattle.reader.specs.Listed.{WholeBodies}
use Rattle.reader.specs.ListedBuckets.{ReservedBuckets}
use Rattle.reader.specs.Readings.{list_refusal, TableRead, TableKnown, KeysBetween, KeysRead, BucketsRead, Read}
use Rattle.reader.specs.declared.head.Head.{Head}
use Rattle.reader.specs.declared.table.Ends.{Ends}
use Rattle.reader.specs.declared.listed_keys.Keys.{Keys}
use Rattle.reader.specs.declared.read_list.ReadList.{ReadList}
use Rattle.reader.proofs.SortedBodyLaws.{keys-sorted-are, buckets-sorted-are}
use Rattle.reader.proofs.PlacedLaws.{in_turn, section, all-places, part-placed}
use Rattle.reader.proofs.LocatedLaws.{keys-located, buckets-located}
use Rattle.reader.proofs.ListedKeyLaws.{whole-located, buckets-located-whole, buckets-here}

-- where the fields of each section stand in a table
record SectionsPlaced (s index : List ℕ) (e : Ends) : Type 0 where
  alloc : PlacesOf s 4 (between 0 e.alloc index) (sorted_bodies 4 (fields s))
  lru : PlacesOf s 10 (between e.alloc e.lru index) (sorted_bodies 10 (fields s))
  freespace : PlacesOf s 11 (between e.lru e.freespace index) (sorted_bodies 11 (fields s))
  need_discard : PlacesOf s 12 (between e.freespace e.need_discard index) (sorted_bodies 12 (fields s))
  backpointers : PlacesOf s 13 (between e.need_discard e.backpointers index) (sorted_bodies 13 (fields s))
  gens : PlacesOf s 14 (between e.backpointers e.gens index) (sorted_bodies 14 (fields s))
  reserved : PlacesOf s 64 (between e.gens e.reserved index) (sorted_bodies 64 (fields s))

-- they are of whole keys, and of reserved buckets within the list
pub record SectionsWhole (s index : List ℕ) (e : Ends) : Type 0 where
  pub alloc : KeysBetween s index 0 e.alloc
  pub lru : KeysBetween s index e.alloc e.lru
  pub freespace : KeysBetween s index e.lru e.freespace
  pub need_discard : KeysBetween s index e.freespace e.need_discard
  pub backpointers : KeysBetween s index e.need_discard e.backpointers
  pub gens : KeysBetween s index e.backpointers e.gens
  pub reserved : WholeBodies 4 s (between e.gens e.reserved index)

-- keys and reserved buckets, at the places of a part of a table
abbrev KeysCut : List ℕ → Keys → List ℕ → Type 0
KeysCut s r os = (r.list.now ≡ s) × (r.places.now ≡ os)

abbrev BucketsCut : List ℕ → ReservedBuckets → List ℕ → Type 0
BucketsCut s r os = (r.list.now ≡ s) × (r.places.now ≡ os)

-- the parts of a table that is cut where the places of each tag end
pub record PartsCut (s index : List ℕ) (h : Head) (e : Ends) (r : ReadList) : Type 0 where
  pub list : r.list.now ≡ s
  pub head : r.head ≡ h
  pub places : r.places.now ≡ take e.requests index
  pub alloc : KeysCut s r.alloc (between 0 e.alloc index)
  pub lru : KeysCut s r.lru (between e.alloc e.lru index)
  pub freespace : KeysCut s r.freespace (between e.lru e.freespace index)
  pub need_discard : KeysCut s r.need_discard (between e.freespace e.need_discard index)
  pub backpointers : KeysCut s r.backpointers (between e.need_discard e.backpointers index)
  pub gens : KeysCut s r.gens (between e.backpointers e.gens index)
  pub reserved : BucketsCut s r.reserved (between e.gens e.reserved index)
  pub requests : r.requests.now ≡ between e.reserved e.requests index

keys-bodies : (s os : List ℕ) → keys_here s os ≡ map key_of (map (body_at s) os)
unfolding key_here body_at
keys-bodies s [] = refl
keys-bodies s (o ∷ os) = ap (λ ks. key_here s o ∷ ks) (keys-bodies s os)

-- the keys at the places of a tag's fields are those of its tree
keys-read :
    {s os : List ℕ} {t : ℕ} → t ≤ 14 → (r : Keys) → r.list.now ≡ s → r.places.now ≡ os → PlacesOf s t os (sorted_bodies t (fields s))
    → KeysRead s t (sorted_by key_below (map key_of (bodies t (fields s)))) r
keys-read {s} {os} {t} m r e f p =
    record {
      list = e;
      places = rw f p;
      are = rw (e, f) (keys-bodies s os ∙ ap (map key_of) p.are ∙ keys-sorted-are t m (fields s));
    }

-- the reserved buckets at their places
buckets-read :
    (call : ℕ) (any : Bool) {s os : List ℕ} → 0 ≡ list_refusal call any s → (r : ReservedBuckets) → r.list.now ≡ s → r.places.now ≡ os
    → PlacesOf s 64 os (sorted_bodies 64 (fields s)) → BucketsRead s r
unfolding call_list_of reserved_of
buckets-read call any {s} {os} kept r e f p =
    record {
      list = e;
      places = rw f p;
      are = rw (e, f) (buckets-here (buckets-located call any s kept p) ∙ buckets-sorted-are (fields s));
    }

module _ {s index : List ℕ} {h : Head} {e : Ends} (k : TableKnown s index h e) where
  -- the places of the keys of each tree, and of the reserved buckets
  sections : SectionsPlaced s index e
  sections =
      let t = in_turn k.read in
      let n = k.read.ends in
      let q = k.read.table in
      record {
        alloc = section k.read 0 e.alloc 4 (omega (arith, n.alloc)) (omega arith) q.alloc;
        lru = section k.read e.alloc e.lru 10 n.lru (omega arith) q.lru;
        freespace = section k.read e.lru e.freespace 11 n.freespace (omega arith) q.freespace;
        need_discard = section k.read e.freespace e.need_discard 12 n.need_discard (omega arith) q.need_discard;
        backpointers = section k.read e.need_discard e.backpointers 13 n.backpointers (omega arith) q.backpointers;
        gens = section k.read e.backpointers e.gens 14 n.gens (omega arith) q.gens;
        reserved = section k.read e.gens e.reserved 64 n.reserved (omega arith) q.reserved;
      }

  keys-between : (from to t : ℕ) → 1 < t → t ≤ 14 → from ≤ to → to ≤ e.requests → PlacesOf s t (between from to index) (sorted_bodies t (fields s)) → KeysBetween s index from to
  keys-between from to t l m up low p =
      record { up = up; within = omega (arith, low, k.read.ends.within); whole = whole-located (keys-located k.call k.any s k.kept l m p) }

  -- they are of whole keys
  pub sections-whole : SectionsWhole s index e
  sections-whole =
      let t = in_turn k.read in
      record {
        alloc = keys-between 0 e.alloc 4 (omega arith) (omega arith) (omega arith) (omega arith) sections.alloc;
        lru = keys-between e.alloc e.lru 10 (omega arith) (omega arith) t.lru (omega arith) sections.lru;
        freespace = keys-between e.lru e.freespace 11 (omega arith) (omega arith) t.freespace (omega arith) sections.freespace;
        need_discard = keys-between e.freespace e.need_discard 12 (omega arith) (omega arith) t.need_discard (omega arith) sections.need_discard;
        backpointers = keys-between e.need_discard e.backpointers 13 (omega arith) (omega arith) t.backpointers (omega arith) sections.backpointers;
        gens = keys-between e.backpointers e.gens 14 (omega arith) (omega arith) t.gens (omega arith) sections.gens;
        reserved = buckets-located-whole (buckets-located k.call k.any s k.kept sections.reserved);
      }

  -- the list, cut into its parts
  pub cut-read : (call : ℕ) → TableRead call s index h e → Bytes s → (r : ReadList) → PartsCut s index h e r → Read call r
  unfolding call_list_of sorted_trees keys_of
  cut-read call q bytes r p =
      let n = q.ends in
      record {
        bytes = rw p.list bytes;
        head = rw (p.list, p.head) q.head;
        alloc = rw p.list (keys-read (omega arith) r.alloc p.alloc.0 p.alloc.1 sections.alloc);
        lru = rw p.list (keys-read (omega arith) r.lru p.lru.0 p.lru.1 sections.lru);
        freespace = rw p.list (keys-read (omega arith) r.freespace p.freespace.0 p.freespace.1 sections.freespace);
        need_discard = rw p.list (keys-read (omega arith) r.need_discard p.need_discard.0 p.need_discard.1 sections.need_discard);
        backpointers = rw p.list (keys-read (omega arith) r.backpointers p.backpointers.0 p.backpointers.1 sections.backpointers);
        gens = rw p.list (keys-read (omega arith) r.gens p.gens.0 p.gens.1 sections.gens);
        reserved = rw p.list (buckets-read k.call k.any k.kept r.reserved p.reserved.0 p.reserved.1 sections.reserved);
        requests = rw (p.list, p.requests) (part-placed index e.reserved e.requests (request_bodies call (fields s)) n.requests n.within q.table.requests);
        places = rw (p.places, p.alloc.1, p.lru.1, p.freespace.1, p.need_discard.1, p.backpointers.1, p.gens.1, p.reserved.1, p.requests) (all-places q);
      }
