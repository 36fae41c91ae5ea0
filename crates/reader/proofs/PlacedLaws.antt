-- Places of fields and their bodies, by index, and as a part of a table.
use Prim.Native.Nat.{ℕ, suc, ◌+◌, ◌-◌, ◌≤◌, ◌<◌}
use native.Mathlib.Nat.{min-eq_left}
use native.Mathlib.Omega.{arith}
use mathlib.Core.Path.{◌≡◌, refl, sym, ◌∙◌, ap}
use mathlib.Core.List.{List, [], ◌∷◌, ◌++◌}
use Rattle.std.proofs.lemmas.List.{get_or-map}
use lib.ListN.{length, take, drop, get_or, length-map, length-take, length-drop}
use lib.Seq.{get_or-take, get_or-drop, take-add, drop-drop}
use Rattle.wire.specs.Bytes.{none, more}
use Rattle.wire.specs.Fields.{fields}
use Rattle.calls.specs.CallList.{bodies}
use Rattle.calls.proofs.lists.AllLaws.{all-nth}
use Rattle.reader.specs.Table.{FieldHere, Tabled, InTurn, between, sorted_bodies}
use Rattle.reader.specs.Collected.{body_at, TagHere, PlacesOf}
use Rattle.reader.specs.Readings.{TableRead}
use Rattle.reader.specs.declared.head.Head.{Head}
use Rattle.reader.specs.declared.table.Ends.{Ends}
use Rattle.reader.proofs.SortedBodyLaws.{sorted-length}

module _ {s : List ℕ} {t : ℕ} {os : List ℕ} {bs : List (List ℕ)} (p : PlacesOf s t os bs) where
  pub places-length : length os ≡ length bs
  places-length = sym (length-map os (body_at s)) ∙ ap length p.are

  pub place_at : (i : ℕ) → i < length os → FieldHere s (get_or os i 0) t (get_or bs i [])
  place_at i h =
      let e : get_or bs i [] ≡ body_at s (get_or os i 0) = ap (λ (l : List (List ℕ)). get_or l i []) (sym p.are) ∙ get_or-map (body_at s) os i 0 [] h in
      rw e (all-nth 0 p.here i h)

-- as many places as bodies, each of one
placed : {s : List ℕ} {t : ℕ} (os : List ℕ) (bs : List (List ℕ)) → length os ≡ length bs
    → ((i : ℕ) → i < length bs → FieldHere s (get_or os i 0) t (get_or bs i [])) → PlacesOf s t os bs
unfolding body_at
placed [] [] e h = record { here = none; are = refl }
placed [] (b ∷ bs) e h = absurd (omega arith)
placed (o ∷ os) [] e h = absurd (omega arith)
placed {s} {t} (o ∷ os) (b ∷ bs) e h =
    let f = h 0 (omega arith) in
    let p = placed os bs (omega arith) (λ i l. h (suc i) (omega arith)) in
    let here : TagHere s t o = record { after = f.after; tagged = f.tagged; within = f.within; here = refl } in
    record { here = more here p.here; are = λ i. sym f.here i ∷ unfold body_at in (p.are i) }

-- the part of a table from one end to the next
module _ (index : List ℕ) (from to : ℕ) (bs : List (List ℕ)) (e : to ≡ from + length bs) (l : to ≤ length index) where
  between-length : length (between from to index) ≡ length bs
  between-length = simp (length-take, length-drop) (min-eq_left (omega arith) ∙ omega arith)

  pub part-placed : {s : List ℕ} {t : ℕ} → Tabled s index from t bs → PlacesOf s t (between from to index) bs
  part-placed h =
      placed (between from to index) bs between-length (λ i k. rw (get_or-take (to - from) (drop from index) i 0 (omega arith), get_or-drop) (h i k))

-- two parts, one after the other
between-on : (from to next : ℕ) (index : List ℕ) → from ≤ to → to ≤ next → between from to index ++ between to next index ≡ between from next index
between-on from to next index l m =
    let n : next - from ≡ (to - from) + (next - to) = omega arith in
    let k : from + (to - from) ≡ to = omega arith in
    sym (rw (n, take-add (to - from) (next - to) (drop from index), drop-drop (to - from) from index, k))

-- a table that is cut where the places of each tag end
module _ {call : ℕ} {s index : List ℕ} {h : Head} {e : Ends} (q : TableRead call s index h e) where
  pub in_turn : InTurn e (length index)
  in_turn =
      let n = q.ends in
      record {
        lru = omega (arith, n.lru);
        freespace = omega (arith, n.freespace);
        need_discard = omega (arith, n.need_discard);
        backpointers = omega (arith, n.backpointers);
        gens = omega (arith, n.gens);
        reserved = omega (arith, n.reserved);
        requests = omega (arith, n.requests);
        within = n.within;
      }

  -- the bodies of a section
  pub section : (from to t : ℕ) → to ≡ from + length (bodies t (fields s)) → to ≤ length index → Tabled s index from t (sorted_bodies t (fields s))
      → PlacesOf s t (between from to index) (sorted_bodies t (fields s))
  section from to t m l h = part-placed index from to (sorted_bodies t (fields s)) (omega (arith, sorted-length t (fields s))) l h

  -- the places of all, one part after the other
  pub all-places : take e.requests index
      ≡ between 0 e.alloc index ++ (between e.alloc e.lru index ++ (between e.lru e.freespace index ++ (between e.freespace e.need_discard index
      ++ (between e.need_discard e.backpointers index ++ (between e.backpointers e.gens index ++ (between e.gens e.reserved index ++ between e.reserved e.requests index))))))
  all-places =
      let t = in_turn in
      let n : e.requests - 0 ≡ e.requests = omega arith in
      rw (
        between-on e.gens e.reserved e.requests index t.reserved t.requests,
        between-on e.backpointers e.gens e.requests index t.gens (omega arith),
        between-on e.need_discard e.backpointers e.requests index t.backpointers (omega arith),
        between-on e.freespace e.need_discard e.requests index t.need_discard (omega arith),
        between-on e.lru e.freespace e.requests index t.freespace (omega arith),
        between-on e.alloc e.lru e.requests index t.lru (omega arith),
      ) (sym (rw n at (between-on 0 e.alloc e.requests index (omega arith) (omega arith))))
