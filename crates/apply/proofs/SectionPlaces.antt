-- The sections of a volume that was read.
use mathlib.Core.Path.{◌≡◌, refl, sym, ap, ◌∙◌}
use mathlib.Core.Bool.{true}
use lib.Dec.{leb}
use Rattle.std.specs.Borrow.{Bor}
use Rattle.std.specs.Prelude.{Option, IfSome}
use mathlib.Core.List.{List, [], ◌∷◌, map}
use Prim.Native.Nat.{ℕ, zero, suc, ◌<◌}
use native.Mathlib.Omega.{arith}
use lib.ListN.{length, get_or, length-map, get_or-map}
use Rattle.std.proofs.lemmas.List.{get_or_default}
use Rattle.wire.specs.Bytes.{All, none, more}
use Rattle.wire.specs.Fields.{fields}
use Rattle.calls.specs.Lists.{all_of}
use Rattle.calls.proofs.lists.AllLaws.{all-nth}
use Rattle.calls.proofs.lists.BoolLaws.{parts}
use Rattle.calls.proofs.encoding.Blocks.{field}
use Rattle.reader.specs.Collected.{body_at, TagHere, PlacesOf}
use Rattle.reader.specs.Table.{FieldHere, sorted_bodies}
use Rattle.reader.specs.Readings.{Read}
use Rattle.reader.specs.declared.read_list.ReadList.{ReadList}
use Rattle.reader.proofs.PartsLaws.{volume-passed}
use Rattle.reader.proofs.OfferedLaws.{here-length}
use Rattle.sorting.specs.Entries.{sections, is_entry, entry_of}
use Rattle.sorting.specs.EntryPlaces.{size_at, tag_at, entry_from, entries_at, Stands}
use Rattle.reader.specs.CallFields.{key_fits}
use Rattle.merge.specs.Counts.{StandsWithin, section_within}
use Rattle.apply.specs.NextVolume.{Lists, Ready, section_keys, SectionReady, SectionListed, SectionsReady}
use Rattle.apply.specs.declared.lists.Section.{Section}
use Rattle.merge.specs.QueueTable.{QueuePart}
use Rattle.apply.proofs.VolumeLaws.{SectionOf, parted}
use Rattle.apply.proofs.NextLaws.{section-within}

-- a field of section t at its place
module _ {t at : ℕ} {s body : List ℕ} (f : FieldHere s at t body) where
  size : length body ≡ size_at s at
  unfolding size_at
  size = here-length f

  pub stands_at : is_entry t t (length body) ≡ true → Stands t s at
  unfolding size_at tag_at
  stands_at e =
      record {
        kept = record { after = f.after; within = f.within; entry = rw (sym f.tagged, ← here-length f) e };
        tag = sym f.tagged;
      }

  pub entry_at : entry_from t s at ≡ entry_of t (field t body)
  unfolding entry_from size_at tag_at
  entry_at = λ i. entry_of t (field (sym f.tagged i) (sym f.here i))

-- the fields of section t at some places
stands-each :
    {t : ℕ} {s os : List ℕ} → All (TagHere s t) os → All (λ b. is_entry t t (length b) ≡ true) (map (body_at s) os)
    → All (Stands t s) os × (entries_at t s os ≡ map (λ b. entry_of t (field t b)) (map (body_at s) os))
unfolding entries_at
stands-each none none = (none, refl)
stands-each {t} {s} (more {a = o} {s = os} h hs) (more e es) =
    let r = stands-each hs es in
    let k : entries_at t s os ≡ map (λ b. entry_of t (field t b)) (map (body_at s) os) = r.1 in
    (more (stands_at h e) r.0, λ i. entry_at h i ∷ unfold entries_at in (k i))

-- section t stands at these places of a volume
pub record SectionAt (vol : List ℕ) (t : ℕ) (os : List ℕ) : Type 0 where
  pub stands : All (Stands t vol) os
  pub keys : entries_at t vol os ≡ section_keys vol t

-- by the places of its bodies, in order
section-placed : {vol os : List ℕ} {t : ℕ} → SectionOf vol t → PlacesOf vol t os (sorted_bodies t (fields vol)) → SectionAt vol t os
unfolding section_keys
section-placed {vol} {os} {t} s p =
    let r = stands-each p.here (rw p.are s.sized) in
    record { stands = r.0; keys = rw p.are at r.1 }

-- the places of the sections of a list that was read
abbrev pub section_places : ReadList → List (Bor (List ℕ))
section_places r = r.alloc.places ∷ r.lru.places ∷ r.freespace.places ∷ r.need_discard.places ∷ r.backpointers.places ∷ r.gens.places ∷ r.reserved.places ∷ []

-- section number i
pub section-at :
    {r : ReadList} {call : ℕ} → All (SectionOf r.list.now) sections → Read call r → (i : ℕ) → i < 7 → (d : Bor (List ℕ))
    → SectionAt r.list.now (get_or sections i 0) (get_or (section_places r) i d).now
section-at p q zero l d = section-placed (all-nth 0 p 0 (omega arith)) q.alloc.places
section-at p q (suc zero) l d = section-placed (all-nth 0 p 1 (omega arith)) q.lru.places
section-at p q (suc (suc zero)) l d = section-placed (all-nth 0 p 2 (omega arith)) q.freespace.places
section-at p q (suc (suc (suc zero))) l d = section-placed (all-nth 0 p 3 (omega arith)) q.need_discard.places
section-at p q (suc (suc (suc (suc zero)))) l d = section-placed (all-nth 0 p 4 (omega arith)) q.backpointers.places
section-at p q (suc (suc (suc (suc (suc zero))))) l d = section-placed (all-nth 0 p 5 (omega arith)) q.gens.places
section-at p q (suc (suc (suc (suc (suc (suc zero)))))) l d = section-placed (all-nth 0 p 6 (omega arith)) q.reserved.places
section-at p q (suc (suc (suc (suc (suc (suc (suc i))))))) l d = absurd (omega arith)

-- each of a section's keys is within its limits, where the section is
each_within : {t : ℕ} {vol os : List ℕ} → All (Stands t vol) os → all_of (λ k. key_fits t k.type k.pos) (entries_at t vol os) ≡ true → All (StandsWithin t vol) os
unfolding all_of entries_at
each_within none h = none
each_within {t} {vol} (more {a = o} {s = os} p r) h =
    let k = entry_from t vol o in
    let q = parts (key_fits t k.type k.pos) (all_of (λ k. key_fits t k.type k.pos) (entries_at t vol os)) h in
    more (record { stands = p; fits = q.0 }) (each_within r q.1)

-- what the writing of a section asks
section-ready : {vol os : List ℕ} {t : ℕ} → SectionOf vol t → section_within t (section_keys vol t) ≡ true → SectionAt vol t os → SectionReady t vol os
unfolding section_within
section-ready {vol} {t = t} s w p =
    record {
      stands = each_within p.stands (rw p.keys (parts (leb (length (section_keys vol t)) 4096) _ w).1);
      up = rw p.keys s.up;
      all = p.keys;
    }

-- section number i of a volume that was read
keys-ready :
    {r : ReadList} {list : List ℕ} → Ready r list → (i : ℕ) → i < 7 → (d : Bor (List ℕ))
    → SectionReady (get_or sections i 0) r.list.now (get_or (section_places r) i d).now
keys-ready {r} q i l d =
    let vol = r.list.now in
    let p = volume-passed vol q.read.passed in
    let k = parted p.laid p.once in
    section-ready (all-nth 0 k i l) (section-within vol p.within i l) (section-at k q.read.read i l d)

-- all of them, with the parts of a queue
abbrev pub listed_section : ℕ → Bor (List ℕ) → Option (Bor (List ℕ)) → Section
listed_section t keys queue = record { tag = t; keys = keys; queue = queue }

module _ {r : ReadList} {list : List ℕ} (q : Ready r list) where
  abbrev lists : Lists
  lists = record { volume = r.list.now; change = list }

  pub section-listed : {i : ℕ} (l : i < 7) {queue : Option (Bor (List ℕ))} → IfSome queue (λ p. QueuePart (get_or sections i 0) list p.now)
      → SectionListed lists (listed_section (get_or sections i 0) (get_or (section_places r) i r.alloc.places) queue)
  section-listed {i} l p = record { keys = keys-ready q i l r.alloc.places; queue = p }

  -- the part of a queue at an index
  abbrev Part : ℕ → Option (Bor (List ℕ)) → Type 0
  Part i queue = IfSome queue (λ p. QueuePart (get_or sections i 0) list p.now)

  pub sections-ready :
      {q0 q1 q2 q3 q4 q5 q6 : Option (Bor (List ℕ))} → Part 0 q0 → Part 1 q1 → Part 2 q2 → Part 3 q3 → Part 4 q4 → Part 5 q5 → Part 6 q6
      → SectionsReady lists
      (listed_section 4 r.alloc.places q0
      ∷ listed_section 10 r.lru.places q1
      ∷ listed_section 11 r.freespace.places q2
      ∷ listed_section 12 r.need_discard.places q3
      ∷ listed_section 13 r.backpointers.places q4 ∷ listed_section 14 r.gens.places q5 ∷ listed_section 64 r.reserved.places q6 ∷ [])
  sections-ready p0 p1 p2 p3 p4 p5 p6 =
      record {
        tags = refl;
        listed =
            more (section-listed {i = 0} (omega arith) p0)
            (more (section-listed {i = 1} (omega arith) p1)
            (more (section-listed {i = 2} (omega arith) p2)
            (more (section-listed {i = 3} (omega arith) p3)
            (more (section-listed {i = 4} (omega arith) p4) (more (section-listed {i = 5} (omega arith) p5) (more (section-listed {i = 6} (omega arith) p6) none))))));
      }

-- section number i among them
pub section-at-index :
    {n : Lists} {ps : List Section} → SectionsReady n ps → (d : Section) (i : ℕ) → i < 7
    → ((get_or ps i d).tag ≡ get_or sections i 0) × SectionListed n (get_or ps i d)
section-at-index {ps = ps} s d i l =
    let n : length ps ≡ 7 = sym (length-map ps (λ p. p.tag)) ∙ ap length s.tags in
    let e : get_or sections i d.tag ≡ (get_or ps i d).tag = ap (λ (ts : List ℕ). get_or ts i d.tag) (sym s.tags) ∙ get_or-map (λ p. p.tag) ps i d in
    (sym e ∙ get_or_default sections i d.tag 0 (omega arith), all-nth d s.listed i (omega (arith, n)))
