-- The table of the generation records, from the last key to the first.
use mathlib.Core.Path.{◌≡◌, refl, ap, sym, ◌∙◌}
use mathlib.Core.Bool.{Bool, true, false, ◌&&◌, cond}
use mathlib.Core.List.{List, [], ◌∷◌}
use mathlib.Core.Option.{none, some}
use Prim.Native.Nat.{ℕ, ◌/◌, ◌<◌, Ordering}
use native.Mathlib.Omega.{arith}
use lib.Dec.{ltb, eqb}
use lib.ListN.{length, get_or, set, replicate, length-set, length-replicate, get_or-replicate}
use lib.Seq.{get_or-set_same, get_or-set_other}
use Rattle.std.proofs.Common.{◌++◌, append_assoc}
use Rattle.std.specs.List.{push}
use borrow.Author.Tests.{eqb-true, eqb-false, ne_eqb, ltb-true, ltb-false}
use Rattle.wire.specs.Keys.{Key}
use Rattle.wire.specs.Order.{cmp}
use Rattle.wire.specs.Positions.{gens_at}
use Rattle.wire.specs.declared.bpos.Bpos.{Bpos}
use Rattle.wire.specs.declared.kinds.Bucket.{Bucket}
use Rattle.wire.proofs.OrderLaws.{pos-cmp, mk-eq}
use Rattle.calls.specs.Trees.{on_eq, lookup}
use Rattle.calls.specs.Generations.{of_type30, gen_record}
use Rattle.reader.specs.KeyHere.{key_here, Whole}
use Rattle.wire.specs.Kinds.{bucket_in_range}
use Rattle.gens.specs.Records.{record_noted, record_at, record_place, RecordsFound}

-- no key yet
pub noting-start : (s table : List ℕ) → table ≡ replicate 256 0 → RecordsFound s [] table
unfolding gen_record lookup
noting-start s table e =
    let z : (o : ℕ) → o < 256 → get_or table o 0 ≡ 0 = λ o h. ap (λ (t : List ℕ). get_or t o 0) e ∙ get_or-replicate {A = ℕ} 256 o 0 0 h in
    record {
      stand = record { count = ap length e ∙ length-replicate {A = ℕ} 256 0; whole = λ o h l. absurd (omega (arith, l, z o h)) };
      is = λ b h. ap (λ (n : ℕ). record_at s (record_place n)) (z (b.0 / 256) (omega (arith, ltb-true b.0 65536 h)));
    }

-- a key that no bucket's record is
record_same : (k : Key) (ks : List Key) (b : Bucket) → (cmp (gens_at b) k.pos ≡ Ordering.eq → ⊥) → gen_record ks b ≡ gen_record (k ∷ ks) b
unfolding gen_record lookup
record_same k ks b n = go (cmp (gens_at b) k.pos) refl
  where
    go : (o : Ordering) → cmp (gens_at b) k.pos ≡ o → of_type30 (lookup (gens_at b) ks) ≡ of_type30 (on_eq o (some k) (lookup (gens_at b) ks))
    go Ordering.lt e = refl
    go Ordering.eq e = absurd (n e)
    go Ordering.gt e = refl

record-here : (k : Key) (ks : List Key) (b : Bucket) → cmp (gens_at b) k.pos ≡ Ordering.eq → cond (eqb k.type 30) (some k) none ≡ gen_record (k ∷ ks) b
unfolding gen_record lookup
record-here k ks b e = rw e

-- a position by its parts
at-gens : (b : Bucket) (k : Key) → b.0 / 256 ≡ k.pos.offset → k.pos.inode ≡ 0 → k.pos.snapshot ≡ 0 → cmp (gens_at b) k.pos ≡ Ordering.eq
unfolding cmp
at-gens b k o i z = rw (mk-eq 0 k.pos.inode (sym i), mk-eq (b.0 / 256) k.pos.offset o, mk-eq 0 k.pos.snapshot (sym z))

-- one key more, before the others
module _ (s : List ℕ) (at : ℕ) (w : Whole s at) (ks : List Key) (table : List ℕ) (n : RecordsFound s ks table) where
  abbrev k : Key
  k = key_here s at

  -- the entry that is stored
  abbrev entry : ℕ
  entry = cond (eqb k.type 30) at 0

  entry-is : record_at s (record_place entry) ≡ cond (eqb k.type 30) (some k) none
  entry-is = go (eqb k.type 30)
    where
      go : (t : Bool) → record_at s (record_place (cond t at 0)) ≡ cond t (some (key_here s at)) none
      go true = rw (ne_eqb at 0 (λ z. omega (arith, w.after)))
      go false = refl

  entry_whole : 0 < entry → Whole s entry
  entry_whole = go (eqb k.type 30)
    where
      go : (t : Bool) → 0 < cond t at 0 → Whole s (cond t at 0)
      go true l = w
      go false l = absurd (omega arith)

  kept : ((b : Bucket) → bucket_in_range b ≡ true → cmp (gens_at b) k.pos ≡ Ordering.eq → ⊥) → RecordsFound s (k ∷ ks) table
  kept h =
      record { stand = n.stand; is = λ b l. n.is b l ∙ record_same k ks b (h b l) }

  stored : k.pos.inode ≡ 0 → k.pos.snapshot ≡ 0 → k.pos.offset < 256 → RecordsFound s (k ∷ ks) (set table k.pos.offset entry)
  stored i z o =
      record {
        stand =
            record {
              count = length-set table k.pos.offset entry ∙ n.stand.count;
              whole = λ j h. at-index j h (eqb j k.pos.offset) refl;
            };
        is = λ b h. of-bucket b h (eqb (b.0 / 256) k.pos.offset) refl;
      }
    where
      inside : k.pos.offset < length table
      inside = omega (arith, n.stand.count)

      same : get_or (set table k.pos.offset entry) k.pos.offset 0 ≡ entry
      same = get_or-set_same table k.pos.offset entry 0 inside

      at-index : (j : ℕ) → j < 256 → (t : Bool) → eqb j k.pos.offset ≡ t
          → 0 < get_or (set table k.pos.offset entry) j 0 → Whole s (get_or (set table k.pos.offset entry) j 0)
      at-index j h true e = rw (eqb-true j k.pos.offset e, same) entry_whole
      at-index j h false e =
          rw (get_or-set_other table k.pos.offset j entry 0 (eqb-false j k.pos.offset e)) (n.stand.whole j h)

      of-bucket : (b : Bucket) → bucket_in_range b ≡ true → (t : Bool) → eqb (b.0 / 256) k.pos.offset ≡ t
          → record_at s (record_place (get_or (set table k.pos.offset entry) (b.0 / 256) 0)) ≡ gen_record (k ∷ ks) b
      of-bucket b h true e =
          let q = eqb-true (b.0 / 256) k.pos.offset e in
          ap (λ (m : ℕ). record_at s (record_place m)) (ap (λ (x : ℕ). get_or (set table k.pos.offset entry) x 0) q ∙ same) ∙ entry-is
          ∙ record-here k ks b (at-gens b k q i z)
      of-bucket b h false e =
          let d = eqb-false (b.0 / 256) k.pos.offset e in
          ap (λ (m : ℕ). record_at s (record_place m)) (get_or-set_other table k.pos.offset (b.0 / 256) entry 0 d) ∙ n.is b h
          ∙ record_same k ks b (λ c. d (ap (λ (p : Bpos). p.offset) (pos-cmp.eq-path (gens_at b) k.pos c)))

  pub noting-on : (next : List ℕ) → next ≡ record_noted at k table → RecordsFound s (k ∷ ks) next
  unfolding record_noted
  noting-on next e = rw e (go (eqb k.pos.inode 0) refl (eqb k.pos.snapshot 0) refl (ltb k.pos.offset 256) refl)
    where
      go : (t : Bool) → eqb k.pos.inode 0 ≡ t → (u : Bool) → eqb k.pos.snapshot 0 ≡ u → (v : Bool) → ltb k.pos.offset 256 ≡ v
          → RecordsFound s (k ∷ ks) (cond (t && (u && v)) (set table k.pos.offset entry) table)
      go false f u g v h = kept (λ b l c. eqb-false k.pos.inode 0 f (sym (ap (λ (p : Bpos). p.inode) (pos-cmp.eq-path (gens_at b) k.pos c))))
      go true f false g v h = kept (λ b l c. eqb-false k.pos.snapshot 0 g (sym (ap (λ (p : Bpos). p.snapshot) (pos-cmp.eq-path (gens_at b) k.pos c))))
      go true f true g false h =
          kept (λ b l c. omega (arith, ltb-true b.0 65536 l, ltb-false k.pos.offset 256 h, ap (λ (p : Bpos). p.offset) (pos-cmp.eq-path (gens_at b) k.pos c)))
      go true f true g true h = stored (eqb-true k.pos.inode 0 f) (eqb-true k.pos.snapshot 0 g) (ltb-true k.pos.offset 256 h)

-- the last of the places that are left
pub last-left : (left noted : List ℕ) (at : ℕ) {rest places : List ℕ} → rest ≡ push left at → rest ++ noted ≡ places → left ++ (at ∷ noted) ≡ places
last-left left noted at e h = sym (append_assoc left (at ∷ []) noted) ∙ ap (λ (r : List ℕ). r ++ noted) (sym e) ∙ h
