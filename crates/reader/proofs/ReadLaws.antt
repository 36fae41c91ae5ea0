-- What a list is read as, by what the pass over it found.
use Rattle.std.proofs.Common.{Option, Some, None, unwrap_or, is_none}
use Prim.Native.Nat.{ℕ, ◌≤◌, ◌<◌}
use native.Mathlib.Omega.{arith}
use mathlib.Core.Path.{◌≡◌, refl, sym, ◌∙◌, ap}
use mathlib.Core.List.{List}
use mathlib.Core.Bool.{Bool, true, false, not, cond}
use lib.ListN.{length, take, drop}
use Rattle.calls.specs.CallList as calls
use Rattle.calls.specs.CallList.{head_of, none_twice}
use Rattle.calls.specs.Limits.{list_within}
use Rattle.calls.specs.Answers.{read_call, read_volume}
use Rattle.calls.proofs.lists.BoolLaws.{clash}
use Rattle.reader.specs.CallFields.{head_within}
use Rattle.reader.specs.Heads.{head_in}
use Rattle.reader.specs.Table.{ends_in, rank_end, Ended}
use Rattle.reader.specs.Readings.{list_refusal, TableRead, Read, refusal_of, ReadAs}
use Rattle.reader.specs.Arranged.{Sortable, Arranged, PastAsked}
use Rattle.reader.specs.Surveyed.{Counted, LaidFound}
use Rattle.reader.specs.declared.head.Head.{Head}
use Rattle.reader.specs.declared.survey.Laid.{Laid}
use Rattle.reader.specs.declared.table.Ends.{Ends}
use Rattle.reader.specs.declared.read_list.ReadList.{ReadList}
use Rattle.reader.proofs.LimitLaws.{within-parts}
use Rattle.reader.proofs.BoolLaws.{fails}
use Rattle.reader.proofs.ListRefusalLaws.{RefusedBy, twice-refused, past-refused, accepted}
use Rattle.reader.proofs.VolumeLaws.{call-refusal, volume-refusal}
use Rattle.reader.proofs.LaidLaws.{laid-sectioned, sortable}

-- the head keeps its limits in a list that keeps them
head-kept : (s : List ℕ) → list_within (read_call s) ≡ true → head_within (read_volume s).head ≡ true
unfolding calls.call_list_of
head-kept s h = (within-parts _ h).head

-- the ends are those of any table as long
ended-in : {call : ℕ} {s index index' : List ℕ} {e : Ends} → Ended call s index e → length index' ≡ length index → Ended call s index' e
ended-in n l =
    record {
      alloc = n.alloc;
      lru = n.lru;
      freespace = n.freespace;
      need_discard = n.need_discard;
      backpointers = n.backpointers;
      gens = n.gens;
      reserved = n.reserved;
      requests = n.requests;
      within = omega (arith, n.within);
    }

module _
    {call : ℕ} {any : Bool} {s index : List ℕ} {p : Laid} (found : LaidFound call any s index p) (first : Head)
    (e : head_in first ≡ head_of (take 39 (drop p.head_at s))) where
  head-is : head_in first ≡ (read_volume s).head
  head-is = e ∙ found.first

  pub past-asked : PastAsked s p.ordered
  past-asked = record { sections = laid-sectioned s call any found.laid; once = found.once }

  -- a limit is passed
  past-within : (w : Bool) → head_within (head_in first) ≡ w → cond w p.counts None ≡ None → list_within (read_call s) ≡ false
  past-within true w h = found.past h
  past-within false w h = fails _ _ (head-kept s) (ap head_within (sym head-is) ∙ w)

  pub read_past : (n : ℕ) → cond (head_within (head_in first)) p.counts None ≡ None → n ≡ cond (none_twice (read_volume s)) 3 22 → RefusedBy s call any n
  read_past n h k = rw k (past-refused s call any found.laid (past-within (head_within (head_in first)) refl h))

  -- none is passed
  module _ {c : List ℕ} (h : cond (head_within (head_in first)) p.counts None ≡ Some c) where
    both : (w : Bool) → head_within (head_in first) ≡ w → cond w p.counts None ≡ Some c → (p.counts ≡ Some c) × (head_within (head_in first) ≡ true)
    both true w k = (k, w)
    both false w k = absurd (let y : ◌≡◌ {A = ℕ} 0 1 = cc in omega arith)

    counts-are : p.counts ≡ Some c
    counts-are = (both (head_within (head_in first)) refl h).0

    counted : Counted call s c index
    counted = found.counted c counts-are

    kept-within : list_within (read_call s) ≡ true
    kept-within = counted.within (ap head_within (sym head-is) ∙ (both (head_within (head_in first)) refl h).1)

    pub table_fits : rank_end c 8 ≤ 29696
    table_fits = counted.fits

    pub table-sortable : (e : Ends) → e ≡ ends_in c → Sortable call s index e
    table-sortable e z = rw z (sortable s call any found.laid index (ends_in c) kept-within counted.short counted.ends)

    pub read-ordered : (e : Ends) → e ≡ ends_in c → p.ordered ≡ true → (0 ≡ list_refusal call any s) × TableRead call s index first e
    read-ordered e z o = (
      accepted s call any found.laid (found.once o) kept-within,
      rw z (record { head = head-is; ends = counted.ends; table = found.table o c counts-are }),
    )

    -- with the table that is sorted
    pub read_twice : {e : Ends} {index' : List ℕ} (r : Bool) → r ≡ true → Arranged call s index' e r → RefusedBy s call any 22
    read_twice r q a = twice-refused s call any found.laid (was-false (none_twice (read_volume s)) (sym q ∙ a.double))
      where
        was-false : (b : Bool) → true ≡ not b → b ≡ false
        was-false true x = absurd (clash (sym x) refl)
        was-false false x = refl

    pub read-sorted : (e : Ends) → e ≡ ends_in c → {index' : List ℕ} → length index' ≡ length index → (r : Bool) → r ≡ false → Arranged call s index' e r
        → (0 ≡ list_refusal call any s) × TableRead call s index' first e
    read-sorted e z l r q a = (
      accepted s call any found.laid (was-true (none_twice (read_volume s)) (sym q ∙ a.double)) kept-within,
      record { head = head-is; ends = ended-in {index = index} (rw z counted.ends) l; table = a.table q },
    )
      where
        was-true : (b : Bool) → false ≡ not b → b ≡ true
        was-true true x = refl
        was-true false x = absurd (clash refl (sym x))

-- the refusal of what is asked for
refusal-is : (asked : Option ℕ) (s : List ℕ) → list_refusal (unwrap_or asked 0) (is_none asked) s ≡ refusal_of asked s
refusal-is (Some call) s = call-refusal call s
refusal-is None s = volume-refusal s

-- the table's refusal
pub table-refused : (asked : Option ℕ) (s : List ℕ) (n : ℕ) → RefusedBy s (unwrap_or asked 0) (is_none asked) n → (n ≡ refusal_of asked s) × (0 < refusal_of asked s)
table-refused asked s n a = rw (refusal-is asked s) at a

-- or the list, cut into its parts
pub table-cut : (asked : Option ℕ) {s : List ℕ} {r : ReadList} → 0 ≡ list_refusal (unwrap_or asked 0) (is_none asked) s → r.list.now ≡ s → Read (unwrap_or asked 0) r
    → (r.list.now ≡ s) × ReadAs asked r
table-cut asked {s} z e q = (e, record { passed = rw e (z ∙ refusal-is asked s); read = q })
