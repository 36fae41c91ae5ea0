-- The answer to a discard: the keys that the reader gives are those of the definition, and its tests in their order.
use Prim.Native.Nat.{ℕ, ◌≤◌, ◌<◌}
use mathlib.Core.Path.{◌≡◌, refl, sym, ap, ◌∙◌, subst}
use mathlib.Core.Bool.{true, not, ◌||◌}
use Rattle.std.specs.Int.NonZero.{non_zero_u32_get}
use Rattle.std.specs.Option.{ok_or}
use Rattle.std.specs.Result.{result_ok}
use Rattle.std.specs.declared.num.NonZeroU32.{NonZeroU32}
use Rattle.std.proofs.Common.{Some, Option, Result, Ok, Err, MatchOption}
use Rattle.std.proofs.lemmas.Option.{MatchOption-at_some, MatchOption-at_none}
use Rattle.reader.specs.declared.refusal.Refusal.{Refusal}
use mathlib.Core.List.{List, [], ◌∷◌, map}
use native.Mathlib.Omega.{arith}
use lib.Dec.{eqb}
use lib.ListN.{length, length-map}
use borrow.Author.Tests.{eq-eqb, ne_eqb, leb-true}
use Rattle.wire.specs.Bytes.{All}
use Rattle.wire.specs.Keys.{Key}
use Rattle.wire.specs.Kinds.{bucket_in_range}
use Rattle.wire.specs.Positions.{bucket_in}
use Rattle.calls.specs.Lists.{all_of}
use Rattle.calls.specs.CallList.{Trees}
use Rattle.calls.specs.Limits.{is_set, at_inode0, few_keys, counts_ok, buckets_ok, volume_within}
use Rattle.calls.specs.ChangeList.{change_bytes}
use Rattle.calls.specs.Discard.{is_discarded, discarded_keys, chunks, discard_batch, discard_batches}
use Rattle.calls.specs.Refusals.{test}
use Rattle.calls.specs.Answers.{answer, read_call, read_volume, discard}
use Rattle.calls.proofs.lists.BoolLaws.{parts, or-then}
use Rattle.calls.proofs.answers.AnswerLaws.{discard-is}
use Rattle.calls.proofs.answers.OutcomeLaws.{answer-next, answer-stops}
use Rattle.calls.proofs.encoding.KeyFitsLaws.{list-within}
use Rattle.calls.proofs.lists.AllLaws.{all-nth, all-imp, test-all}
use Rattle.reader.specs.Located.{no_key}
use Rattle.reader.specs.ListedKeys.{keys_listed}
use Rattle.reader.specs.Readings.{call_refusal, ReadAs}
use Rattle.reader.specs.declared.read_list.ReadList.{ReadList}
use Rattle.reader.proofs.PartsLaws.{passed, read-on, read-refused}
use Rattle.reader.specs.KeyHere.{key_here}
use Rattle.need_discard.specs.Kept.{AllocKept, NeedKept, DiscardedKept}
use Rattle.need_discard.specs.Chosen.{need_trees, discarded_from}
use Rattle.discard.specs.Emitted.{batches_from, changes_from}
use Rattle.need_discard.proofs.ChosenLaws.{discarded-kept, discarded-few}
use Rattle.discard.specs.Given.{DiscardGiven}
use Rattle.discard.specs.Shown.{DiscardShown}

-- what the limits show of keys
alloc-kept : (ks : List Key) → all_of (λ k. not (at_inode0 k) || bucket_in_range (bucket_in k.pos)) ks ≡ true → All AllocKept ks
alloc-kept ks h = all-imp (λ k t. record { below = λ z. or-then (at_inode0 k) _ t (eq-eqb _ 0 z) }) (test-all _ ks h)

needs-kept : (ks : List Key) → all_of (λ k. not (is_set k) || bucket_in_range (bucket_in k.pos)) ks ≡ true → All NeedKept ks
needs-kept ks h = all-imp (λ k t. record { below = λ z. or-then (is_set k) _ t (eq-eqb _ 25 z) }) (test-all _ ks h)

-- what the reader shows, as the parts of a discard want it
pub record Found (r : ReadList) : Type 0 where
  pub allocs : All AllocKept (keys_listed r.alloc)
  pub waits : All NeedKept (keys_listed r.need_discard)
  pub few_allocs : length r.alloc.places.now ≤ 4096
  pub few_waits : length r.need_discard.places.now ≤ 4096

pub ready-found : {r : ReadList} → DiscardGiven r → Found r
unfolding volume_within counts_ok few_keys buckets_ok
ready-found {r} q =
    let v = read_volume r.list.now in
    let t = v.trees in
    let a = parts (counts_ok t) _ q.within in
    let b = parts (buckets_ok t) _ a.1 in
    let c = parts (all_of (λ k. not (at_inode0 k) || bucket_in_range (bucket_in k.pos)) t.alloc) _ b.0 in
    let d = parts (all_of (λ k. not (is_set k) || bucket_in_range (bucket_in k.pos)) t.need_discard) _ c.1 in
    let e = parts (few_keys t.alloc) _ a.0 in
    let f = parts (few_keys t.lru) _ e.1 in
    let g = parts (few_keys t.freespace) _ f.1 in
    let h = parts (few_keys t.need_discard) _ g.1 in
    let m : length (keys_listed r.alloc) ≡ length r.alloc.places.now = length-map r.alloc.places.now (key_here r.alloc.list.now) in
    let n : length (keys_listed r.need_discard) ≡ length r.need_discard.places.now = length-map r.need_discard.places.now (key_here r.need_discard.list.now) in
    record {
      allocs = rw q.allocs (alloc-kept t.alloc c.0);
      waits = rw q.needs (needs-kept t.need_discard d.0);
      few_allocs = omega (arith, m, ap length q.allocs, leb-true (length t.alloc) 4096 e.0);
      few_waits = omega (arith, n, ap length q.needs, leb-true (length t.need_discard) 4096 h.0);
    }

-- trees with the same need-discard keys discard the same
module _ (t : Trees) (needs : List Key) (e : t.need_discard ≡ needs) where
  same-choice : is_discarded t ≡ is_discarded (need_trees needs)
  unfolding is_discarded
  same-choice = let p : (k : Key) → is_discarded t k ≡ is_discarded (need_trees needs) k = λ k. rw e in λ i k. p k i

  same-batch : discard_batch t ≡ discard_batch (need_trees needs)
  unfolding discard_batch
  same-batch = let p : (ks : List Key) → discard_batch t ks ≡ discard_batch (need_trees needs) ks = λ ks. rw e in λ i ks. p ks i

  keys-chosen : (alloc : List Key) → t.alloc ≡ alloc → discarded_keys t ≡ discarded_from needs alloc
  unfolding discarded_keys
  keys-chosen alloc f = rw (same-choice, f) refl

  batches-are : (alloc : List Key) (size : ℕ) → t.alloc ≡ alloc
      → map (discard_batch t) (chunks (length (discarded_keys t)) size (discarded_keys t)) ≡ batches_from needs size (discarded_from needs alloc)
  batches-are alloc size f = rw (keys-chosen alloc f, same-batch) refl

pub changes-are : {r : ReadList} → DiscardGiven r
    → changes_from (keys_listed r.need_discard) r.head.batch (discarded_from (keys_listed r.need_discard) (keys_listed r.alloc)) ≡ change_bytes (discard_batches (read_volume r.list.now))
unfolding discard_batches
changes-are {r} q =
    let v = read_volume r.list.now in
    let b : r.head.batch ≡ v.head.batch = ap (λ h. h.batch) q.headed in
    ap change_bytes (rw b (sym (batches-are v.trees (keys_listed r.need_discard) (sym q.needs) (keys_listed r.alloc) v.head.batch (sym q.allocs))))

-- the answer of the definition: the tests of the reader, then 20, then 21
module _ (s : List ℕ) (room : ℕ) where
  abbrev batch20 : ℕ
  batch20 = test 20 (not (eqb (read_volume s).head.batch 0))

  abbrev bytes : List ℕ
  bytes = change_bytes (discard_batches (read_volume s))

  pub discard-refused : 0 < call_refusal 3 s → discard s room ≡ record { number = call_refusal 3 s; written = [] }
  discard-refused l = discard-is s room ∙ read-refused 3 s (batch20 ∷ []) bytes room _ refl l

  module _ (h : 0 ≡ call_refusal 3 s) where
    read_past : discard s room ≡ answer (batch20 ∷ []) bytes room
    read_past = discard-is s room ∙ read-on 3 s (batch20 ∷ []) bytes room h

    pub discard-unbatched : (read_volume s).head.batch ≡ 0 → discard s room ≡ record { number = 20; written = [] }
    discard-unbatched b = read_past ∙ rw (eq-eqb (read_volume s).head.batch 0 b) (answer-stops 20 [] bytes room (λ z. omega (arith, z)))

    pub discard-after : ((read_volume s).head.batch ≡ 0 → ⊥) → discard s room ≡ answer [] bytes room
    discard-after b = read_past ∙ answer-next batch20 [] bytes room (rw (ne_eqb (read_volume s).head.batch 0 b))

-- how many keys a batch has, where that is some
module _ {n : ℕ} {o : Option NonZeroU32} {r : Result NonZeroU32 Refusal} (made_of : MatchOption o (n ≡ 0) (λ x. non_zero_u32_get x ≡ n)) (is : o ≡ result_ok r) where
  pub size-some : {x : NonZeroU32} → r ≡ Ok x → (non_zero_u32_get x ≡ n) × (n ≡ 0 → ⊥)
  size-some {x} e =
      let same = MatchOption-at_some (n ≡ 0) (λ y. non_zero_u32_get y ≡ n) x (is ∙ ap result_ok e) made_of in
      (same, λ z. omega (arith, z, same, x.ok))

  pub size-none : {x y : Refusal} → r ≡ ok_or o y → r ≡ Err x → (x ≡ y) × (n ≡ 0)
  size-none {x} {y} v e =
      let none = is ∙ ap result_ok e in
      let same : Err x ≡ ok_or o y = sym e ∙ v in
      let err : x ≡ y = cc in
      (err, MatchOption-at_none (n ≡ 0) (λ a. non_zero_u32_get a ≡ n) none made_of)

-- a list that was read
pub read-ready : {r : ReadList} → ReadAs (Some 3) r → DiscardGiven r
read-ready {r} q =
    let s = r.list.now in
    record {
      headed = q.read.head;
      allocs = q.read.alloc.are;
      needs = q.read.need_discard.are;
      within = (list-within (read_call s) (passed 3 s q.passed).within).0;
    }

-- what is chosen is shown to be discarded
pub chosen-shown : {r : ReadList} {ks : List Key} → DiscardGiven r → ks ≡ discarded_from (keys_listed r.need_discard) (keys_listed r.alloc) → DiscardShown ks
chosen-shown {r} q e =
    let f = ready-found q in
    let needs = keys_listed r.need_discard in
    record {
      at = all-nth no_key (subst (All DiscardedKept) (sym e) (discarded-kept needs f.allocs));
      few = discarded-few needs (keys_listed r.alloc) e (omega (arith, f.few_allocs, length-map r.alloc.places.now (key_here r.alloc.list.now)));
    }
