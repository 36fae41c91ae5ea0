-- The joint lookup, one bucket after the other.
use mathlib.Core.Path.{◌≡◌, refl, ap, sym, ◌∙◌}
use mathlib.Core.Bool.{Bool, true, false}
use mathlib.Core.List.{List, [], ◌∷◌, ◌++◌, map, append-nil}
use Prim.Native.Nat.{ℕ, zero, suc, ◌+◌, ◌≤◌, ◌<◌, min}
use lib.Dec.{ltb}
use borrow.Author.Tests.{ltb-true, ltb-false}
use Rattle.std.proofs.lemmas.List.{get_or-map}
use Rattle.reader.specs.Located.{no_key}
use native.Mathlib.Numerals.{add-one}
use native.Mathlib.Omega.{arith}
use lib.ListN.{length, take, drop, get_or, set, length-map, length-set, take-append-drop, drop_of_length-le}
use lib.Seq.{take_all, take_at, take-suc-set, drop-set-lt, drop-drop, append_snoc}
use Rattle.wire.specs.Keys.{Key}
use Rattle.wire.specs.Kinds.{bucket_below, no_bucket}
use Rattle.wire.specs.Positions.{gens_at}
use Rattle.wire.specs.declared.kinds.Bucket.{Bucket}
use Rattle.wire.proofs.OutputLaws.{drop-next}
use Rattle.calls.specs.Lists.{in_order, last_or}
use Rattle.calls.specs.CallList.{keys_ascend}
use Rattle.calls.specs.Generations.{gen_of}
use Rattle.calls.specs.JointLookup.{up_to_past, keys_visited, joint_lookup}
use Rattle.calls.proofs.freespace.UpLaws.{Up, order-up}
use Rattle.calls.proofs.trees.SortedLaws.{order-sorted}
use Rattle.calls.proofs.trees.JointLookupLaws.{record-up, joint-generations}
use Rattle.gens.specs.Joint.{keys_up_to, Looked}
use Rattle.gens.proofs.JointLaws.{up-to-within, up-to-later, visited-past, visited-all}

-- ---- the last of the first i buckets
last-next : (d : Bucket) (bs : List Bucket) (i : ℕ) → i < length bs → last_or d (take (suc i) bs) ≡ get_or bs i no_bucket
unfolding last_or
last-next d [] i h = absurd (omega arith)
last-next d (b ∷ bs) zero h = refl
last-next d (b ∷ bs) (suc i) h = last-next b bs i (omega arith)

-- where they ascend it is not above the next
last-below : (n : ℕ) (d : Bucket) (bs : List Bucket) (i : ℕ) → d.0 ≤ n → Up n bs → i < length bs → (last_or d (take i bs)).0 ≤ (get_or bs i no_bucket).0
unfolding last_or
last-below n d [] i l u h = absurd (omega arith)
last-below n d (b ∷ bs) zero l u h = omega (arith, u.0)
last-below n d (b ∷ bs) (suc i) l u h = last-below (suc b.0) b bs i (omega arith) u.1 (omega arith)

-- the keys visited, by the last bucket
visited-by : (ks : List Key) (bs : List Bucket) → 0 < length bs → length (up_to_past (gens_at (last_or no_bucket bs)) ks) ≡ (joint_lookup ks bs).visited
unfolding joint_lookup keys_visited last_or
visited-by ks [] h = absurd (omega arith)
visited-by ks (b ∷ bs) h = refl

visited-none : (ks : List Key) (bs : List Bucket) → length bs ≡ 0 → (joint_lookup ks bs).visited ≡ 0
unfolding joint_lookup keys_visited
visited-none ks [] h = refl
visited-none ks (b ∷ bs) h = absurd (omega arith)

-- ---- the buckets in a table, which are those that its numbers name
module _ {N : Type 0} (named : N → Bucket) (ns : List N) {bs : List Bucket} (each : bs ≡ map named ns) where
  pub named-count : length bs ≡ length ns
  named-count = ap length each ∙ length-map ns named

  pub named-at : (i : ℕ) {n : N} {b : Bucket} → i < length ns → n ≡ get_or ns i n → b ≡ named n → b ≡ get_or bs i no_bucket
  named-at i {n} h e f = f ∙ ap named e ∙ sym (ap (λ (cs : List Bucket). get_or cs i no_bucket) each ∙ get_or-map named ns i n no_bucket h)

-- ---- the loop
module _ (ks : List Key) (bs : List Bucket) where
  -- how many keys stand up to the record of the last of the first i buckets
  abbrev up_to_last : ℕ → ℕ
  up_to_last i = keys_up_to (gens_at (last_or no_bucket (take i bs))) ks

  -- the first i are looked up, and k keys stand up to the last one's record
  pub record Looking (before after : List ℕ) (k i : ℕ) : Type 0 where
    pub within : i ≤ length bs
    pub long : length after ≡ length before
    pub filled : take i after ++ map (gen_of ks) (drop i bs) ≡ map (gen_of ks) bs
    pub rest : drop i after ≡ drop i before
    pub known : k ≤ up_to_last i
    pub all : 0 < i → k ≡ up_to_last i

  module _ {before after : List ℕ} {k i : ℕ} (l : Looking before after k i) where
    -- no more than all
    pub looking-within : k ≤ length ks
    looking-within = omega (arith, l.known, up-to-within (gens_at (last_or no_bucket (take i bs))) no_key ks)

    -- the next bucket's record stands no earlier
    pub looking-known : {b : Bucket} → b ≡ get_or bs i no_bucket → in_order bucket_below bs ≡ true → i < length bs → k ≤ keys_up_to (gens_at b) ks
    looking-known next o h =
        let below = last-below 0 no_bucket bs i (omega arith) (order-up bs o) h in
        let up = up-to-later (gens_at (last_or no_bucket (take i bs))) (gens_at (get_or bs i no_bucket)) (record-up (last_or no_bucket (take i bs)) (get_or bs i no_bucket) below) ks in
        omega (arith, l.known, up, ap (λ (c : Bucket). keys_up_to (gens_at c) ks) next)

    pub looking-next : {b : Bucket} → b ≡ get_or bs i no_bucket → (m g : ℕ) → i < length bs → length bs ≤ length before → m ≡ keys_up_to (gens_at b) ks
        → g ≡ gen_of ks b
        → Looking before (set after i g) m (i + 1)
    looking-next {b} next m g h r e q =
        let rest_of = map (gen_of ks) (drop (i + 1) bs) in
        let room : i < length after = omega (arith, l.long) in
        let last : last_or no_bucket (take (i + 1) bs) ≡ b = rw add-one (last-next no_bucket bs i h) ∙ sym next in
        let here : m ≡ up_to_last (i + 1) = e ∙ sym (ap (λ (b : Bucket). keys_up_to (gens_at b) ks) last) in
        let w : take (i + 1) (set after i g) ≡ take i after ++ (g ∷ []) = rw add-one (take-suc-set after i g room) in
        record {
          within = omega arith;
          long = length-set after i g ∙ l.long;
          filled =
              ap (λ (a : List ℕ). a ++ rest_of) w ∙ append_snoc (take i after) g rest_of
              ∙ ap (λ (x : ℕ). take i after ++ (x ∷ rest_of)) (q ∙ ap (gen_of ks) next)
              ∙ ap (λ (cs : List Bucket). take i after ++ map (gen_of ks) cs) (sym (drop-next no_bucket bs i h))
              ∙ l.filled;
          rest = drop-set-lt (i + 1) after i g (omega arith) ∙ drop-on;
          known = omega (arith, here);
          all = λ p. here;
        }
      where
        drop-on : drop (i + 1) after ≡ drop (i + 1) before
        drop-on = sym (drop-drop 1 i after) ∙ ap (drop 1) l.rest ∙ drop-drop 1 i before

    -- all are looked up
    module _ (o : in_order bucket_below bs ≡ true) (a : keys_ascend ks ≡ true) (e : length bs ≤ i) where
      looked : {visited : ℕ} → visited ≡ (joint_lookup ks bs).visited → Looked ks bs before after visited
      looked v =
          let front : take i after ≡ map (gen_of ks) bs =
          sym (append-nil (take i after)) ∙ ap (λ (cs : List Bucket). take i after ++ map (gen_of ks) cs) (sym (drop_of_length-le bs {i = i} e)) ∙ l.filled in
          let n : i ≡ length bs = omega (arith, l.within) in
          record {
            output =
                sym (take-append-drop i after) ∙ ap (λ (x : List ℕ). x ++ drop i after) (front ∙ sym (joint-generations ks bs (order-sorted ks a) o))
                ∙ ap (λ (x : List ℕ). (joint_lookup ks bs).generations ++ x) l.rest
                ∙ ap (λ (m : ℕ). (joint_lookup ks bs).generations ++ drop m before) n;
            count = v;
          }

      last-is : 0 < i → k ≡ keys_up_to (gens_at (last_or no_bucket bs)) ks
      last-is h =
          l.all h
          ∙ ap (λ (bs : List Bucket). keys_up_to (gens_at (last_or no_bucket bs)) ks) (take_all i bs e)

      pub looked-none : length bs ≡ 0 → Looked ks bs before after 0
      looked-none z = looked (sym (visited-none ks bs z))

      pub looked-some : {visited : ℕ} → (length bs ≡ 0 → ⊥) → visited ≡ min (length ks) (k + 1) → Looked ks bs before after visited
      looked-some {visited} z v = looked (go (ltb k (length ks)) refl ∙ visited-by ks bs (omega arith))
        where
          q : k ≡ keys_up_to (gens_at (last_or no_bucket bs)) ks
          q = last-is (omega arith)

          go : (t : Bool) → ltb k (length ks) ≡ t → visited ≡ length (up_to_past (gens_at (last_or no_bucket bs)) ks)
          go true h =
              let l = ltb-true k (length ks) h in
              let e : visited ≡ k + 1 = omega arith in
              e ∙ ap (λ (m : ℕ). m + 1) q ∙ visited-past (gens_at (last_or no_bucket bs)) ks (omega (arith, q))
          go false h =
              let l = ltb-false k (length ks) h in
              let m : k ≤ length ks = omega (arith, q, up-to-within (gens_at (last_or no_bucket bs)) no_key ks) in
              let e : visited ≡ k = omega arith in
              e ∙ q ∙ visited-all (gens_at (last_or no_bucket bs)) ks (omega (arith, q))

-- ---- what is left
-- the first bytes of the output are the single lookups'
pub looked-first : {ks : List Key} {bs : List Bucket} {before after : List ℕ} {visited : ℕ} → Looked ks bs before after visited → keys_ascend ks ≡ true
    → in_order bucket_below bs ≡ true
    → take (length bs) after ≡ map (gen_of ks) bs
looked-first {ks} {bs} {before} l a o =
    let e = joint-generations ks bs (order-sorted ks a) o in
    ap (take (length bs)) (l.output ∙ ap (λ (x : List ℕ). x ++ drop (length bs) before) e)
    ∙ take_at (map (gen_of ks) bs) (drop (length bs) before) (length bs) (length-map bs (gen_of ks))
