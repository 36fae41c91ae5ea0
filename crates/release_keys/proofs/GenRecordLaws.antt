-- Generation records that continue one another.
use mathlib.Core.Path.{◌≡◌, refl, sym, ap, ◌∙◌}
use mathlib.Core.Bool.{Bool, true, false, cond}
use mathlib.Core.List.{List, [], ◌∷◌, ◌++◌, map}
use mathlib.Core.Option.{some}
use Prim.Native.Nat.{ℕ, zero, suc, ◌+◌, ◌/◌, ◌≤◌, ◌<◌}
use native.Mathlib.Omega.{arith}
use lib.ListN.{length, get_or, drop, drop_of_length-le}
use borrow.Author.Tests.{ltb-true}
use Rattle.std.proofs.lemmas.List.{drop-map}
use Rattle.wire.specs.Keys.{Key}
use Rattle.wire.specs.Order.{cmp, pos_same}
use Rattle.wire.specs.Held.{key_in}
use Rattle.wire.specs.Kinds.{bucket_below, bucket_in_range, no_bucket}
use Rattle.wire.specs.Encode.{encode_field, key_field}
use Rattle.wire.specs.Positions.{gens_at, gens_byte}
use Rattle.wire.specs.declared.kinds.Bucket.{Bucket}
use Rattle.wire.specs.declared.bpos.Bpos.{Bpos}
use Rattle.wire.specs.Output.{with_bytes}
use Rattle.wire.specs.declared.output.Output.{Output}
use Rattle.wire.proofs.OrderLaws.{pos-cmp, same-equal}
use Rattle.wire.proofs.OutputLaws.{put-out, drop-next}
use Rattle.wire.proofs.AppendLaws.{with-none, with-with}
use Rattle.format.specs.Gens.{with_gen, no_gens}
use Rattle.calls.specs.Lists.{all_of, in_order}
use Rattle.calls.proofs.lists.AllOfLaws.{all-of-drop, all-of-first}
use Rattle.calls.specs.Generations.{gen_record, gen_key, gen_queued}
use Rattle.calls.specs.Release.{gens_queued}
use Rattle.calls.specs.Trees.{lookup, new_key}
use Rattle.calls.proofs.lists.BoolLaws.{clash, parts}
use Rattle.std.proofs.Common.{Some, None}
use Rattle.std.proofs.Common as std
use Rattle.calls.proofs.trees.TreeLaws.{on_eq-ne}
use Rattle.calls.proofs.release.GensLaws.{key-is}
use Rattle.reader.specs.ListedKeys.{key_listed}
use Rattle.reader.specs.declared.key.ListedKey.{ListedKey}
use Rattle.gens.specs.Records.{record_listed}
use Rattle.change_fields.specs.FieldBytes.{keys_bytes}
use Rattle.release_keys.specs.GenRecords.{continued, next_queued}
use Rattle.release_keys.specs.Emptied.{emptied_row, emptied_buckets}
use Rattle.release_keys.specs.declared.freed_buckets.EmptiedBucket.{EmptiedBucket}
use Rattle.wire.specs.declared.keys.Bkey.{Bkey}
use Rattle.change_fields.proofs.FieldLists.{fields-next, fields-none}

-- ---- ascending buckets
-- of rows that name them
order-at : {A : Type 0} (named : A → Bucket) (xs : List A) (d : A) → in_order bucket_below (map named xs) ≡ true → (i j : ℕ) → i ≤ j → j < length xs
    → (named (get_or xs i d)).0 ≤ (named (get_or xs j d)).0
unfolding in_order
order-at named [] d o i j h l = absurd (omega arith)
order-at named (n ∷ []) d o i j h l = let a : i ≡ 0 = omega arith in let b : j ≡ 0 = omega arith in rw (a, b) (omega arith)
order-at named (n ∷ m ∷ ns) d o zero zero h l = omega arith
order-at named (n ∷ m ∷ ns) d o zero (suc j) h l =
    let p = parts (bucket_below (named n) (named m)) _ o in
    omega (arith, ltb-true (named n).0 (named m).0 p.0, order-at named (m ∷ ns) d p.1 zero j (omega arith) (omega arith))
order-at named (n ∷ m ∷ ns) d o (suc i) zero h l = absurd (omega arith)
order-at named (n ∷ m ∷ ns) d o (suc i) (suc j) h l =
    order-at named (m ∷ ns) d (parts (bucket_below (named n) (named m)) _ o).1 i j (omega arith) (omega arith)

-- ---- a bucket's record in the tree, as it is found
module _ (gens : List Key) (b : Bucket) where
  pub key-new : {found : std.Option ListedKey} → record_listed found ≡ gen_record gens b → found ≡ None → gen_key gens b ≡ new_key 30 0 (gens_at b) no_gens
  unfolding gen_key
  key-new e n = rw (← e, n) refl

  pub key-old : {found : std.Option ListedKey} {k : ListedKey} → record_listed found ≡ gen_record gens b → found ≡ Some k → gen_key gens b ≡ key_listed k
  unfolding gen_key
  key-old e n = rw (← e, n) refl

-- a byte past the end changes nothing
pub generation-past : (b : Bucket) (generation : ℕ) (v : List ℕ) → length v ≤ gens_byte b → with_gen b generation v ≡ v
unfolding with_gen
generation-past b generation v h = put-out (generation ∷ []) v (gens_byte b) h

-- a position is the same as itself
same-self : (p : Bpos) → pos_same p p ≡ true
unfolding pos_same
same-self p = rw (pos-cmp.same p) refl

-- ---- one more record queued
queued-type : (records : List Key) (b : Bucket) (generation : ℕ) → (gen_queued records b generation).type ≡ 30
unfolding gen_queued
queued-type records b generation = (key-is records b).0

queued-at : (records : List Key) (b : Bucket) (generation : ℕ) → (gen_queued records b generation).pos ≡ gens_at b
unfolding gen_queued
queued-at records b generation = (key-is records b).1

module _ (k : Key) (records : List Key) (b : Bucket) (t : k.type ≡ 30) (p : k.pos ≡ gens_at b) (c : Bucket) where
  pub same-record : gens_at c ≡ gens_at b → gen_key (k ∷ records) c ≡ k
  unfolding gen_key gen_record lookup
  same-record e = rw (ap (cmp (gens_at c)) (p ∙ sym e), pos-cmp.same (gens_at c), t)

  pub other-record : ((gens_at c).offset ≡ (gens_at b).offset → ⊥) → gen_key (k ∷ records) c ≡ gen_key records c
  unfolding gen_key gen_record lookup
  other-record n =
      rw (on_eq-ne (cmp (gens_at c) k.pos) (some k) (lookup (gens_at c) records)
      (λ e. n (ap (λ (q : Bpos). q.offset) (pos-cmp.eq-path (gens_at c) k.pos e ∙ p))))

-- ---- the rows
-- a row for an index that none has
abbrev pub no_emptied : EmptiedBucket
no_emptied = record { bucket = no_bucket; generation = 0 }

pub emptied-next : (rows : List EmptiedBucket) (k : ℕ) → k < length rows
    → emptied_buckets (drop k rows) ≡ (get_or rows k no_emptied).bucket ∷ emptied_buckets (drop (k + 1) rows)
emptied-next rows k h = ap emptied_buckets (drop-next no_emptied rows k h)

pub emptied-none : (rows : List EmptiedBucket) (k : ℕ) → length rows ≤ k → emptied_buckets (drop k rows) ≡ []
emptied-none rows k h = ap emptied_buckets (drop_of_length-le rows h)

-- each is within the limit
pub range_at : (rows : List EmptiedBucket) → all_of bucket_in_range (emptied_buckets rows) ≡ true → (k : ℕ) → k < length rows
    → bucket_in_range (get_or rows k no_emptied).bucket ≡ true
range_at rows o k h =
    all-of-first bucket_in_range (all-of-drop bucket_in_range (emptied_buckets rows) k o) (drop-map (λ (e : EmptiedBucket). e.bucket) k rows ∙ emptied-next rows k h)

-- the generation at an index
pub generation-at : (generation_of : Bucket → ℕ) (rows : List EmptiedBucket) (k : ℕ) → k < length rows → rows ≡ map (emptied_row generation_of) (emptied_buckets rows)
    → (get_or rows k no_emptied).generation ≡ generation_of (get_or rows k no_emptied).bucket
generation-at generation_of [] k h e = absurd (omega arith)
generation-at generation_of (n ∷ ns) zero h e = let d : n ≡ emptied_row generation_of n.bucket = cc in ap (λ (x : EmptiedBucket). x.generation) d
generation-at generation_of (n ∷ ns) (suc k) h e = generation-at generation_of ns k (omega arith) (let d : ns ≡ map (emptied_row generation_of) (emptied_buckets ns) = cc in d)

-- ---- the loop
-- the place of the last record queued is not past this offset
abbrev pub Behind : std.Option Bkey → ℕ → Type 0
Behind None n = Unit
Behind (Some last) n = last.head.pos.offset ≤ n

-- a bucket whose record is not the last one queued continues the tree's
apart : (gens : List Key) (last : std.Option Bkey) (c : Bucket) (n : ℕ) → Behind last n → (n ≤ c.0 / 256) → (n ≡ c.0 / 256 → ⊥) → continued gens last c ≡ gen_key gens c
apart gens None c n h l z = refl
apart gens (Some last) c n h l z = go (pos_same last.head.pos (gens_at c)) refl
  where
    go : (t : Bool) → pos_same last.head.pos (gens_at c) ≡ t → cond t (key_in last) (gen_key gens c) ≡ gen_key gens c
    go true e = absurd (z (omega (arith, ap (λ (q : Bpos). q.offset) (same-equal last.head.pos (gens_at c) e))))
    go false e = refl

-- On its way: the rows from index k on are left, and their records continue the last one or the tree's.
pub record Queue (gens : List Key) (generation_of : Bucket → ℕ) (rows : List EmptiedBucket) (before out : Output) (k : ℕ) (last : std.Option Bkey) : Type 0 where
  pub records : List Key
  pub part : with_bytes out (keys_bytes 14 (gens_queued generation_of records (emptied_buckets (drop k rows)))) ≡ with_bytes before (keys_bytes 14 (gens_queued generation_of gens (emptied_buckets rows)))
  pub continues : (j : ℕ) → k ≤ j → j < length rows → gen_key records (get_or rows j no_emptied).bucket ≡ continued gens last (get_or rows j no_emptied).bucket
  pub ahead : (j : ℕ) → k ≤ j → j < length rows → Behind last ((get_or rows j no_emptied).bucket.0 / 256)

pub queue-starts : (gens : List Key) (generation_of : Bucket → ℕ) (rows : List EmptiedBucket) (out : Output) → Queue gens generation_of rows out out 0 None
queue-starts gens generation_of rows out =
    record { records = gens; part = refl; continues = λ j l m. refl; ahead = λ j l m. tt }

queue-next : (generation_of : Bucket → ℕ) (records : List Key) {l : List Bucket} {b : Bucket} {rest : List Bucket} → l ≡ b ∷ rest
    → keys_bytes 14 (gens_queued generation_of records l) ≡ encode_field (key_field 14 (gen_queued records b (generation_of b))) ++ keys_bytes 14 (gens_queued generation_of (gen_queued records b (generation_of b) ∷ records) rest)
unfolding gens_queued
queue-next generation_of records e =
    fields-next (key_field 14) (ap (gens_queued generation_of records) e)

module _ {gens : List Key} {generation_of : Bucket → ℕ} {rows : List EmptiedBucket} {before out : Output} {k : ℕ} {last : std.Option Bkey} (q : Queue gens generation_of rows before out k last)
    (o : in_order bucket_below (emptied_buckets rows) ≡ true) (h : k < length rows) where
  abbrev here : Bucket
  here = (get_or rows k no_emptied).bucket

  -- the key that is queued for the next bucket
  abbrev queued : Key
  queued = gen_queued q.records here (generation_of here)

  queued-is : (generation : ℕ) (next : Bkey) → generation ≡ generation_of here → key_in next ≡ next_queued gens last (record { bucket = here; generation = generation }) → key_in next ≡ queued
  unfolding gen_queued
  queued-is generation next e n = n ∙ rw (q.continues k (omega arith) h, e)

  pub queue-turn : (generation : ℕ) (next : Bkey) {after : Output} → generation ≡ generation_of here
      → key_in next ≡ next_queued gens last (record { bucket = here; generation = generation }) → after ≡ with_bytes out (encode_field (key_field 14 (key_in next)))
      → Queue gens generation_of rows before after (k + 1) (Some next)
  queue-turn generation next {after} e n w =
      let i = queued-is generation next e n in
      let place : next.head.pos ≡ gens_at here = ap (λ (x : Key). x.pos) i ∙ queued-at q.records here (generation_of here) in
      record {
        records = queued ∷ q.records;
        part =
            rw (w, i, with-with)
            (ap (with_bytes out) (sym (queue-next generation_of q.records (emptied-next rows k h))) ∙ q.part);
        continues = λ j l m. go (get_or rows j no_emptied).bucket (q.continues j (omega arith) m) (order-at (λ (x : EmptiedBucket). x.bucket) rows no_emptied o k j (omega arith) m) i place (pos_same next.head.pos (gens_at (get_or rows j no_emptied).bucket)) refl;
        ahead = λ j l m. omega (arith, ap (λ (x : Bpos). x.offset) place, order-at (λ (x : EmptiedBucket). x.bucket) rows no_emptied o k j (omega arith) m);
      }
    where
      -- a later bucket's record continues the one that is queued, or the tree's
      go : (c : Bucket) → gen_key q.records c ≡ continued gens last c → here.0 ≤ c.0 → key_in next ≡ queued → next.head.pos ≡ gens_at here
          → (t : Bool) → pos_same next.head.pos (gens_at c) ≡ t → gen_key (queued ∷ q.records) c ≡ cond t (key_in next) (gen_key gens c)
      go c f l i s true d =
          same-record queued q.records here (queued-type q.records here (generation_of here)) (queued-at q.records here (generation_of here)) c
          (sym (same-equal next.head.pos (gens_at c) d) ∙ s)
          ∙ sym i
      go c f l i s false d =
          let y : (gens_at c).offset ≡ (gens_at here).offset → ⊥ = λ x. clash (same-self (gens_at c)) (sym (ap (λ (z : Bpos). pos_same z (gens_at c)) (s ∙ ap (λ (n : ℕ). record { inode = 0; offset = n; snapshot = 0 }) (sym x))) ∙ d) in
          other-record queued q.records here (queued-type q.records here (generation_of here)) (queued-at q.records here (generation_of here)) c y
          ∙ f
          ∙ apart gens last c (here.0 / 256) (q.ahead k (omega arith) h) (omega arith) (λ x. y (sym x))

pub queue-ends : {gens : List Key} {generation_of : Bucket → ℕ} {rows : List EmptiedBucket} {before out : Output} {k : ℕ} {last : std.Option Bkey} → Queue gens generation_of rows before out k last
    → length rows ≤ k → out ≡ with_bytes before (keys_bytes 14 (gens_queued generation_of gens (emptied_buckets rows)))
unfolding gens_queued
queue-ends {generation_of = generation_of} {rows = rows} {out = out} {k = k} q h =
    sym (with-none out)
    ∙ ap (with_bytes out) (sym (fields-none (key_field 14) (ap (gens_queued generation_of q.records) (emptied-none rows k h))))
    ∙ q.part
