-- Applying batch by batch is applying each section's whole queue, in the order of the change list.
use mathlib.Core.Path.{◌≡◌, refl, ap, sym, ◌∙◌}
use mathlib.Core.Bool.{Bool, true, false, not, ◌&&◌, ◌||◌, cond, false≢true, and-false}
use mathlib.Core.List.{List, [], ◌∷◌, ◌++◌, map, append_assoc}
use Prim.Native.Nat.{ℕ, ◌+◌, ◌^◌, ◌<◌, compare, Ordering}
use native.Mathlib.Omega.{arith}
use lib.Dec.{eqb}
use lib.ListN.{length}
use borrow.Author.Tests.{eqb-true, eq-eqb, ne_eqb, lt-ltb, le-ltb}
use Rattle.wire.specs.Bytes.{All, none, more}
use Rattle.wire.specs.Numbers.{le}
use Rattle.wire.specs.Fields.{Field, fields, whole}
use Rattle.wire.specs.Keys.{Key, key_of}
use Rattle.wire.specs.Kinds.{bucket_read, same_bucket, bucket_below}
use Rattle.wire.specs.Order.{or_then, cmp}
use Rattle.wire.specs.Positions.{alloc_at}
use Rattle.wire.specs.declared.kinds.Bucket.{Bucket}
use Rattle.wire.proofs.OrderLaws.{use-lt, use-eq, use-gt}
use Rattle.calls.specs.Lists.{all_of, those}
use Rattle.calls.specs.CallList.{Trees, Volume, bodies, keys_of, shaped}
use Rattle.calls.specs.ChangeList.{Batch, into_first, split_batches, change_shapes, field_ok, closed, tags_ascend, change_laid_out, batch_of, changes_of}
use Rattle.calls.specs.Buckets.{insert_bucket, insert_buckets, remove_bucket, remove_buckets}
use Rattle.calls.specs.Trees.{on_eq, insert_at, upsert, remove, step, apply_queue}
use Rattle.calls.specs.Place.{root_missing}
use Rattle.calls.specs.Apply.{apply_trees, root_bit, set_roots, with_roots, apply_batch, apply_batches}
use Rattle.calls.proofs.lists.AllLaws.{all_join, test-all}
use Rattle.calls.proofs.lists.BoolLaws.{parts}
use Rattle.calls.proofs.encoding.Blocks.{field, Ascend, order-ascend, bodies-cons, bodies-none, keeps, shaped_out, shaped-tag}
use Rattle.calls.proofs.encoding.ChangeTrip.{split-all}
use Rattle.sorting.specs.Entries.{bucket_key, is_bucket, is_entry, entry_of, entries}
use Rattle.apply.specs.Roots.{roots_in}

-- lists, one after the other
abbrev pub joined : {A B : Type 0} → (B → List A) → List B → List A
joined h [] = []
joined h (b ∷ bs) = h b ++ joined h bs

joined-map : {A B C : Type 0} (h : C → List A) (g : B → C) (bs : List B) → joined h (map g bs) ≡ joined (λ b. h (g b)) bs
joined-map h g [] = refl
joined-map h g (b ∷ bs) = ap (λ l. h (g b) ++ l) (joined-map h g bs)

joined_same : {A B : Type 0} {h k : B → List A} {bs : List B} → All (λ b. h b ≡ k b) bs → joined h bs ≡ joined k bs
joined_same none = refl
joined_same {h = h} {k = k} (more {a = b} {s = bs} e r) = λ i. e i ++ joined_same r i

each_same : {A B : Type 0} {h k : B → List A} → ((b : B) → h b ≡ k b) → (bs : List B) → joined h bs ≡ joined k bs
each_same e [] = refl
each_same e (b ∷ bs) = λ i. e b i ++ each_same e bs i

-- the fields of a list, and those of its batches
into-joined : {A : Type 0} (e : Field → List A) (f : Field) (bs : List (List Field)) → joined (joined e) (into_first f bs) ≡ e f ++ joined (joined e) bs
into-joined e f [] = append_assoc (e f) [] []
into-joined e f (b ∷ bs) = append_assoc (e f) (joined e b) (joined (joined e) bs)

split-joined : {A : Type 0} (e : Field → List A) → ((f : Field) → f.tag ≡ 76 → e f ≡ []) → (fs : List Field) → joined (joined e) (split_batches fs) ≡ joined e fs
unfolding split_batches
split-joined e h [] = refl
split-joined e h (f ∷ fs) = go (eqb f.tag 76) refl (split-joined e h fs)
  where
    go : (t : Bool) → eqb f.tag 76 ≡ t → joined (joined e) (split_batches fs) ≡ joined e fs
        → joined (joined e) (cond t ([] ∷ split_batches fs) (into_first f (split_batches fs))) ≡ e f ++ joined e fs
    go true q ih = ih ∙ ap (λ l. l ++ joined e fs) (sym (h f (eqb-true f.tag 76 q)))
    go false q ih = into-joined e f (split_batches fs) ∙ ap (λ l. e f ++ l) ih

-- the bodies with a tag
module _ {A : Type 0} (g : List ℕ → A) (t : ℕ) where
  abbrev part : Field → List A
  part f = cond (eqb f.tag t) (g f.body ∷ []) []

  part-bodies : (fs : List Field) → map g (bodies t fs) ≡ joined part fs
  unfolding bodies those
  part-bodies [] = refl
  part-bodies (f ∷ fs) = ap (map g) (bodies-cons t f fs) ∙ go (eqb f.tag t) (part-bodies fs)
    where
      go : (b : Bool) → map g (bodies t fs) ≡ joined part fs
          → map g (cond b (f.body ∷ bodies t fs) (bodies t fs)) ≡ cond b (g f.body ∷ []) [] ++ joined part fs
      go true ih = ap (λ l. g f.body ∷ l) ih
      go false ih = ih

  pub split-bodies : eqb 76 t ≡ false → (fs : List Field) → joined (λ gs. map g (bodies t gs)) (split_batches fs) ≡ map g (bodies t fs)
  split-bodies h fs =
      each_same part-bodies (split_batches fs)
      ∙ split-joined part (λ f e. rw (e, h)) fs
      ∙ sym (part-bodies fs)

-- a section of all batches

queue-append : (p q l : List Key) → apply_queue (p ++ q) l ≡ apply_queue q (apply_queue p l)
unfolding apply_queue
queue-append [] q l = refl
queue-append (k ∷ p) q l = queue-append p q (step k l)

module _
    (of : Batch → List Key) (get : Volume → List Key) (one : (b : Batch) (v : Volume) → get (apply_batch b v) ≡ apply_queue (of b) (get v)) where
  all-batches : (bs : List Batch) (v : Volume) → get (apply_batches bs v) ≡ apply_queue (joined of bs) (get v)
  unfolding apply_batches apply_queue
  all-batches [] v = refl
  all-batches (b ∷ bs) v =
      all-batches bs (apply_batch b v) ∙ ap (apply_queue (joined of bs)) (one b v) ∙ sym (queue-append (of b) (joined of bs) (get v))

  all-changes : (s : List ℕ) (v : Volume) → get (apply_batches (changes_of s) v) ≡ apply_queue (joined (λ gs. of (batch_of gs)) (split_batches (fields s))) (get v)
  unfolding changes_of
  all-changes s v =
      all-batches (map batch_of (split_batches (fields s))) v
      ∙ ap (λ (q : List Key). apply_queue q (get v)) (joined-map of batch_of (split_batches (fields s)))

-- a tree
pub tree-changes :
    (t : ℕ) (of : Trees → List Key) → eqb 76 t ≡ false → ((gs : List Field) → of (keys_of gs) ≡ map key_of (bodies t gs))
    → ((q v : Trees) → of (apply_trees q v) ≡ apply_queue (of q) (of v)) → (s : List ℕ) (v : Volume)
    → of (apply_batches (changes_of s) v).trees ≡ apply_queue (map key_of (bodies t (fields s))) (of v.trees)
unfolding apply_batch batch_of
tree-changes t of n h a s v =
    all-changes (λ b. of b.trees) (λ v. of v.trees) (λ b v. a b.trees v.trees) s v
    ∙ ap (λ (q : List Key). apply_queue q (of v.trees)) (each_same h (split_batches (fields s)) ∙ split-bodies key_of t n (fields s))

-- buckets as keys

bucket-cmp : (a b : Bucket) → cmp (alloc_at a) (alloc_at b) ≡ compare a.0 b.0
unfolding cmp
bucket-cmp a b = go (compare a.0 b.0)
  where
    go : (o : Ordering) → or_then o Ordering.eq ≡ o
    go Ordering.lt = refl
    go Ordering.eq = refl
    go Ordering.gt = refl

abbrev bucket_keys : List Bucket → List Key
bucket_keys bs = map (bucket_key 1) bs

insert_key : (b : Bucket) (l : List Bucket) → bucket_keys (insert_bucket b l) ≡ step (bucket_key 1 b) (bucket_keys l)
unfolding insert_bucket step upsert
insert_key b [] = refl
insert_key b (c ∷ cs) = rw (bucket-cmp b c) (go (compare b.0 c.0) refl (unfold step in (insert_key b cs)))
  where
    go : (o : Ordering) → compare b.0 c.0 ≡ o → bucket_keys (insert_bucket b cs) ≡ upsert (bucket_key 1 b) (bucket_keys cs)
        → bucket_keys (cond (bucket_below b c) (b ∷ c ∷ cs) (cond (same_bucket b c) (c ∷ cs) (c ∷ insert_bucket b cs)))
        ≡ insert_at o (bucket_key 1 b) (bucket_key 1 c) (bucket_keys cs) (upsert (bucket_key 1 b) (bucket_keys cs))
    go Ordering.lt e ih = rw (lt-ltb b.0 c.0 (use-lt b.0 c.0 e))
    go Ordering.eq e ih =
        let z : b.0 ≡ c.0 = use-eq b.0 c.0 e in
        rw (le-ltb b.0 c.0 (omega arith), eq-eqb b.0 c.0 z) (λ i. bucket_key 1 (record { 0 = sym z i }) ∷ bucket_keys cs)
    go Ordering.gt e ih =
        let z : c.0 < b.0 = use-gt b.0 c.0 e in
        rw (le-ltb b.0 c.0 (omega arith), ne_eqb b.0 c.0 (λ w. omega arith)) (ap (λ (r : List Key). bucket_key 1 c ∷ r) ih)

remove_key : (b : Bucket) (l : List Bucket) → bucket_keys (remove_bucket b l) ≡ step (bucket_key 0 b) (bucket_keys l)
unfolding remove_bucket those step remove
remove_key b [] = refl
remove_key b (c ∷ cs) = rw (bucket-cmp b c) (go (compare b.0 c.0) refl (unfold remove_bucket step in (remove_key b cs)))
  where
    go : (o : Ordering) → compare b.0 c.0 ≡ o → bucket_keys (those (λ d. not (same_bucket d b)) cs) ≡ remove (alloc_at b) (bucket_keys cs)
        → bucket_keys (cond (not (same_bucket c b)) (c ∷ those (λ d. not (same_bucket d b)) cs) (those (λ d. not (same_bucket d b)) cs))
        ≡ on_eq o (remove (alloc_at b) (bucket_keys cs)) (bucket_key 1 c ∷ remove (alloc_at b) (bucket_keys cs))
    go Ordering.lt e ih =
        let z = use-lt b.0 c.0 e in
        rw (ne_eqb c.0 b.0 (λ w. omega arith)) (ap (λ (r : List Key). bucket_key 1 c ∷ r) ih)
    go Ordering.eq e ih = rw (eq-eqb c.0 b.0 (sym (use-eq b.0 c.0 e))) ih
    go Ordering.gt e ih =
        let z = use-gt b.0 c.0 e in
        rw (ne_eqb c.0 b.0 (λ w. omega arith)) (ap (λ (r : List Key). bucket_key 1 c ∷ r) ih)

insert-keys : (bs l : List Bucket) → bucket_keys (insert_buckets bs l) ≡ apply_queue (map (bucket_key 1) bs) (bucket_keys l)
unfolding insert_buckets apply_queue
insert-keys [] l = refl
insert-keys (b ∷ bs) l = insert-keys bs (insert_bucket b l) ∙ ap (apply_queue (map (bucket_key 1) bs)) (insert_key b l)

remove-keys : (bs l : List Bucket) → bucket_keys (remove_buckets bs l) ≡ apply_queue (map (bucket_key 0) bs) (bucket_keys l)
unfolding remove_buckets apply_queue
remove-keys [] l = refl
remove-keys (b ∷ bs) l = remove-keys bs (remove_bucket b l) ∙ ap (apply_queue (map (bucket_key 0) bs)) (remove_key b l)

-- a batch's buckets, 71 before 75, are in the order of its fields
abbrev buckets_of : List Field → List Key
buckets_of gs = map (bucket_key 1) (map bucket_read (bodies 71 gs)) ++ map (bucket_key 0) (map bucket_read (bodies 75 gs))

-- a field of a change list is of the reserved buckets where its tag is 71 or 75
bucket-entry : (f : Field) → shaped change_shapes f ≡ true → is_entry 64 f.tag (length f.body) ≡ (eqb f.tag 71 || eqb f.tag 75)
unfolding is_entry is_bucket change_shapes
bucket-entry f s = go (eqb f.tag 71) (eqb f.tag 75) refl refl
  where
    has : (n : ℕ) → f.tag ≡ n → shaped change_shapes (field n f.body) ≡ true
    has n e = ap (λ (m : ℕ). shaped change_shapes (field m f.body)) (sym e) ∙ s

    not-64 : eqb f.tag 64 ≡ false
    not-64 = ne_eqb f.tag 64 (λ e. false≢true (shaped-tag change_shapes (field 64 f.body) (has 64 e)))

    four : (n : ℕ) → f.tag ≡ n → keeps n 4 4 change_shapes ≡ true → eqb (length f.body) 4 ≡ true
    four n e k = let l = shaped_out n 4 4 change_shapes f.body k (has n e) in eq-eqb (length f.body) 4 (omega (arith, l.0, l.1))

    go : (a b : Bool) → eqb f.tag 71 ≡ a → eqb f.tag 75 ≡ b
        → (eqb (length f.body) 4 && (eqb f.tag 64 || (a || b))) ≡ (a || b)
    go true b p q = rw (four 71 (eqb-true f.tag 71 p) refl, not-64)
    go false true p q = rw (four 75 (eqb-true f.tag 75 q) refl, not-64)
    go false false p q = rw (not-64, and-false (eqb (length f.body) 4))

-- one field more, where the batch's other fields have no lower tag
buckets-more : (f : Field) (fs : List Field) → Ascend f.tag fs → shaped change_shapes f ≡ true → buckets_of fs ≡ entries 64 fs → buckets_of (f ∷ fs) ≡ entries 64 (f ∷ fs)
unfolding entries entry_of
buckets-more f fs u s ih = rw (bodies-cons 71 f fs, bodies-cons 75 f fs, bucket-entry f s) (go (eqb f.tag 71) (eqb f.tag 75) refl refl)
  where
    go : (a b : Bool) → eqb f.tag 71 ≡ a → eqb f.tag 75 ≡ b
        → map (bucket_key 1) (map bucket_read (cond a (f.body ∷ bodies 71 fs) (bodies 71 fs)))
        ++ map (bucket_key 0) (map bucket_read (cond b (f.body ∷ bodies 75 fs) (bodies 75 fs)))
        ≡ cond (a || b) (bucket_key (cond (eqb f.tag 75) 0 1) (bucket_read f.body) ∷ entries 64 fs) (entries 64 fs)
    go true true p q = absurd (omega (arith, eqb-true f.tag 71 p, eqb-true f.tag 75 q))
    go true false p q = rw q (ap (λ (l : List Key). bucket_key 1 (bucket_read f.body) ∷ l) ih)
    go false true p q =
        let z : bodies 71 fs ≡ [] = bodies-none 71 f.tag fs (omega (arith, eqb-true f.tag 75 q)) u in
        let h : map (bucket_key 0) (map bucket_read (bodies 75 fs)) ≡ entries 64 fs = rw z at ih in
        rw (q, z) (ap (λ (l : List Key). bucket_key 0 (bucket_read f.body) ∷ l) h)
    go false false p q = ih

batch-buckets : (n : ℕ) {gs : List Field} → Ascend n gs → All (λ f. shaped change_shapes f ≡ true) gs → buckets_of gs ≡ entries 64 gs
unfolding bodies those entries
batch-buckets n u none = refl
batch-buckets n u (more {a = f} {s = fs} s r) = buckets-more f fs u.1 s (batch-buckets f.tag u.1 r)

-- the buckets of all batches
entry-part : Field → List Key
entry-part f = cond (is_entry 64 f.tag (length f.body)) (entry_of 64 f ∷ []) []

entries-joined : (fs : List Field) → entries 64 fs ≡ joined entry-part fs
unfolding entries entry-part
entries-joined [] = refl
entries-joined (f ∷ fs) = go (is_entry 64 f.tag (length f.body)) (entries-joined fs)
  where
    go : (b : Bool) → entries 64 fs ≡ joined entry-part fs
        → cond b (entry_of 64 f ∷ entries 64 fs) (entries 64 fs) ≡ cond b (entry_of 64 f ∷ []) [] ++ joined entry-part fs
    go true ih = ap (λ (l : List Key). entry_of 64 f ∷ l) ih
    go false ih = ih

end-part : (f : Field) → f.tag ≡ 76 → entry-part f ≡ []
unfolding entry-part is_entry is_bucket
end-part f e = rw (e, and-false (eqb (length f.body) 4))

split-buckets : (s : List ℕ) → change_laid_out s ≡ true → joined buckets_of (split_batches (fields s)) ≡ entries 64 (fields s)
unfolding change_laid_out
split-buckets s h =
    let fs : List Field = fields s in
    let a = parts (whole s) _ h in
    let b = parts (all_of (shaped change_shapes) fs) _ a.1 in
    let c = parts (all_of field_ok fs) _ b.1 in
    let d = parts (closed fs) (all_of tags_ascend (split_batches fs)) c.1 in
    joined_same
    (all_join (λ gs u r. batch-buckets 0 (order-ascend gs u) r ∙ entries-joined gs)
    (test-all tags_ascend (split_batches fs) d.1)
    (split-all (test-all (shaped change_shapes) fs b.0)))
    ∙ split-joined entry-part end-part fs
    ∙ sym (entries-joined fs)

pub bucket-changes :
    (s : List ℕ) (v : Volume) → change_laid_out s ≡ true
    → map (bucket_key 1) (apply_batches (changes_of s) v).reserved ≡ apply_queue (entries 64 (fields s)) (map (bucket_key 1) v.reserved)
unfolding apply_batch batch_of
bucket-changes s v h =
    all-changes
    (λ b. map (bucket_key 1) b.taken ++ map (bucket_key 0) b.discarded)
    (λ v. map (bucket_key 1) v.reserved)
    (λ b v.
    remove-keys b.discarded (insert_buckets b.taken v.reserved)
    ∙ ap (apply_queue (map (bucket_key 0) b.discarded)) (insert-keys b.taken v.reserved)
    ∙ sym (queue-append (map (bucket_key 1) b.taken) (map (bucket_key 0) b.discarded) (map (bucket_key 1) v.reserved)))
    s v
    ∙ ap (λ (q : List Key). apply_queue q (map (bucket_key 1) v.reserved)) (split-buckets s h)

-- the roots of all batches

roots-append : (a b : List ℕ) (r : ℕ) → set_roots (a ++ b) r ≡ set_roots b (set_roots a r)
unfolding set_roots
roots-append [] b r = refl
roots-append (id ∷ a) b r = roots-append a b (cond (root_missing r (root_bit id)) (r + 2 ^ root_bit id) r)

head-batches : (bs : List Batch) (v : Volume) → (apply_batches bs v).head ≡ with_roots v.head (set_roots (joined (λ b. b.roots) bs) v.head.roots)
unfolding apply_batches apply_batch with_roots set_roots
head-batches [] v = refl
head-batches (b ∷ bs) v =
    head-batches bs (apply_batch b v)
    ∙ ap (with_roots v.head) (sym (roots-append b.roots (joined (λ b. b.roots) bs) v.head.roots))

pub head-changes : (s : List ℕ) (v : Volume) → (apply_batches (changes_of s) v).head ≡ with_roots v.head (set_roots (roots_in (fields s)) v.head.roots)
unfolding changes_of batch_of roots_in
head-changes s v =
    head-batches (map batch_of (split_batches (fields s))) v
    ∙ ap (λ (ids : List ℕ). with_roots v.head (set_roots ids v.head.roots))
    (joined-map (λ b. b.roots) batch_of (split_batches (fields s)) ∙ split-bodies (le 1) 70 refl (fields s))
