-- Lists of buckets, and what a queue with one key for each bucket of a list leaves.
use mathlib.Core.Path.{◌≡◌, refl, ap, sym, ◌∙◌}
use mathlib.Core.Bool.{Bool, true, false, ◌&&◌, ◌||◌, cond, and-false, not, and-true, or-true, and_comm}
use mathlib.Core.List.{List, [], ◌∷◌, map}
use mathlib.Core.Option.{Option}
use Prim.Native.Nat.{ℕ, suc, ◌+◌, ◌*◌, ◌≤◌, ◌<◌}
use native.Mathlib.Omega.{arith}
use native.Mathlib.Nat.{zero-add, suc-mul}
use lib.ListN.{length}
use lib.Dec.{ltb}
use borrow.Author.Tests.{eqb-true, eqb-false, lt-ltb, ltb-true, ltb-false, eq-eqb}
use Rattle.wire.specs.Keys.{Key}
use Rattle.wire.specs.Order.{cmp}
use Rattle.wire.specs.Kinds.{same_bucket, bucket_below}
use Rattle.wire.specs.Positions.{alloc_at}
use Rattle.wire.specs.declared.kinds.Bucket.{Bucket}
use Rattle.wire.specs.Bytes.{All, none as nothing, more}
use Rattle.wire.proofs.OrderLaws.{pos-cmp}
use Rattle.calls.specs.Lists.{all_of, any_of, those, total, one}
use Rattle.calls.specs.Trees.{on_eq}
use Rattle.calls.specs.Freespace.{is_in}
use Rattle.calls.specs.Buckets.{insert_bucket, insert_buckets, remove_bucket, remove_buckets}
use Rattle.calls.proofs.lists.BoolLaws.{clash, or_swap, or_same, or-shift, cond_same, or_some, not-or}
use Rattle.calls.proofs.trees.TreeLaws.{op_of, last_op, on_eq-ne, same-offset}
use Rattle.calls.proofs.history.View.{bucket}

-- ---- lists of buckets
pub same-path : (a b : Bucket) → same_bucket a b ≡ true → a ≡ b
same-path a b e = ap bucket (eqb-true a.0 b.0 e)

pub is_in-insert : (n b : Bucket) (l : List Bucket) → is_in (insert_bucket n l) b ≡ (same_bucket n b || is_in l b)
unfolding is_in any_of insert_bucket
is_in-insert n b [] = refl
is_in-insert n b (c ∷ cs) = go (bucket_below n c) (same_bucket n c) refl (is_in-insert n b cs)
  where
    go : (t u : Bool) → same_bucket n c ≡ u → is_in (insert_bucket n cs) b ≡ (same_bucket n b || is_in cs b)
        → is_in (cond t (n ∷ c ∷ cs) (cond u (c ∷ cs) (c ∷ insert_bucket n cs))) b ≡ (same_bucket n b || (same_bucket c b || is_in cs b))
    go true u e ih = refl
    go false true e ih = rw (same-path n c e) (or_same (same_bucket c b) (is_in cs b))
    go false false e ih = rw ih (or_swap (same_bucket c b) (same_bucket n b) (is_in cs b))

pub is_in-inserts : (ns l : List Bucket) (b : Bucket) → is_in (insert_buckets ns l) b ≡ (is_in ns b || is_in l b)
unfolding is_in any_of insert_buckets
is_in-inserts [] l b = refl
is_in-inserts (n ∷ ns) l b =
    is_in-inserts ns (insert_bucket n l) b ∙ rw (is_in-insert n b l) (or-shift (is_in ns b) (same_bucket n b) (is_in l b))

pub is_in-those : (t : Bucket → Bool) (l : List Bucket) (b : Bucket) → is_in (those t l) b ≡ (t b && is_in l b)
unfolding is_in any_of those
is_in-those t [] b = sym (and-false (t b))
is_in-those t (c ∷ cs) b = go (t c) refl (same_bucket c b) refl (is_in-those t cs b)
  where
    go : (u : Bool) → t c ≡ u → (e : Bool) → same_bucket c b ≡ e → is_in (those t cs) b ≡ (t b && is_in cs b)
        → is_in (cond u (c ∷ those t cs) (those t cs)) b ≡ (t b && (e || is_in cs b))
    go true q true d ih = let r : t b ≡ true = rw (← same-path c b d) q in rw (r, d)
    go true q false d ih = rw d ih
    go false q true d ih = let r : t b ≡ false = rw (← same-path c b d) q in rw (ih, r)
    go false q false d ih = ih

-- what holds of each bucket of a list
in-more : (t : Bool) {u : Bool} → u ≡ true → (t || u) ≡ true
in-more true m = refl
in-more false m = m

pub map-in : (f g : Bucket → ℕ) (bs : List Bucket) → ((b : Bucket) → is_in bs b ≡ true → f b ≡ g b) → map f bs ≡ map g bs
unfolding is_in any_of
map-in f g [] h = refl
map-in f g (b ∷ bs) h = λ x. h b (rw (eq-eqb b.0 b.0 refl)) x ∷ map-in f g bs (λ c m. h c (in-more (same_bucket b c) m)) x

pub all_in : (t : Bucket → Bool) (bs : List Bucket) → ((b : Bucket) → is_in bs b ≡ true → t b ≡ true) → all_of t bs ≡ true
unfolding is_in any_of all_of
all_in t [] h = refl
all_in t (b ∷ bs) h = rw (h b (rw (eq-eqb b.0 b.0 refl))) (all_in t bs (λ c m. h c (in-more (same_bucket b c) m)))

same-sym : (a b : Bucket) → same_bucket a b ≡ same_bucket b a
same-sym a b = go (same_bucket a b) refl (same_bucket b a) refl
  where
    go : (t : Bool) → same_bucket a b ≡ t → (u : Bool) → same_bucket b a ≡ u → t ≡ u
    go true d true e = refl
    go true d false e = absurd (eqb-false b.0 a.0 e (sym (eqb-true a.0 b.0 d)))
    go false d true e = absurd (eqb-false a.0 b.0 d (sym (eqb-true b.0 a.0 e)))
    go false d false e = refl

in_without : (b c : Bucket) (l : List Bucket) → is_in (remove_bucket b l) c ≡ (is_in l c && not (same_bucket b c))
unfolding remove_bucket
in_without b c l = is_in-those (λ x. not (same_bucket x b)) l c ∙ rw (same-sym c b) (and_comm (not (same_bucket b c)) (is_in l c))

pub in-without-all : (c : Bucket) (bs l : List Bucket) → is_in (remove_buckets bs l) c ≡ (is_in l c && not (is_in bs c))
unfolding is_in any_of remove_buckets
in-without-all c [] l = sym (and-true (is_in l c))
in-without-all c (b ∷ bs) l = in-without-all c bs (remove_bucket b l) ∙ rw (in_without b c l) (not-or (same_bucket b c) (is_in bs c) (is_in l c))

pub in_all : {P : Bucket → Type 0} (bs : List Bucket) → ((b : Bucket) → is_in bs b ≡ true → P b) → All P bs
unfolding is_in any_of
in_all [] h = nothing
in_all (b ∷ bs) h = more (h b (rw (eq-eqb b.0 b.0 refl))) (in_all bs (λ c m. h c (rw m (or-true (same_bucket b c)))))

insert-length : (b : Bucket) (l : List Bucket) → length (insert_bucket b l) ≤ suc (length l)
unfolding insert_bucket
insert-length b [] = omega arith
insert-length b (c ∷ cs) = go (bucket_below b c) (same_bucket b c) (insert-length b cs)
  where
    go : (t u : Bool) → length (insert_bucket b cs) ≤ suc (length cs)
        → length (cond t (b ∷ c ∷ cs) (cond u (c ∷ cs) (c ∷ insert_bucket b cs))) ≤ suc (suc (length cs))
    go true u h = omega arith
    go false true h = omega arith
    go false false h = omega arith

pub inserts-length : (bs l : List Bucket) → length (insert_buckets bs l) ≤ length bs + length l
unfolding insert_buckets
inserts-length [] l = omega arith
inserts-length (b ∷ bs) l = omega (arith, inserts-length bs (insert_bucket b l), insert-length b l)

-- how often b is in a list
abbrev pub count : ℕ → List Bucket → ℕ
count b bs = total (λ (c : Bucket). one (same_bucket c (bucket b))) bs

is_in-count : (b : Bucket) (bs : List Bucket) → is_in bs b ≡ ltb 0 (count b.0 bs)
unfolding is_in any_of total
is_in-count b [] = refl
is_in-count b (c ∷ cs) = or_some (same_bucket c b) (is_in cs b) (count b.0 cs) (is_in-count b cs)

-- so many for each time
pub counted-times : (b : Bucket) (n : ℕ) (bs : List Bucket) → total (λ c. cond (same_bucket b c) n 0) bs ≡ count b.0 bs * n
unfolding total
counted-times b n [] = omega arith
counted-times b n (c ∷ cs) = go (same_bucket b c) (same_bucket c b) (same-sym b c) (counted-times b n cs)
  where
    go : (t u : Bool) → t ≡ u → total (λ c. cond (same_bucket b c) n 0) cs ≡ count b.0 cs * n
        → cond t n 0 + total (λ c. cond (same_bucket b c) n 0) cs ≡ (one u + count b.0 cs) * n
    go true true e ih = omega (arith, ih, suc-mul (count b.0 cs) n)
    go true false e ih = absurd (clash refl e)
    go false true e ih = absurd (clash e refl)
    go false false e ih = simp zero-add ih

module _ (b : Bucket) (ts : List Bucket) where
  pub in-counted : is_in ts b ≡ true → 0 < count b.0 ts
  in-counted e = ltb-true 0 (count b.0 ts) (sym (is_in-count b ts) ∙ e)

  pub out-counted : is_in ts b ≡ false → count b.0 ts ≡ 0
  out-counted e = omega (arith, ltb-false 0 (count b.0 ts) (sym (is_in-count b ts) ∙ e))

  pub counted-in : 0 < count b.0 ts → is_in ts b ≡ true
  counted-in h = is_in-count b ts ∙ lt-ltb 0 (count b.0 ts) h

-- what the alloc tree holds of a bucket, after a key for each of a list
pub after-keys : (f : Bucket → Key) → ((t : Bucket) → (f t).pos ≡ alloc_at t) → (b : Bucket) (ts : List Bucket) (old : Option Key)
    → last_op (alloc_at b) (map f ts) old ≡ cond (is_in ts b) (op_of (f b)) old
unfolding is_in any_of
after-keys f h b [] old = refl
after-keys f h b (t ∷ ts) old =
    after-keys f h b ts (on_eq (cmp (alloc_at b) (f t).pos) (op_of (f t)) old) ∙ rw (ap (cmp (alloc_at b)) (h t)) (go (same_bucket t b) refl)
  where
    go : (e : Bool) → same_bucket t b ≡ e
        → cond (is_in ts b) (op_of (f b)) (on_eq (cmp (alloc_at b) (alloc_at t)) (op_of (f t)) old) ≡ cond (e || is_in ts b) (op_of (f b)) old
    go true d = rw (same-path t b d, pos-cmp.same (alloc_at b)) (cond_same (is_in ts b) (op_of (f b)))
    go false d =
        rw (on_eq-ne (cmp (alloc_at b) (alloc_at t)) (op_of (f t)) old
        (λ q. eqb-false t.0 b.0 d (sym (same-offset (alloc_at b) (alloc_at t) q))))
