-- Next fit: the pieces do not meet, each lies inside a bucket taken, and each bucket taken gets one.
use mathlib.Core.Path.{◌≡◌, refl, sym}
use mathlib.Core.Bool.{Bool, true, false, ◌&&◌, cond}
use mathlib.Core.List.{List, [], ◌∷◌, map, tail}
use Prim.Native.Nat.{ℕ, zero, suc, ◌+◌, ◌*◌, ◌/◌, ◌%◌, ◌≤◌, ◌<◌}
use native.Mathlib.Omega.{arith}
use native.Mathlib.Nat.{suc-mul, div-eq_of_lt-le, mul-add-mod_self_right, mod-le}
use native.Mathlib.Numerals.{add-one}
use lib.Dec.{leb, ltb, eqb}
use lib.ListN.{length, drop}
use borrow.Author.Tests.{lt-ltb, le-ltb, ltb-true, ltb-false, leb-true, leb-false, eq-eqb}
use Rattle.wire.specs.Kinds.{sector_at, extent_end, no_bucket}
use Rattle.wire.specs.declared.kinds.Bucket.{Bucket}
use Rattle.wire.specs.declared.kinds.FileSector.{FileSector}
use Rattle.wire.specs.Bytes.{All, none, more}
use Rattle.calls.specs.Lists.{total, one}
use Rattle.calls.specs.CallList.{Piece}
use Rattle.calls.specs.Pieces.{next_fit, buckets_needed}
use Rattle.calls.specs.Extents.{Placed, bucket_at, placed_at}
use Rattle.calls.proofs.lists.AllLaws.{all-imp}
use Rattle.calls.proofs.lists.BoolLaws.{and-le}
use Rattle.calls.proofs.freespace.BucketLaws.{count}

-- ---- the pieces placed, by the buckets still ahead: the first is the open one
abbrev head_or : List Bucket → Bucket
head_or [] = no_bucket
head_or (b ∷ bs) = b

abbrev placed_in : ℕ → (Bucket → ℕ) → FileSector → ℕ → Bucket → Piece → Placed
placed_in B gen from u b p = record { piece = p; first = sector_at b B u; bucket = b; generation = gen b; end = extent_end from p.file }

abbrev lay : ℕ → (Bucket → ℕ) → FileSector → ℕ → List Bucket → List Piece → List Placed
lay B gen from u ahead [] = []
lay B gen from u ahead (p ∷ ps) =
    let fits = leb (u + p.stored) B in
    let v = cond fits u 0 in
    let rest = cond fits ahead (tail ahead) in
    placed_in B gen from v (head_or rest) p ∷ lay B gen (extent_end from p.file) (v + p.stored) rest ps

-- how many buckets are opened after the open one
abbrev opens : ℕ → ℕ → List Piece → ℕ
opens B u [] = 0
opens B u (p ∷ ps) = let fits = leb (u + p.stored) B in cond fits 0 1 + opens B (cond fits u 0 + p.stored) ps

bucket-ahead : (ts : List Bucket) (i : ℕ) → bucket_at no_bucket ts i ≡ head_or (drop i ts)
unfolding bucket_at
bucket-ahead [] zero = refl
bucket-ahead [] (suc i) = refl
bucket-ahead (t ∷ ts) zero = refl
bucket-ahead (t ∷ ts) (suc i) = bucket-ahead ts i

tail-ahead : (ts : List Bucket) (i : ℕ) → drop (suc i) ts ≡ tail (drop i ts)
tail-ahead [] zero = refl
tail-ahead [] (suc i) = refl
tail-ahead (t ∷ ts) zero = refl
tail-ahead (t ∷ ts) (suc i) = tail-ahead ts i

abbrev stored_of : List Piece → List ℕ
stored_of ps = map (λ (p : Piece). p.stored) ps

-- the slots' pieces are those
placed-lay : (B : ℕ) (gen : Bucket → ℕ) (ts : List Bucket) (from : FileSector) (i u : ℕ) (ps : List Piece)
    → placed_at B gen (bucket_at no_bucket ts) from ps (next_fit B i u (stored_of ps)) ≡ lay B gen from u (drop i ts) ps
unfolding placed_at next_fit
placed-lay B gen ts from i u [] = refl
placed-lay B gen ts from i u (p ∷ ps) = go (leb (u + p.stored) B) (λ j v. placed-lay B gen ts (extent_end from p.file) j v ps)
  where
    go : (f : Bool) → ((j v : ℕ) → placed_at B gen (bucket_at no_bucket ts) (extent_end from p.file) ps (next_fit B j v (stored_of ps)) ≡ lay B gen (extent_end from p.file) v (drop j ts) ps)
        → placed_in B gen from (cond f u 0) (bucket_at no_bucket ts (cond f i (suc i))) p
        ∷ placed_at B gen (bucket_at no_bucket ts) (extent_end from p.file) ps (next_fit B (cond f i (suc i)) (cond f u 0 + p.stored) (stored_of ps))
        ≡ placed_in B gen from (cond f u 0) (head_or (cond f (drop i ts) (tail (drop i ts)))) p
        ∷ lay B gen (extent_end from p.file) (cond f u 0 + p.stored) (cond f (drop i ts) (tail (drop i ts))) ps
    go true ih = rw (ih i (u + p.stored), bucket-ahead ts i)
    go false ih = rw (ih (suc i) (0 + p.stored), bucket-ahead ts (suc i), tail-ahead ts i)

needed-opens : (B i u : ℕ) (p : Piece) (ps : List Piece) → buckets_needed (next_fit B i u (stored_of (p ∷ ps))) ≡ suc (i + opens B u (p ∷ ps))
unfolding next_fit buckets_needed
needed-opens B i u p [] = go (leb (u + p.stored) B)
  where
    go : (f : Bool) → suc (cond f i (suc i)) ≡ suc (i + (cond f 0 1 + 0))
    go true = omega arith
    go false = omega arith
needed-opens B i u p (q ∷ ps) = go (leb (u + p.stored) B) (λ j v. needed-opens B j v q ps)
  where
    go : (f : Bool) → ((j v : ℕ) → buckets_needed (next_fit B j v (stored_of (q ∷ ps))) ≡ suc (j + opens B v (q ∷ ps)))
        → buckets_needed (next_fit B (cond f i (suc i)) (cond f u 0 + p.stored) (stored_of (q ∷ ps))) ≡ suc (i + (cond f 0 1 + opens B (cond f u 0 + p.stored) (q ∷ ps)))
    go true ih = omega (arith, ih i (u + p.stored))
    go false ih = omega (arith, ih (suc i) (0 + p.stored))

-- ---- what holds of them
div-at : (B c x : ℕ) → c * B ≤ x → x < c * B + B → x / B ≡ c
div-at B c x l u =
    let m : (c + 1) * B ≡ c * B + B = rw (add-one, suc-mul) in
    div-eq_of_lt-le {k = c} B l (omega arith)

-- 1 where a piece placed occupies sector x
abbrev pub fills : ℕ → Placed → ℕ
fills x p = one (leb p.first.0 x && ltb x (p.first.0 + p.piece.stored))

-- the piece's sectors where it lies in bucket b, else 0
abbrev pub stored_in : ℕ → Placed → ℕ
stored_in b p = cond (eqb p.bucket.0 b) p.piece.stored 0

-- 1 where x is among the first u sectors of bucket c
abbrev used_at : ℕ → ℕ → ℕ → ℕ → ℕ
used_at B c u x = one (eqb c (x / B) && ltb x (c * B + u))

used_grows : (B c u z x : ℕ) → u + z ≤ B → one (leb (c * B + u) x && ltb x (c * B + u + z)) + used_at B c u x ≤ used_at B c (u + z) x
used_grows B c u z x h = go (leb (c * B + u) x) refl (ltb x (c * B + u + z)) refl
  where
    go : (t : Bool) → leb (c * B + u) x ≡ t → (v : Bool) → ltb x (c * B + u + z) ≡ v → one (t && v) + used_at B c u x ≤ used_at B c (u + z) x
    go true a true b =
        let p = leb-true (c * B + u) x a in
        let q = ltb-true x (c * B + u + z) b in
        rw (eq-eqb c (x / B) (sym (div-at B c x (omega arith) (omega arith))), lt-ltb x (c * B + (u + z)) (omega arith), le-ltb x (c * B + u) p) (omega arith)
    go true a false b =
        let p = leb-true (c * B + u) x a in
        let q = ltb-false x (c * B + u + z) b in
        rw (le-ltb x (c * B + u) p, le-ltb x (c * B + (u + z)) (omega arith)) (omega arith)
    go false a v b =
        let p = leb-false (c * B + u) x a in
        rw (lt-ltb x (c * B + u) p, lt-ltb x (c * B + (u + z)) (omega arith)) (omega arith)

-- a piece inside its bucket, which is one of these
pub record LaidIn (B : ℕ) (gen : Bucket → ℕ) (ts : List Bucket) (p : Placed) : Type 0 where
  pub some : 0 < p.piece.stored
  pub at : p.first.0 / B ≡ p.bucket.0
  pub within : p.first.0 % B + p.piece.stored ≤ B
  pub named : 0 < count p.bucket.0 ts
  pub generation : p.generation ≡ gen p.bucket

abbrev pub Sizes : ℕ → List Piece → Type 0
Sizes B ps = All (λ (p : Piece). (0 < p.stored) × (p.stored ≤ B)) ps

module _ (B : ℕ) (gen : Bucket → ℕ) where
  -- c is open with u of its sectors used, ts are the buckets to open, and n of them are opened
  record Lays (u : ℕ) (c : Bucket) (ts : List Bucket) (some n : ℕ) (ps : List Placed) : Type 0 where
    once : (x : ℕ) → total (fills x) ps + used_at B c.0 u x ≤ count (x / B) (c ∷ ts)
    most : (b : ℕ) → total (stored_in b) ps + cond (eqb c.0 b) u 0 ≤ count b (c ∷ ts) * B
    least : (b : ℕ) → 0 < some → n ≡ length ts → count b (c ∷ ts) ≤ total (stored_in b) ps + cond (eqb c.0 b) u 0
    laid : All (LaidIn B gen (c ∷ ts)) ps

  most-end : (t : Bool) (u n : ℕ) → u ≤ B → cond t u 0 ≤ (one t + n) * B
  most-end true u n h = omega arith
  most-end false u n h = omega arith

  none-used : (t : Bool) → ◌≡◌ {A = ℕ} (cond t 0 0) 0
  none-used true = refl
  none-used false = refl

  least-end : (b u : ℕ) (t : Bool) (ts : List Bucket) → 0 < u → 0 ≡ length ts → one t + count b ts ≤ cond t u 0
  unfolding total
  least-end b u true [] h e = omega arith
  least-end b u false [] h e = omega arith
  least-end b u t (x ∷ ts) h e = absurd (omega arith)

  lays-end : (u : ℕ) (c : Bucket) (ts : List Bucket) → u ≤ B → Lays u c ts (u + 0) 0 []
  unfolding total
  lays-end u c ts h = record {
    once = λ x. omega (arith, and-le (eqb c.0 (x / B)) (ltb x (c.0 * B + u)));
    most = λ b. omega (arith, most-end (eqb c.0 b) u (count b ts) h);
    least = λ b k e. omega (arith, least-end b u (eqb c.0 b) ts (omega arith) e);
    laid = none;
  }

  -- one piece inside a bucket that is named
  laid_one : (from : FileSector) (v : ℕ) (c : Bucket) (ts : List Bucket) (p : Piece) → 0 < p.stored → v + p.stored ≤ B → 0 < count c.0 ts → LaidIn B gen ts (placed_in B gen from v c p)
  laid_one from v c ts p z h n = record {
    some = z;
    at = div-at B c.0 (c.0 * B + v) (omega arith) (omega arith);
    within = omega (arith, mul-add-mod_self_right c.0 B v, mod-le v B);
    named = n;
    generation = refl;
  }

  one-self : (c : Bucket) (ts : List Bucket) → 0 < count c.0 (c ∷ ts)
  unfolding total
  one-self c ts = rw (eq-eqb c.0 c.0 refl) (omega arith)

  module _ (from : FileSector) (u : ℕ) (c : Bucket) (p : Piece) (z : 0 < p.stored) (some n : ℕ) (ps : List Placed) where
    both : (t : Bool) (v : ℕ) → cond t p.stored 0 + cond t v 0 ≡ cond t (v + p.stored) 0
    both true v = omega arith
    both false v = omega arith

    alone : (t : Bool) → cond t p.stored 0 ≡ cond t (0 + p.stored) 0
    alone true = omega arith
    alone false = refl

    lays-fit : (ts : List Bucket) → u + p.stored ≤ B → 0 < some → (m : ℕ) → Lays (u + p.stored) c ts some n ps → Lays u c ts m (0 + n) (placed_in B gen from u c p ∷ ps)
    unfolding total
    lays-fit ts h k m ih = record {
      once = λ x. omega (arith, ih.once x, used_grows B c.0 u p.stored x h);
      most = λ b. omega (arith, ih.most b, both (eqb c.0 b) u);
      least = λ b l e. omega (arith, ih.least b k (omega arith), both (eqb c.0 b) u);
      laid = more (laid_one from u c (c ∷ ts) p z h (one-self c ts)) ih.laid;
    }

    lays-open : (t : Bucket) (ts : List Bucket) → u ≤ B → p.stored ≤ B → 0 < u → 0 < some → (m : ℕ) → Lays (0 + p.stored) t ts some n ps → Lays u c (t ∷ ts) m (1 + n) (placed_in B gen from 0 t p ∷ ps)
    unfolding total
    lays-open t ts h l g k m ih = record {
      once = λ x. omega (arith, ih.once x, used_grows B t.0 0 p.stored x (omega arith), and-le (eqb c.0 (x / B)) (ltb x (c.0 * B + u)));
      most = λ b. omega (arith, ih.most b, alone (eqb t.0 b), most-end (eqb c.0 b) u 0 h);
      least = λ b i e. omega (arith, ih.least b k (omega arith), alone (eqb t.0 b), least-end b u (eqb c.0 b) [] g refl);
      laid =
          more (laid_one from 0 t (c ∷ t ∷ ts) p z (omega arith) (omega (arith, one-self t ts)))
          (all-imp (λ q i. record { some = i.some; at = i.at; within = i.within; named = omega (arith, i.named); generation = i.generation }) ih.laid);
    }

  lays : (from : FileSector) (u : ℕ) (c : Bucket) (ts : List Bucket) (zs : List Piece) → Sizes B zs → u ≤ B → opens B u zs ≤ length ts
      → Lays u c ts (u + length zs) (opens B u zs) (lay B gen from u (c ∷ ts) zs)
  lays from u c ts [] s h o = lays-end u c ts h
  lays from u c ts (p ∷ zs) (more z s) h o = go (leb (u + p.stored) B) refl ts o (λ v d rs l i. lays (extent_end from p.file) v d rs zs s l i)
    where
      go : (f : Bool) → leb (u + p.stored) B ≡ f → (ts : List Bucket) → cond f 0 1 + opens B (cond f u 0 + p.stored) zs ≤ length ts
          → ((v : ℕ) (d : Bucket) (rs : List Bucket) → v ≤ B → opens B v zs ≤ length rs → Lays v d rs (v + length zs) (opens B v zs) (lay B gen (extent_end from p.file) v (d ∷ rs) zs))
          → Lays u c ts (u + suc (length zs)) (cond f 0 1 + opens B (cond f u 0 + p.stored) zs)
          (placed_in B gen from (cond f u 0) (head_or (cond f (c ∷ ts) ts)) p ∷ lay B gen (extent_end from p.file) (cond f u 0 + p.stored) (cond f (c ∷ ts) ts) zs)
      go true e ts o ih =
          let l = leb-true (u + p.stored) B e in
          lays-fit from u c p z.0 (u + p.stored + length zs) (opens B (u + p.stored) zs) (lay B gen (extent_end from p.file) (u + p.stored) (c ∷ ts) zs)
          ts l (omega (arith, z.0)) (u + suc (length zs)) (ih (u + p.stored) c ts l (omega arith))
      go false e [] o ih = absurd (omega arith)
      go false e (t ∷ ts) o ih =
          let l = leb-false (u + p.stored) B e in
          lays-open from u c p z.0 (0 + p.stored + length zs) (opens B (0 + p.stored) zs) (lay B gen (extent_end from p.file) (0 + p.stored) (t ∷ ts) zs)
          t ts h z.1 (omega (arith, z.1)) (omega (arith, z.0)) (u + suc (length zs)) (ih (0 + p.stored) t ts (omega (arith, z.1)) (omega arith))

-- ---- from no bucket open
module _ (B : ℕ) (gen : Bucket → ℕ) where
  -- what holds of pieces that are placed in just these buckets
  pub record Fitted (ts : List Bucket) (ps : List Placed) : Type 0 where
    pub once : (x : ℕ) → total (fills x) ps ≤ count (x / B) ts
    pub most : (b : ℕ) → total (stored_in b) ps ≤ count b ts * B
    pub least : (b : ℕ) → count b ts ≤ total (stored_in b) ps
    pub laid : All (LaidIn B gen ts) ps

  pub fitted : (from : FileSector) (zs : List Piece) (ts : List Bucket) → Sizes B zs → length ts ≡ buckets_needed (next_fit B 0 0 (stored_of zs))
      → Fitted ts (placed_at B gen (bucket_at no_bucket ts) from zs (next_fit B 0 0 (stored_of zs)))
  unfolding placed_at next_fit buckets_needed total
  fitted from [] [] s e = record { once = λ x. omega arith; most = λ b. omega arith; least = λ b. omega arith; laid = none }
  fitted from [] (c ∷ ts) s e = absurd (omega arith)
  fitted from (p ∷ zs) [] s e = absurd (omega (arith, needed-opens B 0 0 p zs))
  fitted from (p ∷ zs) (c ∷ ts) s e =
      let n : opens B 0 (p ∷ zs) ≡ length ts = omega (arith, needed-opens B 0 0 p zs) in
      let l = lays B gen from 0 c ts (p ∷ zs) s (omega arith) (omega arith) in
      rw (placed-lay B gen (c ∷ ts) from 0 0 (p ∷ zs)) (record {
        once = λ x. omega (arith, l.once x);
        most = λ b. omega (arith, l.most b);
        least = λ b. let z : ◌≡◌ {A = ℕ} (cond (eqb c.0 b) 0 0) 0 = none-used B gen (eqb c.0 b) in omega (arith, l.least b (omega arith) n);
        laid = l.laid;
      })
