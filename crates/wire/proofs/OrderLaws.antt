-- Laws of the order of positions.
use mathlib.Core.Path.{◌≡◌, refl, ap, sym}
use mathlib.Core.Bool.{true, false}
use mathlib.Core.Logic.{◌⊎◌, inl, inr, ⊎_elim}
use Prim.Native.Nat.{ℕ, ◌<◌, compare, Ordering}
use native.Mathlib.Omega.{arith}
use lib.Dec.{ltb, eqb, is_le, compare_is_eq}
use borrow.Author.Tests.{leb-true, leb-false, eqb-true, eqb-false, lt-ltb, le-ltb}
use Rattle.std.proofs.lemmas.Bool.Decides.{nat_tests}
use Rattle.wire.specs.Order.{or_then, cmp, is_less, pos_less, pos_same}
use Rattle.wire.specs.declared.bpos.Bpos.{Bpos}

-- two answers of a comparison are told apart
pub lt≢eq : Ordering.lt ≡ Ordering.eq → ⊥
lt≢eq z = let w : ◌≡◌ {A = ℕ} 0 1 = cc in omega arith

pub gt≢eq : Ordering.gt ≡ Ordering.eq → ⊥
gt≢eq z = let w : ◌≡◌ {A = ℕ} 0 1 = cc in omega arith

-- what the comparison of two numbers says of them
pub use-lt : (a b : ℕ) → compare a b ≡ Ordering.lt → a < b
use-lt a b h = omega (arith, leb-true a b (ap is_le h), eqb-false a b (ap compare_is_eq h))

pub use-eq : (a b : ℕ) → compare a b ≡ Ordering.eq → a ≡ b
use-eq a b h = eqb-true a b (ap compare_is_eq h)

pub use-gt : (a b : ℕ) → compare a b ≡ Ordering.gt → b < a
use-gt a b h = leb-false a b (ap is_le h)

pub mk-lt : (a b : ℕ) → a < b → compare a b ≡ Ordering.lt
mk-lt a b h = go (compare a b) refl
  where
    go : (o : Ordering) → compare a b ≡ o → o ≡ Ordering.lt
    go Ordering.lt e = refl
    go Ordering.eq e = absurd (omega (arith, use-eq a b e))
    go Ordering.gt e = absurd (omega (arith, use-gt a b e))

pub mk-eq : (a b : ℕ) → a ≡ b → compare a b ≡ Ordering.eq
mk-eq a b h = go (compare a b) refl
  where
    go : (o : Ordering) → compare a b ≡ o → o ≡ Ordering.eq
    go Ordering.lt e = absurd (omega (arith, use-lt a b e))
    go Ordering.eq e = refl
    go Ordering.gt e = absurd (omega (arith, use-gt a b e))

pub mk-gt : (a b : ℕ) → b < a → compare a b ≡ Ordering.gt
mk-gt a b h = go (compare a b) refl
  where
    go : (o : Ordering) → compare a b ≡ o → o ≡ Ordering.gt
    go Ordering.lt e = absurd (omega (arith, use-lt a b e))
    go Ordering.eq e = absurd (omega (arith, use-eq a b e))
    go Ordering.gt e = refl

-- what a comparison is held to
pub record IsCmp (A : Type 0) (c : A → A → Ordering) : Type 0 where
  pub same : (a : A) → c a a ≡ Ordering.eq
  pub eq-path : (a b : A) → c a b ≡ Ordering.eq → a ≡ b
  pub lt-gt : (a b : A) → c a b ≡ Ordering.lt → c b a ≡ Ordering.gt
  pub gt-lt : (a b : A) → c a b ≡ Ordering.gt → c b a ≡ Ordering.lt
  pub trans : (a b d : A) → c a b ≡ Ordering.lt → c b d ≡ Ordering.lt → c a d ≡ Ordering.lt

pub nat_cmp : IsCmp ℕ compare
nat_cmp =
    record {
      same = λ a. mk-eq a a refl;
      eq-path = use-eq;
      lt-gt = λ a b h. mk-gt b a (use-lt a b h);
      gt-lt = λ a b h. mk-lt b a (use-gt a b h);
      trans = λ a b d h k. mk-lt a d (omega (arith, use-lt a b h, use-lt b d k));
    }

then-lt : (o p : Ordering) → or_then o p ≡ Ordering.lt → (o ≡ Ordering.lt) ⊎ ((o ≡ Ordering.eq) × (p ≡ Ordering.lt))
then-lt Ordering.lt p h = inl refl
then-lt Ordering.eq p h = inr (refl, h)
then-lt Ordering.gt p h = let z : ◌≡◌ {A = ℕ} 0 1 = cc in absurd (omega arith)

then-gt : (o p : Ordering) → or_then o p ≡ Ordering.gt → (o ≡ Ordering.gt) ⊎ ((o ≡ Ordering.eq) × (p ≡ Ordering.gt))
then-gt Ordering.lt p h = let z : ◌≡◌ {A = ℕ} 0 1 = cc in absurd (omega arith)
then-gt Ordering.eq p h = inr (refl, h)
then-gt Ordering.gt p h = inl refl

then-eq : (o p : Ordering) → or_then o p ≡ Ordering.eq → (o ≡ Ordering.eq) × (p ≡ Ordering.eq)
then-eq Ordering.lt p h = let z : ◌≡◌ {A = ℕ} 0 1 = cc in absurd (omega arith)
then-eq Ordering.eq p h = (refl, h)
then-eq Ordering.gt p h = let z : ◌≡◌ {A = ℕ} 0 1 = cc in absurd (omega arith)

-- one comparison after another is one
module _
    (A B C : Type 0) (c_a : A → A → Ordering) (c_b : B → B → Ordering) (h_a : IsCmp A c_a) (h_b : IsCmp B c_b) (f : C → A) (g : C → B)
    (inj : (x y : C) → f x ≡ f y → g x ≡ g y → x ≡ y) where
  abbrev lex_c : C → C → Ordering
  lex_c x y = or_then (c_a (f x) (f y)) (c_b (g x) (g y))

  back : (x y : C) → c_a (f x) (f y) ≡ Ordering.eq → c_a (f y) (f x) ≡ Ordering.eq
  back x y e = rw (h_a.eq-path (f x) (f y) e) (h_a.same (f y))

  lex-trans : (x y z : C) → lex_c x y ≡ Ordering.lt → lex_c y z ≡ Ordering.lt → lex_c x z ≡ Ordering.lt
  lex-trans x y z h k =
      ⊎_elim
      (λ l.
      ⊎_elim
      (λ m. rw (h_a.trans (f x) (f y) (f z) l m))
      (λ m. rw (← h_a.eq-path (f y) (f z) m.0, l))
      (then-lt (c_a (f y) (f z)) (c_b (g y) (g z)) k))
      (λ l.
      ⊎_elim
      (λ m. rw (h_a.eq-path (f x) (f y) l.0, m))
      (λ m. rw (h_a.eq-path (f x) (f y) l.0, m.0, h_b.trans (g x) (g y) (g z) l.1 m.1))
      (then-lt (c_a (f y) (f z)) (c_b (g y) (g z)) k))
      (then-lt (c_a (f x) (f y)) (c_b (g x) (g y)) h)

  pub lex-cmp : IsCmp C (λ (x : C). λ (y : C). lex_c x y)
  lex-cmp =
      record {
        same = λ x. rw (h_a.same (f x), h_b.same (g x));
        eq-path =
            λ x y h.
            let e = then-eq (c_a (f x) (f y)) (c_b (g x) (g y)) h in inj x y (h_a.eq-path _ _ e.0) (h_b.eq-path _ _ e.1);
        lt-gt =
            λ x y h.
            ⊎_elim (λ l. rw (h_a.lt-gt (f x) (f y) l)) (λ l. rw (back x y l.0, h_b.lt-gt (g x) (g y) l.1))
            (then-lt (c_a (f x) (f y)) (c_b (g x) (g y)) h);
        gt-lt =
            λ x y h.
            ⊎_elim (λ l. rw (h_a.gt-lt (f x) (f y) l)) (λ l. rw (back x y l.0, h_b.gt-lt (g x) (g y) l.1))
            (then-gt (c_a (f x) (f y)) (c_b (g x) (g y)) h);
        trans = lex-trans;
      }

-- positions are equal by their parts
pub pos-equal : (a b : Bpos) → a.inode ≡ b.inode → a.offset ≡ b.offset → a.snapshot ≡ b.snapshot → a ≡ b
pos-equal a b i o s = λ x. record { inode = i x; offset = o x; snapshot = s x }

pub pos-cmp : IsCmp Bpos cmp
unfolding cmp
pos-cmp =
    lex-cmp ℕ (ℕ × ℕ) Bpos compare (λ a b. or_then (compare a.0 b.0) (compare a.1 b.1)) nat_cmp
    (lex-cmp ℕ ℕ (ℕ × ℕ) compare compare nat_cmp nat_cmp (λ a. a.0) (λ a. a.1) (λ x y p q. λ i. (p i, q i)))
    (λ p. p.inode) (λ p. (p.offset, p.snapshot))
    (λ x y p q. λ i. record { inode = p i; offset = (q i).0; snapshot = (q i).1 })

-- the comparison of two numbers, where nothing else tells
less-is : (x y : ℕ) → is_less (compare x y) ≡ ltb x y
less-is x y = go (compare x y) refl
  where
    go : (o : Ordering) → compare x y ≡ o → is_less o ≡ ltb x y
    go Ordering.lt e = sym (lt-ltb x y (use-lt x y e))
    go Ordering.eq e = sym (le-ltb x y (omega (arith, use-eq x y e)))
    go Ordering.gt e = sym (le-ltb x y (omega (arith, use-gt x y e)))

-- positions compared by their parts
module _ (a b : Bpos) where
  pub inode-less : a.inode < b.inode → pos_less a b ≡ true
  unfolding pos_less cmp
  inode-less h = simp (mk-lt a.inode b.inode h)

  pub inode-more : b.inode < a.inode → pos_less a b ≡ false
  unfolding pos_less cmp
  inode-more h = simp (mk-gt a.inode b.inode h)

  pub other-inode : (a.inode ≡ b.inode → ⊥) → pos_same a b ≡ false
  unfolding pos_same cmp
  other-inode h = go (compare a.inode b.inode) refl
    where
      go : (o : Ordering) → compare a.inode b.inode ≡ o
          → compare_is_eq (or_then o (or_then (compare a.offset b.offset) (compare a.snapshot b.snapshot))) ≡ false
      go Ordering.lt e = refl
      go Ordering.eq e = absurd (h (use-eq a.inode b.inode e))
      go Ordering.gt e = refl

  module _ (i : a.inode ≡ b.inode) where
    pub offset-less : a.offset < b.offset → pos_less a b ≡ true
    unfolding pos_less cmp
    offset-less h = simp (mk-eq a.inode b.inode i, mk-lt a.offset b.offset h)

    pub offset-more : b.offset < a.offset → pos_less a b ≡ false
    unfolding pos_less cmp
    offset-more h = simp (mk-eq a.inode b.inode i, mk-gt a.offset b.offset h)

    pub snapshot-less : a.offset ≡ b.offset → pos_less a b ≡ ltb a.snapshot b.snapshot
    unfolding pos_less cmp
    snapshot-less o = simp (mk-eq a.inode b.inode i, mk-eq a.offset b.offset o) (less-is a.snapshot b.snapshot)

    pub other_offset : (a.offset ≡ b.offset → ⊥) → pos_same a b ≡ false
    unfolding pos_same cmp
    other_offset h = simp (mk-eq a.inode b.inode i) (go (compare a.offset b.offset) refl)
      where
        go : (o : Ordering) → compare a.offset b.offset ≡ o → compare_is_eq (or_then o (compare a.snapshot b.snapshot)) ≡ false
        go Ordering.lt e = refl
        go Ordering.eq e = absurd (h (use-eq a.offset b.offset e))
        go Ordering.gt e = refl

    pub snapshot-same : a.offset ≡ b.offset → pos_same a b ≡ eqb a.snapshot b.snapshot
    unfolding pos_same cmp
    snapshot-same o = simp (mk-eq a.inode b.inode i, mk-eq a.offset b.offset o)

-- each answer of the derived order, by the parts
pub ruleset parts_compared = (nat_tests, inode-less, inode-more, offset-less, offset-more, snapshot-less)

pub ruleset parts_same = (nat_tests, other-inode, other_offset, snapshot-same)

-- a position that stands before another, by the comparison
pub less-cmp : (a b : Bpos) → pos_less a b ≡ true → cmp a b ≡ Ordering.lt
unfolding pos_less
less-cmp a b h = go (cmp a b) h
  where
    go : (o : Ordering) → is_less o ≡ true → o ≡ Ordering.lt
    go Ordering.lt e = refl
    go Ordering.eq e = absurd (let w : ◌≡◌ {A = ℕ} 0 1 = cc in omega arith)
    go Ordering.gt e = absurd (let w : ◌≡◌ {A = ℕ} 0 1 = cc in omega arith)

pub cmp-less : (a b : Bpos) → cmp a b ≡ Ordering.lt → pos_less a b ≡ true
unfolding pos_less
cmp-less a b h = rw h

-- positions that the test calls the same are equal
pub same-equal : (a b : Bpos) → pos_same a b ≡ true → a ≡ b
unfolding pos_same
same-equal a b h = pos-cmp.eq-path a b (go (cmp a b) h)
  where
    go : (o : Ordering) → compare_is_eq o ≡ true → o ≡ Ordering.eq
    go Ordering.lt e = absurd (let w : ◌≡◌ {A = ℕ} 0 1 = cc in omega arith)
    go Ordering.eq e = refl
    go Ordering.gt e = absurd (let w : ◌≡◌ {A = ℕ} 0 1 = cc in omega arith)
