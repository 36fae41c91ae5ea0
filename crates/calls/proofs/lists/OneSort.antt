-- Lists that have one sort: those in which every element stands as often, no position twice; and those in which the elements at each position stand
-- in the same order.
use mathlib.Core.Path.{◌≡◌, refl, ap, sym, ◌∙◌}
use mathlib.Core.Bool.{Bool, true, false, not, ◌&&◌, cond}
use mathlib.Core.List.{List, [], ◌∷◌}
use Prim.Native.Nat.{ℕ, ◌+◌, ◌<◌}
use native.Mathlib.Omega.{arith}
use Rattle.wire.specs.Bytes.{All, none, more}
use Rattle.calls.specs.Lists.{those, in_order, total, one, count}
use Rattle.calls.specs.Sorting.{Weak, Equality, sorted_by, same, twice, Rising}
use Rattle.calls.proofs.lists.AllLaws.{all-imp, all-each}
use Rattle.calls.proofs.lists.BoolLaws.{clash}
use Rattle.calls.proofs.lists.OrderLaws.{order-tail}
use Rattle.calls.proofs.lists.SortLaws.{count-sorted, those-sorted, rising-sorted, tails, rest}
use Rattle.calls.proofs.lists.ThoseLaws.{those-never}
use Rattle.calls.proofs.lists.TwiceLaws.{asc-below, twice-ascends}
use Rattle.calls.proofs.lists.WeakLaws.{lt-le}

-- what holds of each element holds of one that is counted
module _ {A : Type 0} {eq : A → A → Bool} (q : Equality eq) where
  pub counted : {P : A → Type 0} (z : A) {xs : List A} → All P xs → 0 < count (eq z) xs → P z
  unfolding total
  counted z none h = absurd (omega arith)
  counted {P} z (more {a = x} {s = xs} p r) h = go (eq z x) refl h (counted z r)
    where
      go : (t : Bool) → eq z x ≡ t → 0 < one t + count (eq z) xs → (0 < count (eq z) xs → P z) → P z
      go true e h ih = rw (q.sound z x e) p
      go false e h ih = ih (omega arith)

module _ {A : Type 0} {less : A → A → Bool} (w : Weak less) where
  -- lists in which every element stands as often, no position twice, have one sort
  module _ {eq : A → A → Bool} (q : Equality eq) where
    counts-first : (x : A) (xs : List A) → 0 < count (eq x) (x ∷ xs)
    unfolding total
    counts-first x xs = rw (q.whole x) (omega arith)

    -- the first elements are equal
    heads : (x y : A) {xs ys : List A} → All (λ z. less x z ≡ true) xs → All (λ z. less z y ≡ false) ys
        → ((z : A) → count (eq z) (x ∷ xs) ≡ count (eq z) (y ∷ ys)) → x ≡ y
    unfolding total
    heads x y {xs} {ys} up down c = go (eq x y) refl (eq y x) refl
      where
        go : (t : Bool) → eq x y ≡ t → (u : Bool) → eq y x ≡ u → x ≡ y
        go true e u f = q.sound x y e
        go false e true f = sym (q.sound y x f)
        go false e false f =
            let first : 0 < count (eq y) xs = omega (arith, rw f at (c y), counts-first y ys) in
            let second : 0 < count (eq x) ys = omega (arith, rw e at (c x), counts-first x xs) in
            absurd (clash (counted q y up first) (counted q x down second))

    -- an ascending list and an ordered one
    pub one-order : (xs ys : List A) → in_order less xs ≡ true → Rising less ys → ((z : A) → count (eq z) xs ≡ count (eq z) ys) → xs ≡ ys
    unfolding total
    one-order [] [] a r c = refl
    one-order [] (y ∷ ys) a r c = absurd (omega (arith, c y, counts-first y ys))
    one-order (x ∷ xs) [] a r c = absurd (omega (arith, c x, counts-first x xs))
    one-order (x ∷ xs) (y ∷ ys) a r c =
        let e : x ≡ y = heads x y (asc-below w x xs a) (tails w r) c in
        let f : (z : A) → count (eq z) xs ≡ count (eq z) ys =
        λ z. (let d : ◌≡◌ {A = ℕ} (one (eq z x)) (one (eq z y)) = ap (λ (b : A). one (eq z b)) e in omega (arith, c z, d))
        in
        rw e (ap (λ (l : List A). y ∷ l) (one-order xs ys (order-tail less x xs a) (rest w r) f))

    pub one-sort : (xs ys : List A) → twice less xs ≡ false → ((z : A) → count (eq z) xs ≡ count (eq z) ys) → sorted_by less xs ≡ sorted_by less ys
    one-sort xs ys h c =
        one-order (sorted_by less xs) (sorted_by less ys) (go (in_order less (sorted_by less xs)) refl) (rising-sorted w ys)
        (λ z. count-sorted less (eq z) xs ∙ c z ∙ sym (count-sorted less (eq z) ys))
      where
        go : (t : Bool) → in_order less (sorted_by less xs) ≡ t → t ≡ true
        go true e = refl
        go false e = absurd (clash (twice-ascends w xs ∙ ap not e) h)

  -- lists in which the elements at each position stand in the same order have one sort
  self : (x : A) → same less x x ≡ true
  self x = go (less x x) refl
    where
      go : (t : Bool) → less x x ≡ t → (not t && not t) ≡ true
      go true e = absurd (clash e (w.asym x x e))
      go false e = refl

  above-none : (x : A) {l : List A} → All (λ y. less x y ≡ true) l → those (same less x) l ≡ []
  above-none x r = those-never (all-imp (λ y e. ap (λ (b : Bool). not b && not (less y x)) e) r)

  first-differs : (x y : A) (xs ys : List A) → Rising less (y ∷ ys) → less x y ≡ true → those (same less x) (x ∷ xs) ≡ those (same less x) (y ∷ ys) → ⊥
  unfolding those
  first-differs x y xs ys r h e =
      let n : those (same less x) (y ∷ ys) ≡ [] = unfold those in (above-none x (more h (all-imp (λ z. lt-le w x y z h) (tails w r)))) in
      let f : x ∷ those (same less x) xs ≡ [] = rw (self x) at (e ∙ unfold those in n) in
      let z : ◌≡◌ {A = ℕ} 0 1 = cc in
      omega arith

  one-head : (x y : A) (xs ys : List A) → less x y ≡ false → less y x ≡ false → those (same less x) (x ∷ xs) ≡ those (same less x) (y ∷ ys) → x ≡ y
  unfolding those
  one-head x y xs ys p q e =
      let f : x ∷ those (same less x) xs ≡ y ∷ those (same less x) ys = rw (self x, p, q) at e in
      cc

  one-tail : (x z : A) (xs ys : List A) → those (same less z) (x ∷ xs) ≡ those (same less z) (x ∷ ys) → those (same less z) xs ≡ those (same less z) ys
  unfolding those
  one-tail x z xs ys e = go (same less z x) e
    where
      go : (t : Bool) → cond t (x ∷ those (same less z) xs) (those (same less z) xs) ≡ cond t (x ∷ those (same less z) ys) (those (same less z) ys)
          → those (same less z) xs ≡ those (same less z) ys
      go true e = cc
      go false e = e

  rising-classes : (xs ys : List A) → Rising less xs → Rising less ys → ((z : A) → those (same less z) xs ≡ those (same less z) ys) → xs ≡ ys
  unfolding those
  rising-classes [] [] r q c = refl
  rising-classes [] (y ∷ ys) r q c =
      let f : [] ≡ y ∷ those (same less y) ys = rw (self y) at (c y) in
      let z : ◌≡◌ {A = ℕ} 0 1 = cc in
      absurd (omega arith)
  rising-classes (x ∷ xs) [] r q c =
      let f : x ∷ those (same less x) xs ≡ [] = rw (self x) at (c x) in
      let z : ◌≡◌ {A = ℕ} 0 1 = cc in
      absurd (omega arith)
  rising-classes (x ∷ xs) (y ∷ ys) r q c = go (less x y) refl (less y x) refl
      (λ e d. rw e (ap (λ (l : List A). y ∷ l) (rising-classes xs ys (rest w r) (rest w q) d)))
    where
      go : (t : Bool) → less x y ≡ t → (u : Bool) → less y x ≡ u
          → (x ≡ y → ((z : A) → those (same less z) xs ≡ those (same less z) ys) → x ∷ xs ≡ y ∷ ys) → x ∷ xs ≡ y ∷ ys
      go true p u v k = absurd (first-differs x y xs ys q p (unfold those in (c x)))
      go false p true v k = absurd (first-differs y x ys xs r v (sym (unfold those in (c y))))
      go false p false v k =
          let e : x ≡ y = one-head x y xs ys p v (unfold those in (c x)) in
          k e (λ z. one-tail y z xs ys (unfold those in (rw e at (c z))))

  pub one-stable : (xs ys : List A) → ((z : A) → those (same less z) xs ≡ those (same less z) ys) → sorted_by less xs ≡ sorted_by less ys
  one-stable xs ys c =
      rising-classes (sorted_by less xs) (sorted_by less ys) (rising-sorted w xs) (rising-sorted w ys)
      (λ z. those-sorted w (same less z) xs ∙ ap (sorted_by less) (c z) ∙ sym (those-sorted w (same less z) ys))

-- a list of one element, and one in which every element stands as often
module _ {A : Type 0} {eq : A → A → Bool} (q : Equality eq) where
  -- an order in which none is less: every list is in order
  abbrev unordered : A → A → Bool
  unordered a b = false

  unordered-weak : Weak unordered
  unordered-weak = record { asym = λ a b h. refl; trans = λ a b c h k. refl }

  unordered-rising : (xs : List A) → Rising unordered xs
  unordered-rising [] = Rising.none
  unordered-rising (x ∷ xs) = Rising.more (all-each (λ y. refl) xs) (unordered-rising xs)

  pub one-element : (x : A) (ys : List A) → ((z : A) → count (eq z) (x ∷ []) ≡ count (eq z) ys) → x ∷ [] ≡ ys
  unfolding in_order
  one-element x ys c = one-order unordered-weak q (x ∷ []) ys refl (unordered-rising ys) c
