-- The bit of a root: whether it is set, and set.
use mathlib.Core.Path.{◌≡◌, refl, sym, ◌∙◌}
use mathlib.Core.Bool.{Bool, true, false, cond}
use mathlib.Core.List.{List}
use lib.ListN.{length}
use Rattle.std.specs.Prelude.{Result, Ok, Err, is_ok}
use Prim.Native.Nat.{ℕ, ◌+◌, ◌/◌, ◌%◌, ◌^◌}
use native.Mathlib.Omega.{arith}
use lib.Dec.{eqb}
use lib.Bits.{or_add_and}
use borrow.Author.Tests.{eqb-true, eqb-false, eq-eqb, ne_eqb}
use Rattle.std.specs.Int.Bits.{bit_and, bit_or}
use Rattle.std.proofs.lemmas.Nat.Bits.{and_pow, bit_at-lt}
use Rattle.wire.specs.Numbers.{le}
use Rattle.wire.specs.TreeTags.{tree_tag}
use Rattle.wire.specs.declared.trees.Tree.{Tree}
use Rattle.wire.specs.declared.trees.Tree.TheVariants.{Lru, NeedDiscard, BucketGens}
use Rattle.calls.specs.Place.{root_missing}
use Rattle.calls.specs.ChangeList.{root_listed}
use Rattle.reader.specs.Bodies.{root_ok}
use Rattle.reader.specs.Roots.{with_root_bit, is_root, RootNamed}
use Rattle.reader.specs.declared.roots.Root.{Root}
use Rattle.reader.specs.declared.roots.Root.TheVariants as variants
use Rattle.reader.specs.declared.roots.UnknownRoot.{UnknownRoot}

module _ (k roots : ℕ) where
  pub or-bit : bit_or roots (2 ^ k) ≡ with_root_bit roots (2 ^ k)
  unfolding with_root_bit
  or-bit = go (eqb (roots / 2 ^ k % 2) 0) refl
    where
      go : (t : Bool) → eqb (roots / 2 ^ k % 2) 0 ≡ t → bit_or roots (2 ^ k) ≡ cond t (roots + 2 ^ k) roots
      go true e = let h = rw (eqb-true (roots / 2 ^ k % 2) 0 e) at (and_pow roots k) in omega (arith, h, or_add_and roots (2 ^ k))
      go false e =
          let n = eqb-false (roots / 2 ^ k % 2) 0 e in
          let z : roots / 2 ^ k % 2 ≡ 1 = omega (arith, n, bit_at-lt roots k) in
          let h = rw z at (and_pow roots k) in
          omega (arith, h, or_add_and roots (2 ^ k))

  pub missing-is : eqb (bit_and roots (2 ^ k)) 0 ≡ root_missing roots k
  unfolding root_missing
  missing-is = go (eqb (roots / 2 ^ k % 2) 0) refl
    where
      go : (t : Bool) → eqb (roots / 2 ^ k % 2) 0 ≡ t → eqb (bit_and roots (2 ^ k)) 0 ≡ t
      go true e = let h = rw (eqb-true (roots / 2 ^ k % 2) 0 e) at (and_pow roots k) in eq-eqb (bit_and roots (2 ^ k)) 0 (omega (arith, h))
      go false e =
          let n = eqb-false (roots / 2 ^ k % 2) 0 e in
          let z : roots / 2 ^ k % 2 ≡ 1 = omega (arith, n, bit_at-lt roots k) in
          let h = rw z at (and_pow roots k) in
          ne_eqb (bit_and roots (2 ^ k)) 0 (λ q. omega (arith, h, q))

-- the roots that there are
pub rootless : {id : ℕ} → ((t : Tree) → id ≡ tree_tag t → ⊥) → is_root id ≡ false
unfolding is_root
rootless {id} u = simp (ne_eqb id 10 (u Lru), ne_eqb id 12 (u NeedDiscard), ne_eqb id 14 (u BucketGens))

is-root : (id : ℕ) (r : Result Root UnknownRoot) → RootNamed id r → is_ok r ≡ is_root id
unfolding is_root
is-root id (Ok variants.Lru) e = rw e refl
is-root id (Ok variants.NeedDiscard) e = rw e refl
is-root id (Ok variants.BucketGens) e = rw e refl
is-root id (Err x) e = sym e.1

-- a body names a root
pub root-told : (body : List ℕ) (r : Result Root UnknownRoot) → RootNamed (le 1 body) r → length body ≡ 1 → is_ok r ≡ root_ok body
unfolding root_ok root_listed is_root
root-told body r n e = is-root (le 1 body) r n ∙ sym (simp (eq-eqb (length body) 1 e))
