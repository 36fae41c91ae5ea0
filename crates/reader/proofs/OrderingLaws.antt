-- Which field may stand after another, and which keeps the limits, by their tests.
use Prim.Native.Nat.{ℕ, ◌≤◌, ◌<◌}
use mathlib.Core.Path.{◌≡◌, refl}
use mathlib.Core.List.{List}
use mathlib.Core.Bool.{Bool, true, false, cond}
use lib.ListN.{drop}
use lib.Dec.{eqb}
use borrow.Author.Tests.{le-leb, lt-leb, lt-ltb, le-ltb, eq-eqb, eqb-true, ne_eqb}
use native.Mathlib.Omega.{arith}
use Rattle.wire.specs.Numbers.{le}
use Rattle.wire.specs.Keys.{Key, pos_of, key_of}
use Rattle.wire.specs.Order.{pos_less}
use Rattle.wire.specs.Kinds.{bucket_read, bucket_below, bucket_in_range}
use Rattle.wire.specs.declared.bpos.Bpos.{Bpos}
use Rattle.wire.specs.declared.kinds.Bucket.{Bucket}
use Rattle.reader.specs.CallFields.{least_of, ascends, follows, alloc_within, run_within, waiting_within, key_fits, field_within}

-- what a tag asks of a body's length
pub least-key : (t : ℕ) → t ≤ 14 → least_of t ≡ 37
least-key t h = simp (le-leb t 14 h)

pub least-reserved : (t : ℕ) → t ≡ 64 → least_of t ≡ 4
least-reserved t e = rw e

-- the tests of `ascends`
module _ (t : ℕ) (before body : List ℕ) where
  pub ascends-keys :
      (p q : Bpos) → t ≤ 14 → p ≡ pos_of (drop 17 before) → q ≡ pos_of (drop 17 body)
      → pos_less p q ≡ ascends t before body
  unfolding ascends
  ascends-keys p q h e f = rw (e, f, le-leb t 14 h)

  pub ascends-buckets :
      (a b : Bucket) → t ≡ 64 → a ≡ bucket_read before → b ≡ bucket_read body
      → bucket_below a b ≡ ascends t before body
  unfolding ascends
  ascends-buckets a b h e f = rw (e, f, h)

  pub ascends-others : 14 < t → (t ≡ 64 → ⊥) → true ≡ ascends t before body
  unfolding ascends
  ascends-others h n = simp (lt-leb t 14 h, ne_eqb t 64 n)

-- the tests of `follows`
module _ (last : ℕ) (before : List ℕ) (t : ℕ) (body : List ℕ) where
  abbrev fields_follow : Bool
  fields_follow = follows (record { tag = last; body = before }) (record { tag = t; body = body })

  pub follows-more : last < t → fields_follow ≡ true
  unfolding follows
  follows-more h = simp (lt-ltb last t h)

  pub follows-less : t < last → fields_follow ≡ false
  unfolding follows
  follows-less h = simp (le-ltb last t (omega arith), ne_eqb last t (λ e. omega arith))

  pub follows_same :
      last ≡ t → fields_follow ≡ ascends t before body
  unfolding follows
  follows_same e = rw e (simp (le-ltb t t (omega arith), eq-eqb t t refl))

-- the limits of a field
module _ (t : ℕ) (body : List ℕ) where
  abbrev key : Key
  key = key_of body

  -- those of its key
  pub within-key :
      (y : ℕ) (p : Bpos) → y ≡ le 1 body → p ≡ pos_of (drop 17 body) → (t ≡ 64 → ⊥) → key_fits t y p ≡ field_within (record { tag = t; body = body })
  unfolding key_fits field_within
  within-key y p e f n = rw (e, f, ne_eqb t 64 n) (go (eqb t 4) (eqb t 12) (eqb t 11) refl refl refl)
    where
      go :
          (a b c : Bool) → eqb t 4 ≡ a → eqb t 12 ≡ b → eqb t 11 ≡ c
          → cond (eqb t 4) (alloc_within key) (cond (eqb t 12) (waiting_within key) (cond (eqb t 11) (run_within key) true))
          ≡ cond (eqb t 4) (alloc_within key) (cond (eqb t 11) (run_within key) (cond (eqb t 12) (waiting_within key) true))
      go true b c x y z = rw x refl
      go false false c x y z = rw (x, y) refl
      go false true false x y z = rw (x, y, z) refl
      go false true true x y z = absurd (omega (arith, eqb-true t 12 y, eqb-true t 11 z))

  pub within-reserved : t ≡ 64 → field_within (record { tag = t; body = body }) ≡ bucket_in_range (bucket_read body)
  unfolding field_within
  within-reserved e = rw e

  pub within-others :
      (t ≡ 4 → ⊥) → (t ≡ 11 → ⊥) → (t ≡ 12 → ⊥) → (t ≡ 64 → ⊥) → field_within (record { tag = t; body = body }) ≡ true
  unfolding field_within
  within-others a b d e = simp (ne_eqb t 4 a, ne_eqb t 11 b, ne_eqb t 12 d, ne_eqb t 64 e)

-- one field's limits, and the order of two bodies and of two fields, by their tags
pub ruleset within_cases = (least-key, least-reserved, within-key, within-reserved, within-others)

pub ruleset ascends_cases = (least-key, least-reserved, ascends-keys, ascends-buckets, ascends-others)

pub ruleset follows_cases = (follows-more, follows-less, follows_same)
