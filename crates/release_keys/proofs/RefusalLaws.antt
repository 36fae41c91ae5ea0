-- Refusals 15 to 19 at a bucket, and over the freed buckets.
use mathlib.Core.Path.{◌≡◌, sym, ◌∙◌, ap}
use mathlib.Core.Bool.{Bool, true, false, not, ◌&&◌}
use mathlib.Core.List.{List, [], ◌∷◌}
use mathlib.Core.Option.{none, some}
use Prim.Native.Nat.{ℕ, ◌≤◌, ◌<◌}
use native.Mathlib.Omega.{arith}
use Rattle.std.proofs.Common.{Some, None, Option, Result, Ok, Err, MatchOption}
use Rattle.std.specs.Option.{ok_or}
use Rattle.std.specs.Result.{result_ok}
use Rattle.std.proofs.lemmas.Option.{MatchOption-at_some, MatchOption-at_none}
use Rattle.reader.specs.declared.key.ListedKey.{ListedKey}
use Rattle.reader.specs.declared.refusal.Refusal.{Refusal}
use lib.ListN.{length}
use lib.Dec.{leb, eqb}
use borrow.Author.Tests.{le-leb, lt-leb, eq-eqb, ne_eqb}
use Rattle.wire.specs.Keys.{Key}
use Rattle.wire.specs.Positions.{alloc_at}
use Rattle.wire.specs.declared.kinds.Bucket.{Bucket}
use Rattle.format.specs.Packing.{get}
use Rattle.format.specs.AllocV4.{dirty_sectors}
use Rattle.calls.specs.CallList.{Volume, Freed}
use Rattle.calls.specs.Generations.{gen_short}
use Rattle.calls.specs.Refusals.{test, verdict}
use Rattle.calls.specs.Release.{freed_in, alloc_value, dirty_at, is_emptied, bucket_refusal}
use Rattle.calls.specs.Trees.{lookup}
use Rattle.reader.specs.KeyHere.{key_here}
use Rattle.release_keys.specs.declared.table.FreedBucket.{FreedBucket}
use Rattle.release_keys.specs.Tables.{FreedEntry}
use Rattle.release_keys.proofs.PlaceLaws.{place-some, place_none}

-- ---- 15 to 19 at a bucket
-- of a value of n bytes with d dirty sectors, where f are freed of a bucket of so many sectors
abbrev pub numbered : ℕ → ℕ → ℕ → ℕ → Bool → ℕ
numbered n d sectors f g =
    verdict (0 ∷ test 16 (leb 56 n) ∷ test 17 (leb d sectors) ∷ test 18 (leb f d) ∷ test 19 (not (eqb f d && g)) ∷ [])

module _ (n d sectors f : ℕ) (g : Bool) where
  number-16 : n < 56 → numbered n d sectors f g ≡ 16
  unfolding verdict
  number-16 a = rw (lt-leb 56 n a)

  number-17 : 56 ≤ n → sectors < d → numbered n d sectors f g ≡ 17
  unfolding verdict
  number-17 a b = rw (le-leb 56 n a, lt-leb d sectors b)

  number-18 : 56 ≤ n → d ≤ sectors → d < f → numbered n d sectors f g ≡ 18
  unfolding verdict
  number-18 a b c = rw (le-leb 56 n a, le-leb d sectors b, lt-leb f d c)

  number-19 : 56 ≤ n → d ≤ sectors → d ≡ f → g ≡ true → numbered n d sectors f g ≡ 19
  unfolding verdict
  number-19 a b c e = rw (le-leb 56 n a, le-leb d sectors b, le-leb f d (omega arith), eq-eqb f d (sym c), e)

  number-kept : 56 ≤ n → d ≤ sectors → f ≤ d → (d ≡ f → ⊥) → numbered n d sectors f g ≡ 0
  unfolding verdict
  number-kept a b c e = rw (le-leb 56 n a, le-leb d sectors b, le-leb f d c, ne_eqb f d (λ z. e (sym z)))

  number-room : 56 ≤ n → d ≤ sectors → d ≡ f → g ≡ false → numbered n d sectors f g ≡ 0
  unfolding verdict
  number-room a b c e = rw (le-leb 56 n a, le-leb d sectors b, le-leb f d (omega arith), eq-eqb f d (sym c), e)

module _ (v : Volume) (rs : List Freed) (b : Bucket) where
  pub refuses-15 : lookup (alloc_at b) v.trees.alloc ≡ none → bucket_refusal v rs b ≡ 15
  unfolding bucket_refusal verdict
  refuses-15 e = rw e

  pub value-is : (k : Key) → lookup (alloc_at b) v.trees.alloc ≡ some k → alloc_value v.trees b ≡ k.value
  unfolding alloc_value
  value-is k e = rw e

  pub dirty-is : (k : Key) → lookup (alloc_at b) v.trees.alloc ≡ some k → dirty_at v.trees b ≡ get dirty_sectors k.value
  unfolding dirty_at
  dirty-is k e = rw (value-is k e)

  pub refuses : (k : Key) → lookup (alloc_at b) v.trees.alloc ≡ some k
      → bucket_refusal v rs b ≡ numbered (length k.value) (get dirty_sectors k.value) v.head.bucket_sectors (freed_in v.head.bucket_sectors rs b) (gen_short v.trees.gens b)
  unfolding bucket_refusal is_emptied
  refuses k e = rw (value-is k e, dirty-is k e, e)

-- at a row
module _ {s : List ℕ} {v : Volume} {rs : List Freed} {f : FreedBucket} (a : FreedEntry s v rs f) where
  pub row-15 : f.place ≡ None → bucket_refusal v rs f.bucket ≡ 15
  row-15 e = refuses-15 v rs f.bucket (place_none a.key e)

  module _ (place : ℕ) (h : f.place ≡ Some place) where
    abbrev sectors : ℕ
    sectors = v.head.bucket_sectors

    abbrev bytes : ℕ
    bytes = length (key_here s place).value

    abbrev dirty : ℕ
    dirty = get dirty_sectors (key_here s place).value

    abbrev short : Bool
    short = gen_short v.trees.gens f.bucket

    number : bucket_refusal v rs f.bucket ≡ numbered bytes dirty sectors f.sectors short
    number = refuses v rs f.bucket (key_here s place) (place-some a.key h) ∙ ap (λ (n : ℕ). numbered bytes dirty sectors n short) (sym a.freed)

    pub row-16 : bytes < 56 → bucket_refusal v rs f.bucket ≡ 16
    row-16 l = number ∙ number-16 bytes dirty sectors f.sectors short l

    module _ (l : 56 ≤ bytes) where
      pub row-17 : sectors < dirty → bucket_refusal v rs f.bucket ≡ 17
      row-17 m = number ∙ number-17 bytes dirty sectors f.sectors short l m

      pub row-18 : dirty ≤ sectors → dirty < f.sectors → bucket_refusal v rs f.bucket ≡ 18
      row-18 m o = number ∙ number-18 bytes dirty sectors f.sectors short l m o

      pub row-19 : dirty ≤ sectors → dirty ≡ f.sectors → short ≡ true → bucket_refusal v rs f.bucket ≡ 19
      row-19 m o q = number ∙ number-19 bytes dirty sectors f.sectors short l m o q

      pub row-room : dirty ≤ sectors → dirty ≡ f.sectors → short ≡ false → bucket_refusal v rs f.bucket ≡ 0
      row-room m o q = number ∙ number-room bytes dirty sectors f.sectors short l m o q

      pub row-kept : dirty ≤ sectors → f.sectors ≤ dirty → (dirty ≡ f.sectors → ⊥) → bucket_refusal v rs f.bucket ≡ 0
      row-kept m o q = number ∙ number-kept bytes dirty sectors f.sectors short l m o q

-- the alloc key of a row in a list, or the refusal where it has none
module _ (s : List ℕ) {place : Option ℕ} {o : Option ListedKey} {r : Result ListedKey Refusal} (made_of : MatchOption o (place ≡ None) (λ k. (k.list.now ≡ s) × (place ≡ Some k.at))) (is : o ≡ result_ok r) where
  pub key-some : {k : ListedKey} → r ≡ Ok k → (k.list.now ≡ s) × (place ≡ Some k.at)
  key-some {k} e = MatchOption-at_some (place ≡ None) (λ y. (y.list.now ≡ s) × (place ≡ Some y.at)) k (is ∙ ap result_ok e) made_of

  pub key-none : {x y : Refusal} → r ≡ ok_or o y → r ≡ Err x → (x ≡ y) × (place ≡ None)
  key-none {x} {y} v e =
      let none = is ∙ ap result_ok e in
      let same : Err x ≡ ok_or o y = sym e ∙ v in
      let err : x ≡ y = cc in
      (err, MatchOption-at_none (place ≡ None) (λ k. (k.list.now ≡ s) × (place ≡ Some k.at)) none made_of)
