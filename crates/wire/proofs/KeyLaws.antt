-- Laws of reading keys: a key at its place, and one field's part of a tree's keys.
use Prim.Native.Nat.{ℕ, zero, suc, ◌+◌, ◌-◌, ◌≤◌}
use mathlib.Core.Path.{◌≡◌}
use mathlib.Core.List.{List, [], ◌∷◌}
use lib.ListN.{length, take, drop, length-drop}
use lib.Seq.{drop-drop, take-nil}
use borrow.Author.Tests.{le-leb, eq-eqb}
use native.Mathlib.Nat.{add_assoc, add-zero}
use native.Mathlib.Omega.{arith}
use Rattle.wire.specs.Numbers.{le}
use Rattle.wire.specs.Fields.{Field, field_at}
use Rattle.wire.specs.Keys.{Key, pos_of, key_of, key_sized, is_key, keys}
use Rattle.wire.proofs.NumberLaws.{body-le, body-length}

-- what is left of a front past its first k
pub drop-take : (k m : ℕ) (s : List ℕ) → drop k (take m s) ≡ take (m - k) (drop k s)
drop-take zero m s = let e : m - 0 ≡ m = omega arith in rw e
drop-take (suc k) zero s = let e : 0 - suc k ≡ 0 = omega arith in rw e
drop-take (suc k) (suc m) [] = rw take-nil
drop-take (suc k) (suc m) (b ∷ s) = let e : suc m - suc k ≡ m - k = omega arith in rw e (drop-take k m s)

-- the key whose body of len bytes starts at place start of s, each part read at its own place
abbrev pub key_at : List ℕ → ℕ → ℕ → Key
key_at s start len =
    record {
      type = le 1 (drop start s);
      size = le 4 (drop (start + 1) s);
      version_hi = le 4 (drop (start + 5) s);
      version_lo = le 8 (drop (start + 9) s);
      pos = pos_of (drop (start + 17) s);
      value = take (len - 37) (drop (start + 37) s);
    }

module _ (s : List ℕ) (start len : ℕ) (l : 37 ≤ len) where
  part_at : (n k : ℕ) → k + n ≤ len → le n (drop k (take len (drop start s))) ≡ le n (drop (start + k) s)
  part_at = body-le s start len

  pub pos-at : pos_of (drop 17 (take len (drop start s))) ≡ pos_of (drop (start + 17) s)
  pos-at = simp (drop-drop, add_assoc, part_at 8 17 (omega arith), part_at 8 25 (omega arith), part_at 4 33 (omega arith))

  type_at : le 1 (take len (drop start s)) ≡ le 1 (drop start s)
  type_at = rw add-zero at (part_at 1 0 (omega arith))

  pub key-at : key_of (take len (drop start s)) ≡ key_at s start len
  key-at =
      simp (
        pos-at,
        type_at,
        part_at 4 1 (omega arith),
        part_at 4 5 (omega arith),
        part_at 8 9 (omega arith),
        drop-take 37 len (drop start s),
        drop-drop 37 start s,
      )

-- keys are equal by their parts
pub key-equal :
    (k l : Key) → k.type ≡ l.type → k.size ≡ l.size → k.version_hi ≡ l.version_hi → k.version_lo ≡ l.version_lo → k.pos ≡ l.pos
    → k.value ≡ l.value → k ≡ l
key-equal k l t s h o p v = λ x. record { type = t x; size = s x; version_hi = h x; version_lo = o x; pos = p x; value = v x }

-- a field's part of the keys of tree t
module _ (s : List ℕ) (t tag b n : ℕ) (fits : b + n ≤ length s) (fs : List Field) where
  pub keys-take : tag ≡ t → 37 ≤ n → n ≤ 293 → keys t (field_at s tag b n ∷ fs) ≡ key_of (take n (drop b s)) ∷ keys t fs
  unfolding keys is_key key_sized
  keys-take e l m = simp (eq-eqb tag t e, body-length s b n fits, le-leb 37 n l, le-leb n 293 m)

-- the length of a key's value
pub value-length : (s : List ℕ) (start len : ℕ) → start + len ≤ length s → length (key_of (take len (drop start s))).value ≡ len - 37
value-length s start len fits = rw (length-drop, body-length s start len fits)
