-- How long lines are: those of a change list have at most four times its bytes.
use Prim.Native.Nat.{ℕ, zero, suc, ◌+◌, ◌-◌, ◌*◌, ◌/◌, ◌^◌, ◌<◌, ◌≤◌}
use mathlib.Core.Path.{◌≡◌, refl, ap, ◌∙◌}
use mathlib.Core.Bool.{Bool, true, false, cond}
use mathlib.Core.List.{List, [], ◌∷◌}
use mathlib.Core.Logic.{inl, inr, ⊎_elim}
use native.Mathlib.Nat.{pow-suc}
use native.Mathlib.Omega.{arith}
use lib.Dec.{ltb}
use lib.ListN.{length, drop, length-append, length-drop}
use borrow.Author.Tests.{lt-ltb, eqb-true}
use Rattle.wire.specs.Bytes.{All, none, more, Bytes}
use Rattle.wire.specs.Numbers.{le, each}
use Rattle.wire.specs.Fields.{Field, fields, size, whole}
use Rattle.wire.specs.Keys.{key_of}
use Rattle.wire.proofs.NumberLaws.{all_drop, le-bound}
use Rattle.calls.specs.ChangeList.{change_laid_out}
use Rattle.calls.proofs.lists.BoolLaws.{cond-most, parts}
use Rattle.calls.proofs.encoding.FieldBytes.{fields-bytes}
use Rattle.reader.specs.Bodies.{change_field_ok}
use Rattle.reader.proofs.ShapeLaws.{same_or}
use Rattle.lines.specs.Digits.{last_digits, width, decimal, signed, hexadecimal}
use Rattle.lines.specs.Lines.{line, blanked, words, numbers, key_words, root_words, taken_words, placed_words, row_words, sectors_words, unreserved_words, end_words, field_words, change_lines, refused_line}
use Rattle.lines.proofs.DigitLaws.{width-most}
use Rattle.lines.proofs.WordLaws.{line-is}
use Rattle.lines.proofs.LineLaws.{fields-ok, root-size, bucket-size, placed-size, row-size, sectors-size, key-size, words-key, words-root, words-taken, words_placed, words_row, words-sectors, words-unreserved, words-end}

-- numbers

last-length : (base k n : ℕ) → length (last_digits base k n) ≡ k
unfolding last_digits
last-length base zero n = refl
last-length base (suc k) n = ap suc (last-length base k n)

hexadecimal-length : (n : ℕ) → length (hexadecimal n) ≡ 16
unfolding hexadecimal
hexadecimal-length n = last-length 16 16 n

width-below : (k j n : ℕ) → n < 10 ^ suc j → width k n ≤ suc j
unfolding width
width-below zero j n h = omega arith
width-below (suc k) zero n h = rw (lt-ltb n 10 (omega arith)) (omega arith)
width-below (suc k) (suc j) n h =
    cond-most (ltb n 10) (omega arith) (omega (arith, width-below k j (n / 10) (omega (arith, pow-suc 10 (suc j)))))

decimal-below : (j n : ℕ) → n < 10 ^ suc j → length (decimal n) ≤ suc j
unfolding decimal
decimal-below j n h = omega (arith, last-length 10 (width 19 n) n, width-below 19 j n h)

decimal-most : (n : ℕ) → length (decimal n) ≤ 20
unfolding decimal
decimal-most n = omega (arith, last-length 10 (width 19 n) n, width-most 19 n)

signed-most : (n : ℕ) → length (signed n) ≤ 21
unfolding signed
signed-most n = go (ltb n (2 ^ 63))
  where
    go : (t : Bool) → length (cond t (decimal n) (45 ∷ decimal (2 ^ 64 - n))) ≤ 21
    go true = omega (arith, decimal-most n)
    go false = omega (arith, decimal-most (2 ^ 64 - n))

-- words

blanked-none : length (blanked []) ≡ 0
unfolding blanked each
blanked-none = refl

blanked-next : (w : List ℕ) (ws : List (List ℕ)) → length (blanked (w ∷ ws)) ≡ suc (length w) + length (blanked ws)
unfolding blanked each
blanked-next w ws = length-append (32 ∷ w) (blanked ws)

line-length : (w : List ℕ) (ws : List (List ℕ)) → length (line (w ∷ ws)) ≡ length w + (length (blanked ws) + 1)
line-length w ws = ap length (line-is w ws) ∙ simp length-append

words-length : (n : ℕ) (s : List ℕ) → length (blanked (words n s)) ≡ 17 * n
unfolding words
words-length zero s = blanked-none
words-length (suc n) s = rw blanked-next (omega (arith, hexadecimal-length (le 8 s), words-length n (drop 8 s)))

numbers-most : (n : ℕ) (s : List ℕ) → length (blanked (numbers n s)) ≤ 22 * n
unfolding numbers
numbers-most zero s = rw blanked-none (omega arith)
numbers-most (suc n) s = rw blanked-next (omega (arith, signed-most (le 8 s), numbers-most n (drop 8 s)))

-- a name and a number
named-length : (name : List ℕ) (n : ℕ) → length (line (name ∷ decimal n ∷ [])) ≡ length name + length (decimal n) + 2
named-length name n = line-length name (decimal n ∷ []) ∙ rw (blanked-next, blanked-none) (omega arith)

-- the line of a field

key-most : (tree : ℕ) (b : List ℕ) → 37 ≤ length b → length (line (key_words tree (key_of b))) ≤ 4 * (3 + length b)
unfolding key_words
key-most tree b h =
    rw (line-length, blanked-next, blanked-next, blanked-next, blanked-next, words-length)
    (omega (
      arith,
      length-drop 37 b,
      decimal-most tree,
      decimal-most (key_of b).type,
      decimal-most (key_of b).pos.inode,
      decimal-most (key_of b).pos.offset,
      decimal-most (key_of b).size,
    ))

placed-most : {b : List ℕ} → Bytes b → length (line (placed_words b)) ≤ 49
unfolding placed_words
placed-most {b} r =
    rw (line-length, blanked-next, blanked-next, blanked-next, blanked-next, blanked-none)
    (omega (
      arith,
      decimal-most (le 8 b),
      decimal-below 4 (le 2 (drop 8 b)) (omega (arith, le-bound 2 (all_drop 8 r))),
      decimal-below 9 (le 4 (drop 10 b)) (omega (arith, le-bound 4 (all_drop 10 r))),
      decimal-below 2 (le 1 (drop 14 b)) (omega (arith, le-bound 1 (all_drop 14 r))),
    ))

row-most : (b : List ℕ) → 16 ≤ length b → length (line (row_words b)) ≤ 4 * (3 + length b)
unfolding row_words
row-most b h =
    rw (line-length, blanked-next, blanked-next)
    (omega (
      arith,
      hexadecimal-length (le 8 b),
      hexadecimal-length (le 8 (drop 8 b)),
      numbers-most ((length b - 16) / 8) (drop 16 b),
    ))

root-most : {b : List ℕ} → Bytes b → length (line (root_words b)) ≤ 9
unfolding root_words
root-most {b} r = rw named-length (omega (arith, decimal-below 2 (le 1 b) (omega (arith, le-bound 1 r))))

taken-most : {b : List ℕ} → Bytes b → length (line (taken_words b)) ≤ 17
unfolding taken_words
taken-most {b} r = rw named-length (omega (arith, decimal-below 9 (le 4 b) (omega (arith, le-bound 4 r))))

unreserved-most : {b : List ℕ} → Bytes b → length (line (unreserved_words b)) ≤ 22
unfolding unreserved_words
unreserved-most {b} r = rw named-length (omega (arith, decimal-below 9 (le 4 b) (omega (arith, le-bound 4 r))))

sectors-most : (b : List ℕ) → length (line (sectors_words b)) ≤ 29
unfolding sectors_words
sectors-most b = rw named-length (omega (arith, decimal-most (le 8 b)))

pub refused-most : (number : ℕ) → length (refused_line number) ≤ 29
unfolding refused_line
refused-most number = rw named-length (omega (arith, decimal-most number))

end-length : length (line end_words) ≡ 4
unfolding line end_words
end-length = refl

module _ (t : ℕ) (b : List ℕ) (h : change_field_ok (record { tag = t; body = b }) ≡ true) (r : Bytes b) where
  field-most : length (line (field_words (record { tag = t; body = b }))) ≤ 4 * (3 + length b)
  field-most =
      ⊎_elim (λ (e : t ≡ 70). rw words-root (omega (arith, root-most r, root-size t b h e)))
      (λ (n70 : t ≡ 70 → ⊥).
      ⊎_elim (λ (e : t ≡ 71). rw words-taken (omega (arith, taken-most r, bucket-size t b h (inl e))))
      (λ (n71 : t ≡ 71 → ⊥).
      ⊎_elim (λ (e : t ≡ 72). rw words_placed (omega (arith, placed-most r, placed-size t b h e)))
      (λ (n72 : t ≡ 72 → ⊥).
      ⊎_elim
      (λ (e : t ≡ 73).
      rw words_row
      (row-most b (⊎_elim (λ x. omega arith) (λ x. omega arith) (row-size t b h e))))
      (λ (n73 : t ≡ 73 → ⊥).
      ⊎_elim (λ (e : t ≡ 74). rw words-sectors (omega (arith, sectors-most b, sectors-size t b h e)))
      (λ (n74 : t ≡ 74 → ⊥).
      ⊎_elim (λ (e : t ≡ 75). rw words-unreserved (omega (arith, unreserved-most r, bucket-size t b h (inr e))))
      (λ (n75 : t ≡ 75 → ⊥).
      ⊎_elim (λ (e : t ≡ 76). rw words-end (omega (arith, end-length)))
      (λ (n76 : t ≡ 76 → ⊥).
      let k = key-size t b h n70 n71 n72 n73 n74 n75 n76 in
      let m : t ≤ 14 = k.0 in
      rw words-key (key-most t b k.1))
      (same_or t 76))
      (same_or t 75))
      (same_or t 74))
      (same_or t 73))
      (same_or t 72))
      (same_or t 71))
      (same_or t 70)

fields-most : {fs : List Field} → All (λ f. change_field_ok f ≡ true) fs → All (λ f. Bytes f.body) fs
    → length (each (λ (f : Field). line (field_words f)) fs) ≤ 4 * size fs
unfolding each size
fields-most none none = omega arith
fields-most (more {a = f} {s = fs} h hs) (more r rs) =
    rw length-append (omega (arith, field-most f.tag f.body h r, fields-most hs rs))

-- so that a text of 262,144 bytes holds the lines of any change list of at most 65,536
pub lines-most : (s : List ℕ) → Bytes s → change_laid_out s ≡ true → length (change_lines s) ≤ 4 * length s
unfolding change_lines change_laid_out whole
lines-most s r h =
    omega (arith, fields-most (fields-ok s h) (fields-bytes 0 r), eqb-true (size (fields s)) (length s) (parts (whole s) _ h).0)
