-- Laws of words with a blank before each, and of the bytes that they are read from.
use Prim.Native.Nat.{ℕ, zero, suc, ◌+◌, ◌-◌, ◌*◌, ◌/◌, ◌^◌, ◌<◌, min}
use mathlib.Core.Path.{◌≡◌, refl, sym, ap, ◌∙◌}
use mathlib.Core.List.{List, [], ◌∷◌, ◌++◌, append_assoc, append-nil}
use native.Mathlib.Omega.{arith}
use lib.IntN.{ℤ}
use lib.ListN.{length, get_or, length-append, take, drop, replicate}
use mir.Val.{of_z, to_z}
use Rattle.std.proofs.lemmas.List.{take_at, drop_at, drop-replicate}
use Rattle.std.proofs.lemmas.Int.{of_z-to_z}
use Rattle.std.specs.Int.{w64, from_le_bytes}
use Rattle.std.specs.Simd.{first_chunks}
use Rattle.wire.specs.Bytes.{Bytes, none}
use Rattle.wire.specs.Numbers.{le, each}
use Rattle.wire.specs.declared.output.Output.{Output}
use Rattle.wire.specs.Output.{with_bytes}
use Rattle.wire.proofs.AppendLaws.{with-with}
use Rattle.wire.proofs.NumberLaws.{all_take, all_drop, eight_bytes, le-bound, le-take}
use Rattle.lines.specs.Digits.{signed, hexadecimal}
use Rattle.lines.specs.Lines.{line, blanked, words, numbers}

-- a line: its first word, the others, and its end
pub line-is : (w : List ℕ) (ws : List (List ℕ)) → line (w ∷ ws) ≡ w ++ (blanked ws ++ (10 ∷ []))
unfolding line blanked each
line-is w [] = refl
line-is w (v ∷ ws) =
    ap (λ (l : List ℕ). w ++ (32 ∷ l)) (line-is v ws ∙ sym (append_assoc v (blanked ws) (10 ∷ [])))

-- a number that is read from eight bytes
pub from-le : (s : List ℕ) → from_le_bytes w64 s ≡ le 8 s
from-le s = omega (arith, eight_bytes s 0)

-- a signed number that is read from eight bytes: its bits are the number that they hold
pub signed-read : (s : List ℕ) (z : ℤ) → Bytes s → z ≡ to_z w64 (from_le_bytes w64 s) → of_z w64 (to_z w64 (of_z w64 z)) ≡ le 8 s
signed-read s z r e =
    let l : from_le_bytes w64 s < 2 ^ 64 = omega (arith, from-le s, le-bound 8 r) in
    let b = of_z-to_z w64 (from_le_bytes w64 s) l in
    ap (λ (z : ℤ). of_z w64 (to_z w64 (of_z w64 z))) e ∙ ap (λ (k : ℕ). of_z w64 (to_z w64 k)) b ∙ b ∙ from-le s

-- chunks of bytes are bytes
pub chunk-bytes : (n : ℕ) (s : List ℕ) → Bytes s → (i : ℕ) → Bytes (get_or (first_chunks 8 n s) i [])
chunk-bytes zero s r i = none
chunk-bytes (suc n) s r zero = all_take 8 r
chunk-bytes (suc n) s r (suc i) = chunk-bytes n (drop 8 s) (all_drop 8 r) i

le-nil : (n : ℕ) → le n [] ≡ 0
unfolding le
le-nil zero = refl
le-nil (suc n) = refl

-- bytes that are missing count as zeros
pub le-zeros : (n k : ℕ) (s : List ℕ) → le n (s ++ replicate k 0) ≡ le n s
unfolding le
le-zeros zero k s = refl
le-zeros (suc n) zero [] = refl
le-zeros (suc n) (suc k) [] = omega (arith, le-zeros n k [], le-nil n)
le-zeros (suc n) k (b ∷ s) = ap (λ (m : ℕ). b + 256 * m) (le-zeros n k s)

-- at most eight bytes that were copied to the front of zeros
pub number-of : (x p : List ℕ) → x ≡ p → from_le_bytes w64 (x ++ drop {A = ℕ} (length p) (replicate 8 0)) ≡ le 8 p
number-of x p e =
    let z : drop {A = ℕ} (length p) (replicate 8 0) ≡ replicate (8 - length p) 0 = drop-replicate (length p) 8 0 in
    from-le (x ++ drop {A = ℕ} (length p) (replicate 8 0)) ∙ rw (e, z) (le-zeros 8 (8 - length p) p)

-- numbers of eight bytes, one after the other
abbrev pub number_word : List ℕ → List ℕ
number_word x = 32 ∷ signed (le 8 x)

pub numbers-parts : (n : ℕ) (s : List ℕ) → each number_word (first_chunks 8 n s) ≡ blanked (numbers n s)
unfolding blanked numbers each
numbers-parts zero s = refl
numbers-parts (suc n) s = rw (le-take 8 8 s (omega arith)) (ap (λ (l : List ℕ). (32 ∷ signed (le 8 s)) ++ l) (numbers-parts n (drop 8 s)))

-- the words of a value: one for each eight bytes, and one for those that are left
abbrev pub value_words : List ℕ → List ℕ
value_words v = blanked (words ((length v + 7) / 8) v)

pub words-none : (v : List ℕ) → length v ≡ 0 → value_words v ≡ []
unfolding blanked words each
words-none v e = ap (λ (k : ℕ). blanked (words ((k + 7) / 8) v)) e

pub words-turn :
    (v x rest : List ℕ) → v ≡ x ++ rest → length x ≡ min 8 (length v) → 0 < length v
    → value_words v ≡ (32 ∷ hexadecimal (le 8 x)) ++ value_words rest
unfolding blanked words each
words-turn v x [] e n h =
    let l : length v ≡ length x = omega (arith, ap length e ∙ length-append x []) in
    let s : (length v + 7) / 8 ≡ 1 = omega arith in
    let a : le 8 v ≡ le 8 x = ap (le 8) (e ∙ append-nil x) in
    rw (s, a)
words-turn v x (r ∷ rs) e n h =
    let l : length v ≡ length x + length (r ∷ rs) = ap length e ∙ length-append x (r ∷ rs) in
    let k : length x ≡ 8 = omega arith in
    let s : (length v + 7) / 8 ≡ suc ((length (r ∷ rs) + 7) / 8) = omega arith in
    let a : le 8 v ≡ le 8 x = sym (le-take 8 8 v (omega arith)) ∙ ap (λ (u : List ℕ). le 8 (take 8 u)) e ∙ ap (le 8) (take_at x (r ∷ rs) 8 k) in
    let d : drop 8 v ≡ r ∷ rs = ap (drop 8) e ∙ drop_at x (r ∷ rs) 8 k in
    rw (s, a, d)

-- a turn of a loop that puts the words of a value
pub word-put :
    (p r : Output) (v x rest : List ℕ) (n : ℕ) → v ≡ x ++ rest → length x ≡ min 8 (length v) → 0 < length v → n ≡ le 8 x
    → r ≡ with_bytes p (32 ∷ hexadecimal n) → with_bytes r (value_words rest) ≡ with_bytes p (value_words v)
word-put p r v x rest n e l h m w =
    rw (w, m, with-with) (ap (with_bytes p) (sym (words-turn v x rest e l h)))
