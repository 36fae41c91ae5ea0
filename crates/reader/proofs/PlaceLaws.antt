-- Fields at their places, and the lengths of those that may be listed.
use Prim.Native.Nat.{ℕ, ◌+◌, ◌-◌, ◌≤◌}
use mathlib.Core.Path.{◌≡◌, sym, ◌∙◌, ap}
use Rattle.std.proofs.Common.{None}
use mathlib.Core.List.{List, [], ◌∷◌}
use mathlib.Core.Bool.{Bool, true, false, cond}
use lib.ListN.{length, take, drop, get_or}
use lib.Seq.{drop-drop, get_or-drop}
use lib.Dec.{leb}
use native.Mathlib.Omega.{arith}
use Rattle.wire.specs.Numbers.{le}
use Rattle.wire.specs.Fields.{FieldPlace, step_of, found}
use Rattle.wire.proofs.FieldLaws.{FieldAt}
use Rattle.reader.specs.CallFields.{least_of}
use Rattle.reader.specs.Table.{FieldHere}
use Rattle.reader.proofs.OrderingLaws.{least-key}
use Rattle.reader.proofs.ListedLaws.{FieldListed, key, reserved, piece, freed, key-tag-bounds}

-- the lengths of a listed field
pub listed-least : {call t n : ℕ} → FieldListed call t n → least_of t ≤ n
listed-least {t} (key k l m) = let b = key-tag-bounds t k in omega (arith, least-key t b.1)
listed-least (reserved e l) = rw (e, l) (omega arith)
listed-least (piece c e l) = rw (e, l) (omega arith)
listed-least (freed c e l) = rw (e, l) (omega arith)

pub listed-most : {call t n : ℕ} → FieldListed call t n → n ≤ 293
listed-most (key k l m) = m
listed-most (reserved e l) = omega arith
listed-most (piece c e l) = omega arith
listed-most (freed c e l) = omega arith

-- a step says where a field's tag and its length stand
front-tag : (xs : List ℕ) (at t b n : ℕ) → step_of at xs ≡ found t b n → t ≡ get_or xs 0 0
unfolding step_of
front-tag [] at t b n e = absurd (let z : ◌≡◌ {A = ℕ} 0 1 = cc in omega arith)
front-tag (u ∷ []) at t b n e = absurd (let z : ◌≡◌ {A = ℕ} 0 1 = cc in omega arith)
front-tag (u ∷ lo ∷ []) at t b n e = absurd (let z : ◌≡◌ {A = ℕ} 0 1 = cc in omega arith)
front-tag (u ∷ lo ∷ hi ∷ xs) at t b n e = go (leb (le 2 (lo ∷ hi ∷ xs)) (length xs)) e
  where
    go : (q : Bool) → cond q (found u (at + 3) (le 2 (lo ∷ hi ∷ xs))) None ≡ found t b n → t ≡ u
    go false e = absurd (let z : ◌≡◌ {A = ℕ} 0 1 = cc in omega arith)
    go true e =
        let r : ◌≡◌ {A = FieldPlace} (record { tag = u; start = at + 3; len = le 2 (lo ∷ hi ∷ xs) }) (record { tag = t; start = b; len = n }) = cc in
        sym (ap (λ (f : FieldPlace). f.tag) r)

front_length : (xs : List ℕ) (at t b n : ℕ) → step_of at xs ≡ found t b n → n ≡ le 2 (drop 1 xs)
unfolding step_of
front_length [] at t b n e = absurd (let z : ◌≡◌ {A = ℕ} 0 1 = cc in omega arith)
front_length (u ∷ []) at t b n e = absurd (let z : ◌≡◌ {A = ℕ} 0 1 = cc in omega arith)
front_length (u ∷ lo ∷ []) at t b n e = absurd (let z : ◌≡◌ {A = ℕ} 0 1 = cc in omega arith)
front_length (u ∷ lo ∷ hi ∷ xs) at t b n e = go (leb (le 2 (lo ∷ hi ∷ xs)) (length xs)) e
  where
    go : (q : Bool) → cond q (found u (at + 3) (le 2 (lo ∷ hi ∷ xs))) None ≡ found t b n → n ≡ le 2 (lo ∷ hi ∷ xs)
    go false e = absurd (let z : ◌≡◌ {A = ℕ} 0 1 = cc in omega arith)
    go true e =
        let r : ◌≡◌ {A = FieldPlace} (record { tag = u; start = at + 3; len = le 2 (lo ∷ hi ∷ xs) }) (record { tag = t; start = b; len = n }) = cc in
        sym (ap (λ (f : FieldPlace). f.len) r)

-- the field of a step, as the table has it
pub here-at :
    (s : List ℕ) (at t b n : ℕ) → step_of at (drop at s) ≡ found t b n → FieldAt s at t b n → FieldHere s b t (take n (drop b s))
here-at s at t b n e f =
    let i : b - 2 ≡ at + 1 = omega (arith, f.on) in
    let l : n ≡ le 2 (drop (b - 2) s) = rw i (front_length (drop at s) at t b n e ∙ ap (le 2) (drop-drop 1 at s)) in
    let j : at + 0 ≡ b - 3 = omega (arith, f.on) in
    record {
      after = omega (arith, f.on);
      tagged = front-tag (drop at s) at t b n e ∙ get_or-drop at s 0 0 ∙ ap (λ (k : ℕ). get_or s k 0) j;
      within = rw (sym l) f.within;
      here = ap (λ (k : ℕ). take k (drop b s)) l;
    }
