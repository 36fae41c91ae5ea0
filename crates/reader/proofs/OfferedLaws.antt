-- What later passes may use of a list that was read: its limits, and the length of each body at its place.
use Prim.Native.Nat.{ℕ, ◌+◌, ◌-◌, ◌≤◌, ◌<◌}
use mathlib.Core.Path.{◌≡◌, refl, sym, ◌∙◌, ap, subst}
use mathlib.Core.Logic.{⊎_elim}
use mathlib.Core.List.{List, []}
use mathlib.Core.Bool.{Bool, true, false, cond}
use lib.ListN.{length, drop, get_or}
use native.Mathlib.Omega.{arith}
use Rattle.wire.specs.Numbers.{le}
use Rattle.wire.specs.Fields.{Field, fields, whole}
use Rattle.wire.specs.Bytes.{All, none, more}
use Rattle.wire.proofs.NumberLaws.{body-length}
use Rattle.calls.specs.Lists.{all_of, those}
use Rattle.calls.specs.CallList.{bodies, none_twice}
use Rattle.calls.specs.Answers.{read_call, read_volume}
use Rattle.calls.proofs.lists.SortLaws.{all-sorted}
use Rattle.calls.specs.Limits.{list_within}
use Rattle.calls.proofs.lists.AllLaws.{all-nth}
use Rattle.reader.specs.CallFields.{any_field_ok, others}
use Rattle.reader.specs.Table.{body_below, sorted_bodies, FieldHere}
use Rattle.reader.specs.Readings.{laid_as, call_refusal, list_refusal}
use Rattle.reader.proofs.BoolLaws.{and_left, and_right}
use Rattle.reader.proofs.ShapeLaws.{same_or}
use Rattle.reader.proofs.ListLaws.{bodies-here, bodies-other}
use Rattle.reader.proofs.ListedLaws.{FieldListed, key, reserved, piece, freed, key-tag-bounds}
use Rattle.reader.proofs.LayoutLaws.{list-laid}
use Rattle.reader.proofs.FieldRankLaws.{AllListed}
use Rattle.reader.proofs.BesideLaws.{beside-bodies, others-listed}
use Rattle.reader.proofs.ListRefusalLaws.{refusal_is}
use Rattle.reader.proofs.VolumeLaws.{call-refusal}

-- a list that is not refused
record ListKept (s : List ℕ) (call : ℕ) (any : Bool) : Type 0 where
  laid : laid_as call any s ≡ true
  once : none_twice (read_volume s) ≡ true
  within : list_within (read_call s) ≡ true

kept : (s : List ℕ) (call : ℕ) (any : Bool) → 0 ≡ list_refusal call any s → ListKept s call any
kept s call any h =
    go (laid_as call any s) (none_twice (read_volume s)) (list_within (read_call s)) refl refl refl (h ∙ refusal_is s call any)
  where
    go :
        (a b c : Bool) → laid_as call any s ≡ a → none_twice (read_volume s) ≡ b → list_within (read_call s) ≡ c
        → ◌≡◌ {A = ℕ} 0 (cond a (cond b (cond c 0 3) 22) 2) → ListKept s call any
    go true true true x y z k = record { laid = x; once = y; within = z }
    go true true false x y z k = absurd (omega arith)
    go true false c x y z k = absurd (omega arith)
    go false b c x y z k = absurd (omega arith)

-- its fields beside field 1
pub laid-listed : (s : List ℕ) (call : ℕ) (any : Bool) → laid_as call any s ≡ true → AllListed call (others (fields s))
laid-listed s call any h =
    others-listed call any (fields s)
    (and_left (all_of (any_field_ok call any) (fields s)) _ (and_right (whole s) _ (sym (list-laid s call any) ∙ h)))

bodies-listed : (call t : ℕ) {fs : List Field} → AllListed call fs → All (λ b. FieldListed call t (length b)) (bodies t fs)
unfolding bodies those
bodies-listed call t none = none
bodies-listed call t (more {a = f} {s = fs} l r) =
    ⊎_elim (λ e. rw (bodies-here t f fs e) (more (subst (λ (u : ℕ). FieldListed call u (length f.body)) e l) (bodies-listed call t r)))
    (λ n. rw (bodies-other t f fs n) (bodies-listed call t r)) (same_or f.tag t)

-- a list that `read_call` or `read_volume` read: its refusal is 0
pub call_kept : (call : ℕ) (s : List ℕ) → 0 ≡ call_refusal call s → 0 ≡ list_refusal call false s
call_kept call s h = h ∙ sym (call-refusal call s)

module _ (call : ℕ) (any : Bool) (s : List ℕ) (h : 0 ≡ list_refusal call any s) where
  pub limits-kept : list_within (read_call s) ≡ true
  limits-kept = (kept s call any h).within

  -- each body is as long as its tag asks
  pub all-bodies-listed : (t : ℕ) → 1 < t → All (λ b. FieldListed call t (length b)) (bodies t (fields s))
  all-bodies-listed t l = rw (← beside-bodies t l (fields s)) (bodies-listed call t (laid-listed s call any (kept s call any h).laid))

  pub body-listed :
      (t i : ℕ) → 1 < t → i < length (bodies t (fields s)) → FieldListed call t (length (get_or (bodies t (fields s)) i []))
  body-listed t i l k = all-nth [] (all-bodies-listed t l) i k

  -- in the order of the table too
  pub sorted-listed :
      (t i : ℕ) → 1 < t → i < length (sorted_bodies t (fields s)) → FieldListed call t (length (get_or (sorted_bodies t (fields s)) i []))
  unfolding sorted_bodies
  sorted-listed t i l k = all-nth [] (all-sorted (body_below t) (all-bodies-listed t l)) i k

-- the length before a body is the body's
pub here-length : {s body : List ℕ} {at tag : ℕ} → FieldHere s at tag body → length body ≡ le 2 (drop (at - 2) s)
here-length {s} {at = at} f = ap length f.here ∙ body-length s at (le 2 (drop (at - 2) s)) f.within

-- what `read_key` asks, of a key at its place
pub record KeyReady (s : List ℕ) (at : ℕ) : Type 0 where
  pub after : 3 ≤ at
  pub within : at + le 2 (drop (at - 2) s) ≤ length s
  pub long : 37 ≤ le 2 (drop (at - 2) s)
  pub short : le 2 (drop (at - 2) s) ≤ 293

key-sizes : {call t n : ℕ} → FieldListed call t n → t ≤ 14 → (37 ≤ n) × (n ≤ 293)
key-sizes (key k l m) h = (l, m)
key-sizes (reserved e l) h = absurd (omega arith)
key-sizes (piece c e l) h = absurd (omega arith)
key-sizes (freed c e l) h = absurd (omega arith)

pub key-ready : {call t at : ℕ} {s body : List ℕ} → t ≤ 14 → FieldHere s at t body → FieldListed call t (length body) → KeyReady s at
key-ready h f l =
    let b = key-sizes l h in
    record { after = f.after; within = f.within; long = omega (arith, b.0, here-length f); short = omega (arith, b.1, here-length f) }

-- the lengths of the other bodies
pub reserved-size : {call n : ℕ} → FieldListed call 64 n → n ≡ 4
reserved-size (key k l m) = let b = key-tag-bounds 64 k in absurd (omega (arith, b.1))
reserved-size (reserved e l) = l
reserved-size (piece c e l) = absurd (omega arith)
reserved-size (freed c e l) = absurd (omega arith)

pub piece-size : {call n : ℕ} → FieldListed call 65 n → n ≡ 13
piece-size (key k l m) = let b = key-tag-bounds 65 k in absurd (omega (arith, b.1))
piece-size (reserved e l) = absurd (omega arith)
piece-size (piece c e l) = l
piece-size (freed c e l) = absurd (omega arith)

pub freed-size : {call n : ℕ} → FieldListed call 66 n → n ≡ 10
freed-size (key k l m) = let b = key-tag-bounds 66 k in absurd (omega (arith, b.1))
freed-size (reserved e l) = absurd (omega arith)
freed-size (piece c e l) = absurd (omega arith)
freed-size (freed c e l) = l
