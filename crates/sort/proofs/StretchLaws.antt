-- Neighbouring fields are one stretch of the list: the loop that joins fields to the stretch that is not copied yet.
use mathlib.Core.Path.{◌≡◌, refl, ap, sym, ◌∙◌}
use mathlib.Core.List.{List, [], ◌++◌, append_assoc, append-nil}
use Prim.Native.Nat.{ℕ, ◌+◌, ◌-◌, ◌≤◌, ◌<◌}
use native.Mathlib.Omega.{arith}
use lib.ListN.{length, take, drop, get_or, drop_of_length-le}
use lib.Seq.{take-add, drop-drop}
use Rattle.wire.specs.Output.{with_bytes}
use Rattle.wire.specs.declared.output.Output.{Output}
use Rattle.wire.proofs.OutputLaws.{drop-next, each_next, each_none}
use Rattle.wire.proofs.AppendLaws.{with-with}
use Rattle.sorting.specs.EntryPlaces.{size_at}
use Rattle.sort.specs.Form.{Placed, bytes_at, fields_at}

-- the fields from an index on
pub fields-next : (s places : List ℕ) (k : ℕ) → k < length places
    → fields_at s (drop k places) ≡ bytes_at s (get_or places k 0) ++ fields_at s (drop (k + 1) places)
unfolding fields_at
fields-next s places k h = each_next (bytes_at s) (drop-next 0 places k h)

pub fields-none : (s places : List ℕ) (k : ℕ) → length places ≤ k → fields_at s (drop k places) ≡ []
unfolding fields_at
fields-none s places k h = each_none (bytes_at s) (drop_of_length-le places h)

-- a stretch that ends where a field begins, and the field
stretch-on : (s : List ℕ) (start e o n : ℕ) → start ≤ e → o ≡ e + 3
    → take (o + n - start) (drop start s) ≡ take (e - start) (drop start s) ++ take (3 + n) (drop e s)
stretch-on s start e o n l z =
    let x : o + n - start ≡ (e - start) + (3 + n) = omega arith in
    let y : start + (e - start) ≡ e = omega arith in
    rw (x, take-add (e - start) (3 + n) (drop start s), drop-drop (e - start) start s, y)

-- a stretch of the list
abbrev pub stretch : List ℕ → ℕ → ℕ → List ℕ
stretch s start e = take (e - start) (drop start s)

-- where the fields from index i on and the stretch before them are left to copy
pub record Copying (s places : List ℕ) (first : Output) (i start e : ℕ) (out : Output) : Type 0 where
  pub long : start ≤ e
  pub inside : e ≤ length s
  pub bytes : with_bytes out (stretch s start e ++ fields_at s (drop i places)) ≡ with_bytes first (fields_at s places)

module _ {s places : List ℕ} {first : Output} {i start e : ℕ} {out : Output} (c : Copying s places first i start e out) {n : ℕ}
    (l : i < length places) (h : Placed s (get_or places i 0)) (m : n ≡ size_at s (get_or places i 0)) where
  -- the next field joins the stretch
  pub joined : get_or places i 0 ≡ e + 3 → Copying s places first (i + 1) start (get_or places i 0 + n) out
  unfolding bytes_at
  joined z =
      let o : ℕ = get_or places i 0 in
      let rest : List ℕ = fields_at s (drop (i + 1) places) in
      let back : o - 3 ≡ e = omega arith in
      let here : take (3 + n) (drop e s) ≡ bytes_at s o = rw (m, ← back) in
      record {
        long = omega (arith, c.long);
        inside = omega (arith, h.within);
        bytes =
            ap (with_bytes out)
            (ap (λ (b : List ℕ). b ++ rest) (stretch-on s start e o n c.long z)
            ∙ append_assoc (stretch s start e) (take (3 + n) (drop e s)) rest
            ∙ ap (λ (b : List ℕ). stretch s start e ++ b) (ap (λ (b : List ℕ). b ++ rest) here ∙ sym (fields-next s places i l)))
            ∙ c.bytes;
      }

  -- the stretch is copied, and the next field begins another
  pub apart : {next : Output} → next ≡ with_bytes out (stretch s start e)
      → Copying s places first (i + 1) (get_or places i 0 - 3) (get_or places i 0 + n) next
  unfolding bytes_at
  apart {next} w =
      let o : ℕ = get_or places i 0 in
      let rest : List ℕ = fields_at s (drop (i + 1) places) in
      let many : o + n - (o - 3) ≡ 3 + n = omega (arith, h.after) in
      let here : stretch s (o - 3) (o + n) ≡ bytes_at s o = rw (many, m) in
      record {
        long = omega arith;
        inside = omega (arith, h.within);
        bytes =
            ap (λ (r : Output). with_bytes r (stretch s (o - 3) (o + n) ++ rest)) w ∙ with-with out (stretch s start e) (stretch s (o - 3) (o + n) ++ rest)
            ∙ ap (λ (b : List ℕ). with_bytes out (stretch s start e ++ b)) (ap (λ (b : List ℕ). b ++ rest) here ∙ sym (fields-next s places i l))
            ∙ c.bytes;
      }

-- no field is left
pub copied : {s places : List ℕ} {first : Output} {i start e : ℕ} {out last : Output} → Copying s places first i start e out → length places ≤ i
    → last ≡ with_bytes out (stretch s start e) → last ≡ with_bytes first (fields_at s places)
copied {s} {places} {first} {i} {start} {e} {out} c l w =
    w ∙ ap (with_bytes out) (sym (append-nil (stretch s start e)) ∙ ap (λ (b : List ℕ). stretch s start e ++ b) (sym (fields-none s places i l))) ∙ c.bytes

-- at the start no stretch is left
pub copying-start : (s places : List ℕ) (first : Output) → Copying s places first 0 0 0 first
copying-start s places first = record { long = omega arith; inside = omega arith; bytes = refl }
