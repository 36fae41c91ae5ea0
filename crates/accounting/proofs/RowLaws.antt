-- Laws of rows: those that are left out, rows one after the other, signed arguments.
use mathlib.Core.Path.{◌≡◌, sym, ap, ◌∙◌}
use mathlib.Core.Bool.{Bool, true, false, not}
use mathlib.Core.List.{List, [], ◌∷◌, ◌++◌, map}
use Prim.Native.Nat.{◌<◌, ◌^◌}
use lib.IntN.{ℤ}
use lib.Signed.{mag}
use mir.Syntax.{w64}
use mir.Val.{to_z, of_z}
use Rattle.wire.specs.Encode.{encode}
use Rattle.wire.specs.declared.output.Output.{Output}
use Rattle.wire.specs.Output.{with_bytes}
use Rattle.wire.proofs.AppendLaws.{with-with}
use Rattle.wire.specs.Rows.{Counters, row_field}
use Rattle.wire.proofs.SignedLaws.{back}
use Rattle.calls.specs.Lists.{any_of}
use Rattle.calls.specs.Accounting.{is_zero, counted_rows}
use Rattle.calls.proofs.lists.ThoseLaws.{those-append, those-one, those-other}
use Rattle.change_fields.proofs.FieldLists.{fields-append}
use Rattle.accounting.specs.RowBytes.{rows_bytes}

-- a row has a number other than 0
abbrev pub is_other : ℤ → Bool
is_other z = not (is_zero z)

pub counted-one : (r : Counters) → any_of is_other r.numbers ≡ true → counted_rows (r ∷ []) ≡ r ∷ []
unfolding counted_rows
counted-one r e = those-one (λ r. any_of is_other r.numbers) r e

pub counted-other : (r : Counters) → any_of is_other r.numbers ≡ false → counted_rows (r ∷ []) ≡ []
unfolding counted_rows
counted-other r e = those-other (λ r. any_of is_other r.numbers) r e

-- a signed argument as a callee has it
pub passed : {x z : ℤ} → mag x < 2 ^ 63 → x ≡ z → to_z w64 (of_z w64 x) ≡ z
passed {x} h e = back x h ∙ e

-- rows one after the other
pub rows-then : (o : Output) (rs ts : List Counters) → with_bytes (with_bytes o (rows_bytes rs)) (rows_bytes ts) ≡ with_bytes o (rows_bytes (rs ++ ts))
unfolding counted_rows
rows-then o rs ts =
    with-with o (rows_bytes rs) (rows_bytes ts)
    ∙ ap (with_bytes o)
    (sym
    (ap (λ l. encode (map row_field l)) (those-append (λ (r : Counters). any_of is_other r.numbers) rs ts)
    ∙ fields-append row_field (counted_rows rs) (counted_rows ts)))
