-- The walk over the pieces at their places: the first one, the end, and the fields that are put for what is left.
use mathlib.Core.Path.{◌≡◌, sym, ap, ◌∙◌}
use mathlib.Core.List.{List, [], ◌∷◌, ◌++◌, map}
use Prim.Native.Nat.{ℕ, ◌≤◌}
use native.Mathlib.Omega.{arith}
use lib.ListN.{length, drop, drop_of_length-le}
use Rattle.wire.specs.Fields.{Field}
use Rattle.wire.specs.declared.kinds.Bucket.{Bucket}
use Rattle.wire.specs.declared.kinds.FileSector.{FileSector}
use Rattle.wire.specs.declared.output.Output.{Output}
use Rattle.wire.specs.Encode.{encode, encode_field}
use Rattle.wire.specs.Output.{with_bytes}
use Rattle.wire.proofs.AppendLaws.{with-none, with-with}
use Rattle.calls.specs.CallList as calls
use Rattle.calls.specs.Extents.{placed_at}
use Rattle.calls.specs.Place.{placed_of}
use Rattle.calls.specs.Answers.{read_call, read_volume}
use Rattle.reader.specs.declared.head.Head.{Head}
use Rattle.format.specs.declared.checksums.ChecksumOption.{ChecksumOption}
use Rattle.next_fit.specs.declared.slot.Slot.{Slot}
use Rattle.place_keys.specs.Plan.{Planned, placed_from}
use Rattle.change_fields.proofs.FieldLists.{fields-next, fields-none}

module _ {s : List ℕ} {pieces : List calls.Piece} {slots : List Slot} {buckets : List Bucket} {generations : List ℕ} {h : Head} {option : ChecksumOption}
    (plan : Planned s pieces slots buckets generations h option) where
  pub from_first : placed_from (read_call s) 0 h.base ≡ placed_of (read_call s)
  unfolding placed_from placed_of
  from_first = let e : h.base ≡ (read_volume s).head.base = ap (λ (x : calls.Head). x.base) plan.head in rw e

  pub no_more : (i : ℕ) (end : FileSector) → length pieces ≤ i → placed_from (read_call s) i end ≡ []
  unfolding placed_from placed_at
  no_more i end k =
      let e : drop i (read_call s).pieces ≡ [] = drop_of_length-le _ {i = i} (omega (arith, ap length plan.pieces)) in
      rw e

-- the first of some runs of bytes is put, and the rest is left
pub run-put : (p : Output) {r : Output} {us : List ℕ} (bs rest : List ℕ) → us ≡ bs ++ rest → r ≡ with_bytes p bs → with_bytes r rest ≡ with_bytes p us
run-put p bs rest e w = ap (λ (q : Output). with_bytes q rest) w ∙ with-with p bs rest ∙ ap (with_bytes p) (sym e)

-- none is left
pub all-put : (p : Output) {rest : List ℕ} → rest ≡ [] → with_bytes p rest ≡ p
all-put p e = ap (with_bytes p) e ∙ with-none p

-- the same of fields
module _ {A B : Type 0} (f : B → Field) (g : A → B) (p : Output) where
  pub field-put : {l : List A} {x : A} {rest : List A} {r : Output} → l ≡ x ∷ rest → r ≡ with_bytes p (encode_field (f (g x)))
      → with_bytes r (encode (map f (map g rest))) ≡ with_bytes p (encode (map f (map g l)))
  field-put e w = run-put p _ _ (fields-next f (ap (map g) e)) w

  pub fields-put : {l : List A} → l ≡ [] → with_bytes p (encode (map f (map g l))) ≡ p
  fields-put e = all-put p (fields-none f (ap (map g) e))
