-- Fields that a table has the places of: their bytes are those of the list at its places.
use mathlib.Core.Path.{◌≡◌, refl, sym, subst, ◌∙◌}
use mathlib.Core.List.{List, ◌++◌, map}
use Prim.Native.Nat.{ℕ}
use Rattle.wire.specs.Bytes.{All, none, more, Bytes}
use Rattle.wire.specs.Fields.{Field}
use Rattle.wire.specs.Encode.{encode_field, encode}
use Rattle.wire.proofs.EncodeLaws.{each_append, encode-append, encode-none, encode-next}
use Rattle.wire.proofs.NumberLaws.{all_append}
use Rattle.wire.proofs.OutputLaws.{each_next, each_none}
use Rattle.calls.proofs.encoding.Blocks.{field}
use Rattle.sorting.specs.EntryPlaces.{size_at, tag_at}
use Rattle.sorting.proofs.EntryLaws.{field-bytes}
use Rattle.reader.specs.Table.{FieldHere}
use Rattle.reader.specs.Collected.{body_at, TagHere, PlacesOf}
use Rattle.sort.specs.Form.{Placed, bytes_at, fields_at}

-- a field at its place
module _ {s : List ℕ} {o t : ℕ} {b : List ℕ} (h : FieldHere s o t b) where
  here-placed : Placed s o
  unfolding size_at
  here-placed = record { after = h.after; within = h.within }

  here-bytes : Bytes s → encode_field (field t b) ≡ bytes_at s o
  unfolding bytes_at size_at tag_at
  here-bytes r = (λ i. encode_field (field (h.tagged i) (h.here i))) ∙ sym (field-bytes r h.after h.within)

-- at these places stand these fields
pub record Standing (s places : List ℕ) (fs : List Field) : Type 0 where
  pub bytes : encode fs ≡ fields_at s places
  pub placed : All (Placed s) places

-- those of a tag
module _ {s : List ℕ} (r : Bytes s) where
  standing_each : {t : ℕ} {places : List ℕ} → All (TagHere s t) places → Standing s places (map (field t) (map (body_at s) places))
  unfolding fields_at
  standing_each none = record { bytes = encode-none ∙ sym (each_none (bytes_at _) refl); placed = none }
  standing_each {t} (more {a = o} {s = os} h rest) =
      let q : Standing s os (map (field t) (map (body_at s) os)) = unfold fields_at in (standing_each rest) in
      record {
        bytes = encode-next (field t (body_at s o)) _ ∙ (λ i. here-bytes h r i ++ q.bytes i) ∙ sym (each_next (bytes_at s) refl);
        placed = more (here-placed h) q.placed;
      }

  pub standing-tag : {t : ℕ} {places : List ℕ} {bs : List (List ℕ)} → PlacesOf s t places bs → Standing s places (map (field t) bs)
  standing-tag {t} {places} p = subst (λ (bs : List (List ℕ)). Standing s places (map (field t) bs)) p.are (standing_each p.here)

-- others behind them
pub standing-on : {s os ps : List ℕ} {fs gs : List Field} → Standing s os fs → Standing s ps gs → Standing s (os ++ ps) (fs ++ gs)
unfolding fields_at
standing-on {s} {os} {ps} {fs} {gs} p q =
    record {
      bytes = encode-append fs gs ∙ (λ i. p.bytes i ++ q.bytes i) ∙ sym (each_append (bytes_at s) os ps);
      placed = all_append p.placed q.placed;
    }
