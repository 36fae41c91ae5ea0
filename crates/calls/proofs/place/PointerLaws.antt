-- The answer's fields 72 say the same as the pointers of the extents that it queues.
use mathlib.Core.Path.{◌≡◌, refl, ap, ◌∙◌}
use mathlib.Core.List.{List, [], ◌∷◌, ◌++◌, map, append-nil}
use Prim.Native.Nat.{ℕ, ◌-◌, ◌^◌, ◌<◌}
use native.Mathlib.Omega.{arith}
use lib.ListN.{length, drop, length-append}
use lib.Seq.{drop_at}
use Rattle.wire.specs.Numbers.{le, le_bytes, each, words_bytes}
use Rattle.wire.specs.Keys.{Key}
use Rattle.wire.specs.Kinds.{sector_number}
use Rattle.wire.specs.Bytes.{All, none, more, Bytes}
use Rattle.wire.proofs.EncodeLaws.{each_append}
use Rattle.wire.proofs.NumberLaws.{le-length}
use Rattle.format.specs.Packing.{unpack}
use Rattle.format.specs.Entries.{pointer, checksum_entry, extent_words}
use Rattle.format.proofs.Decoded.{pointer-below, pointer-decodes}
use Rattle.calls.specs.CallList.{Head}
use Rattle.calls.specs.Extents.{Placed, extent_key}
use Rattle.calls.specs.ChangeList.{Spot, Batch, changes_of}
use Rattle.calls.specs.Place.{placed_of, walk_of, spot_at, place_batch}
use Rattle.calls.specs.Answers.{read_call, place}
use Rattle.calls.proofs.lists.AllLaws.{all-imp, all_map}
use Rattle.calls.proofs.answers.AnswerLaws.{placement}
use Rattle.calls.proofs.encoding.ChangeTrip.{changes-back}
use Rattle.calls.proofs.encoding.FieldBytes.{number-back}
use Rattle.calls.proofs.place.PlaceFits.{place-fits, place-placed}

-- the last word of an extent's value
abbrev pub pointer_of : Key → ℕ
pointer_of k = le 8 (drop (length k.value - 8) k.value)

-- the pointer that a field 72 tells
abbrev pub pointer_at : Spot → ℕ
pointer_at t = pointer t.first t.generation

-- the last of some words is read back
last_word : (ws : List ℕ) (w : ℕ) → w < 2 ^ 64 → le 8 (drop (length (words_bytes (ws ++ (w ∷ []))) - 8) (words_bytes (ws ++ (w ∷ [])))) ≡ w
unfolding words_bytes each
last_word ws w h =
    let a = each (le_bytes 8) ws in
    let e : each (le_bytes 8) (ws ++ (w ∷ [])) ≡ a ++ le_bytes 8 w = each_append (le_bytes 8) ws (w ∷ []) ∙ rw append-nil in
    let n : length a ≡ length (a ++ le_bytes 8 w) - 8 = omega (arith, length-append a (le_bytes 8 w), le-length 8 w) in
    rw (e, drop_at a (le_bytes 8 w) (length (a ++ le_bytes 8 w) - 8) n) (number-back 8 w h)

extent-pointer : (h : Head) (p : Placed) → pointer_of (extent_key h p) ≡ pointer_at (spot_at p)
unfolding extent_key extent_words
extent-pointer h p =
    last_word (checksum_entry h.option p.piece.kind p.piece.stored p.piece.file p.piece.checksum)
    (pointer p.first p.generation) (pointer-below p.first p.generation)

extent-pointers : (h : Head) (ps : List Placed) → map pointer_of (map (extent_key h) ps) ≡ map pointer_at (map spot_at ps)
extent-pointers h [] = refl
extent-pointers h (p ∷ ps) = rw (extent-pointer h p, extent-pointers h ps)

-- a pointer gives the first sector and the generation back
abbrev pub ReadBack : Spot → Type 0
ReadBack t = unpack (1 ∷ 1 ∷ 1 ∷ 1 ∷ 44 ∷ 8 ∷ 8 ∷ []) (pointer_at t) ≡ 1 ∷ 0 ∷ 0 ∷ 0 ∷ sector_number t.first ∷ 0 ∷ t.generation ∷ []

-- in a batch, the fields 72 and the pointers of the extents have the same sectors and generations
pub record PointersAgree (b : Batch) : Type 0 where
  pub same : map pointer_of b.extents ≡ map pointer_at b.spots
  pub read : All ReadBack b.spots

-- an accepted placement writes one batch, in which they agree
pub pointers-agree : (s : List ℕ) (room : ℕ) → Bytes s → (place s room).number ≡ 0 → (b : Batch) × (changes_of (place s room).written ≡ b ∷ []) × PointersAgree b
unfolding place_batch
pointers-agree s room r h =
    let c = read_call s in
    let p = placement s room h in
    let f = place-fits r p.laid_out p.once p.within p.tests-held in
    let m = place-placed r p.laid_out p.once p.within p.tests-held in (
      place_batch c.volume (placed_of c) (walk_of c),
      ap changes_of p.written ∙ changes-back (more f.0 none),
      record {
        same = extent-pointers c.volume.head (placed_of c);
        read = all_map spot_at (all-imp (λ q k. pointer-decodes q.first q.generation (omega (arith, k.first)) k.generation) m);
      },
    )
