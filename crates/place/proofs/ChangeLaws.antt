-- Laws of the change list of a placement: its bytes in the order in which they are emitted.
use mathlib.Core.Path.{◌≡◌, sym, ap, ◌∙◌}
use mathlib.Core.Bool.{Bool, ◌&&◌}
use mathlib.Core.List.{List, [], ◌∷◌, ◌++◌, map, flat_map, append_assoc, append-nil}
use Prim.Native.Nat.{ℕ}
use Rattle.wire.specs.Fields.{Field}
use Rattle.wire.specs.Encode.{encode, encode_field, key_field}
use Rattle.wire.specs.Rows.{row_field}
use Rattle.calls.specs.Lists.{total}
use Rattle.calls.specs.CallList as calls
use Rattle.calls.specs.CallList.{tree_fields}
use Rattle.calls.specs.Extents.{Placed, extent_key, backpointer_key}
use Rattle.format.specs.declared.checksums.ChecksumOption.{ChecksumOption}
use Rattle.next_fit.specs.declared.slot.Slot.{Slot}
use Rattle.calls.specs.Lru.{lru_keys, lru_wanted}
use Rattle.calls.specs.ChangeList.{Batch, root_field, taken_field, spot_field, sectors_field, discarded_field, end_field, batch_fields, change_fields, change_bytes}
use Rattle.calls.specs.Place.{root_missing, roots_if, dirty_in, new_alloc_key, spot_at, place_rows, placed_of, walk_of, place_batch}
use Rattle.calls.specs.Answers.{read_call, read_volume}
use Rattle.reader.specs.Heads.{head_in}
use Rattle.reader.specs.declared.head.Head.{Head}
use Rattle.wire.specs.declared.kinds.Bucket.{Bucket}
use Rattle.place_keys.specs.Plan.{Planned}
use Rattle.place.specs.Change.{placement, root_is_wanted, key_fields, other_fields}
use Rattle.accounting.specs.Tally.{tallies_of}
use Rattle.accounting.specs.declared.tally.Tally.{Tally}
use Rattle.accounting.specs.declared.tally.Tallies.{Tallies}
use Rattle.wire.proofs.EncodeLaws.{encode-append, encode-next, encode-none}
use Rattle.calls.proofs.place.LruRootLaws.{wanted-queued}
use Rattle.calls.proofs.place.PlaceLaws.{placed-pieces}
use Rattle.place_keys.proofs.StepLaws.{bucket-sectors}
use Rattle.accounting.proofs.PlaceRowLaws.{all-tally}

nine : (a b c d e f g h i : List Field) → a ++ b ++ c ++ d ++ e ++ f ++ g ++ h ++ i ++ [] ≡ (a ++ b) ++ (c ++ d ++ e ++ f ++ g ++ h ++ i)
nine a b c d e f g h i = simp (append_assoc, append-nil)

-- one batch: its keys, and what follows them
pub change-split : (b : Batch) → change_bytes (b ∷ []) ≡ encode (key_fields b) ++ encode (other_fields b)
unfolding change_bytes change_fields batch_fields key_fields other_fields
change-split b =
    ap encode
    (nine (map (key_field 0) b.extents) (tree_fields b.trees) (map root_field b.roots) (map taken_field b.taken) (map spot_field b.spots)
    (map row_field b.rows) (map sectors_field b.sectors) (map discarded_field b.discarded) (end_field ∷ []))
    ∙ encode-append (key_fields b) (other_fields b)

five : (a b c d e : List Field) → encode (a ++ (b ++ c ++ d ++ [] ++ e ++ [])) ≡ encode a ++ (encode b ++ (encode c ++ (encode d ++ encode e)))
five a b c d e = simp (encode-append, append_assoc, append-nil)

six : (a b c d : List Field) (e f : Field)
    → encode (a ++ b ++ c ++ d ++ (e ∷ []) ++ [] ++ (f ∷ [])) ≡ encode a ++ (encode b ++ (encode c ++ (encode d ++ (encode_field e ++ encode_field f))))
six a b c d e f = simp (encode-append, encode-next, encode-none, append_assoc, append-nil)

module _ {s : List ℕ} {pieces : List calls.Piece} {slots : List Slot} {buckets : List Bucket} {generations : List ℕ} {h : Head} {option : ChecksumOption}
    (plan : Planned s pieces slots buckets generations h option) where
  abbrev ps : List Placed
  ps = placed_of (read_call s)

  -- the keys, by what planning hands over
  pub keys_of :
      encode (key_fields (placement s))
      ≡ encode (map (key_field 0) (map (extent_key (head_in h)) ps))
      ++ (encode (map (key_field 4) (map (new_alloc_key (read_volume s) ps) buckets))
      ++ (encode (map (key_field 10) (flat_map (λ b. lru_keys h.bucket_sectors b (dirty_in ps b)) buckets))
      ++ (encode (map (key_field 11) (walk_of (read_call s)).queue) ++ encode (map (key_field 13) (map (backpointer_key (head_in h)) ps)))))
  unfolding key_fields place_batch tree_fields
  keys_of =
      rw (plan.head, plan.taken, ← bucket-sectors plan)
      (five _ (map (key_field 4) (map (new_alloc_key (read_volume s) ps) (walk_of (read_call s)).taken))
      (map (key_field 10) (flat_map (λ b. lru_keys (read_volume s).head.bucket_sectors b (dirty_in ps b)) (walk_of (read_call s)).taken))
      (map (key_field 11) (walk_of (read_call s)).queue) (map (key_field 13) (map (backpointer_key (read_volume s).head) ps)))

  -- the root is wanted where an LRU key is queued
  pub root-of : lru_wanted h.bucket_sectors (map (dirty_in ps) buckets) ≡ root_is_wanted s
  unfolding root_is_wanted place_batch
  root-of =
      rw (plan.taken, ← bucket-sectors plan)
      (wanted-queued (read_volume s).head.bucket_sectors (dirty_in ps) (walk_of (read_call s)).taken)

  -- what follows them, by the tallies and by whether the root is wanted
  pub others-of : (t : Tallies) → t ≡ tallies_of (read_call s).pieces → (wanted : Bool) → wanted ≡ root_is_wanted s
      → encode (other_fields (placement s))
      ≡ encode (map root_field (roots_if (wanted && root_missing h.roots 0) 10))
      ++ (encode (map taken_field buckets)
      ++ (encode (map spot_field (map spot_at ps))
      ++ (encode (map row_field (place_rows (head_in h) buckets ps (map (extent_key (head_in h)) ps)))
      ++ (encode_field (sectors_field t.all.file) ++ encode_field end_field))))
  unfolding other_fields place_batch root_is_wanted
  others-of t e wanted w =
      let a = all-tally ps ∙ ap (λ l. (tallies_of l).all) (placed-pieces (read_call s)) ∙ ap (λ (x : Tallies). x.all) (sym e) in
      let f : total (λ p. p.piece.file) ps ≡ t.all.file = ap (λ (x : Tally). x.file) a in
      let r : (read_volume s).head.roots ≡ h.roots = ap (λ (x : calls.Head). x.roots) (sym plan.head) in
      let q = w ∙ sym (wanted-queued (read_volume s).head.bucket_sectors (dirty_in ps) (walk_of (read_call s)).taken) in
      rw (plan.head, plan.taken, q, ← f, ← r)
      (six _ (map taken_field (walk_of (read_call s)).taken) (map spot_field (map spot_at ps))
      (map row_field (place_rows (read_volume s).head (walk_of (read_call s)).taken ps (map (extent_key (read_volume s).head) ps)))
      (sectors_field (total (λ p. p.piece.file) ps)) end_field)
