-- Laws of the step over the pieces that every emitter takes.
use mathlib.Core.Path.{◌≡◌, refl, sym, ap, ◌∙◌}
use mathlib.Core.Bool.{true}
use mathlib.Core.List.{List, [], ◌∷◌}
use Prim.Native.Nat.{ℕ, zero, suc, ◌+◌, ◌*◌, ◌≤◌, ◌<◌, ◌^◌}
use native.Mathlib.Omega.{arith}
use lib.ListN.{length, drop, get_or, length-map}
use Rattle.std.proofs.lemmas.List.{get_or-map}
use borrow.Author.Tests.{ltb-true}
use Rattle.wire.specs.Kinds.{bucket_in_range, sector_at, extent_end, no_bucket}
use Rattle.wire.specs.declared.kinds.Bucket.{Bucket}
use Rattle.wire.specs.declared.kinds.DeviceSector.{DeviceSector}
use Rattle.wire.specs.declared.kinds.FileSector.{FileSector}
use Rattle.wire.proofs.ProductLaw.{below}
use Rattle.calls.specs.Lists.{all_of}
use Rattle.calls.specs.CallList as calls
use Rattle.calls.specs.Generations.{gen_of}
use Rattle.calls.specs.Pieces as layouts
use Rattle.calls.specs.Pieces.{kind_listed, block_of, piece_sized}
use Rattle.calls.specs.Extents.{bucket_at, placed_at}
use Rattle.calls.specs.Place.{slots_of, walk_of}
use Rattle.calls.specs.Answers.{read_call, read_volume}
use Rattle.calls.proofs.lists.BoolLaws.{parts as and-true}
use Rattle.calls.proofs.lists.AllOfLaws.{all-of-drop, all-of-first}
use Rattle.reader.specs.declared.head.Head.{Head}
use Rattle.reader.specs.Pieces.{piece_in}
use Rattle.format.specs.declared.checksums.ChecksumOption.{ChecksumOption}
use Rattle.next_fit.specs.Fit.{slot_in}
use Rattle.place_keys.specs.Plan.{Planned, Reached, PieceStepped, placed_from}
use Rattle.reader.specs.declared.piece.Piece.{Piece}
use Rattle.next_fit.specs.declared.slot.Slot.{Slot}
use Rattle.reader.specs.Located.{no_piece}
use Rattle.wire.proofs.OutputLaws.{drop-next}
use Rattle.place_tests.proofs.SizedLaws.{kind-bound, file-low, file-high, stored_low, stored-high}
use Rattle.place_keys.proofs.SlotTables.{no_slot, slots_length, slots_next, slot-needed}

-- the buckets taken, by index

pub bucket-at : (bs : List Bucket) (i : ℕ) → get_or bs i no_bucket ≡ bucket_at no_bucket bs i
unfolding bucket_at
bucket-at [] i = refl
bucket-at (b ∷ bs) zero = refl
bucket-at (b ∷ bs) (suc i) = bucket-at bs i

pub low-at : (bs : List Bucket) → all_of bucket_in_range bs ≡ true → (i : ℕ) → bucket_in_range (bucket_at no_bucket bs i) ≡ true
unfolding bucket_at all_of
low-at [] h i = refl
low-at (b ∷ bs) h zero = (and-true (bucket_in_range b) (all_of bucket_in_range bs) h).0
low-at (b ∷ bs) h (suc i) = low-at bs (and-true (bucket_in_range b) (all_of bucket_in_range bs) h).1 i

-- the first of some pieces at its place, and the pieces after it
pub placed-here :
    (c : calls.CallList) (i : ℕ) (from : FileSector) (p : calls.Piece) (t : layouts.Slot) → drop i c.pieces ≡ p ∷ drop (i + 1) c.pieces
    → drop i (slots_of c) ≡ t ∷ drop (i + 1) (slots_of c)
    → (b : Bucket) (g : ℕ) (first : DeviceSector) (end : FileSector) → bucket_at no_bucket (walk_of c).taken t.index ≡ b
    → gen_of c.volume.trees.gens b ≡ g → sector_at b c.volume.head.bucket_sectors t.offset ≡ first → extent_end from p.file ≡ end
    → placed_from c i from ≡ record { piece = p; first = first; bucket = b; generation = g; end = end } ∷ placed_from c (i + 1) end
unfolding placed_from placed_at
placed-here c i from p t e f b g first end eb eg ef ee = rw (e, f, eb, eg, ef, ee)

module _ {s : List ℕ} {pieces : List calls.Piece} {slots : List Slot} {buckets : List Bucket} {generations : List ℕ} {h : Head} {option : ChecksumOption}
    (plan : Planned s pieces slots buckets generations h option) where
  pub bucket-sectors : (read_volume s).head.bucket_sectors ≡ h.bucket_sectors
  bucket-sectors = ap (λ (x : calls.Head). x.bucket_sectors) (sym plan.head)

  pub gens-length : length generations ≡ length buckets
  gens-length = ap length plan.gens ∙ length-map buckets (gen_of (read_volume s).trees.gens)

  -- the generation of the bucket at an index
  pub gen-at : (i : ℕ) → i < length buckets → get_or generations i 0 ≡ gen_of (read_volume s).trees.gens (bucket_at no_bucket buckets i)
  gen-at i k =
      let gen = gen_of (read_volume s).trees.gens in
      ap (λ (l : List ℕ). get_or l i 0) plan.gens ∙ get_or-map gen buckets i no_bucket 0 k ∙ ap gen (bucket-at buckets i)

  -- a slot for each piece, in one of the buckets
  pub slots-many : length slots ≡ length pieces
  slots-many = slots_length (read_call s) slots plan.slots ∙ sym (ap length plan.pieces)

  module _ (i : ℕ) (l : i < length pieces) where
    module _ (t : Slot) (f : t ≡ get_or slots i no_slot) where
      pub slots-here : drop i (slots_of (read_call s)) ≡ slot_in t ∷ drop (i + 1) (slots_of (read_call s))
      slots-here =
          slots_next (read_call s) slots plan.slots i (omega (arith, l, slots-many))
          ∙ ap (λ (x : Slot). slot_in x ∷ drop (i + 1) (slots_of (read_call s))) (sym f)

      pub index-low : t.index < length buckets
      index-low = omega (arith, ap (λ (x : Slot). x.index) f, plan.enough, slot-needed (read_call s) slots plan.slots i (omega (arith, l, slots-many)))

    module _ (p : Piece) (e : piece_in p ≡ get_or pieces i no_piece) where
      pub pieces-here : drop i (read_call s).pieces ≡ piece_in p ∷ drop (i + 1) (read_call s).pieces
      pieces-here = rw (← plan.pieces) (drop-next no_piece pieces i l ∙ ap (λ (x : calls.Piece). x ∷ drop (i + 1) pieces) (sym e))

      listed : kind_listed (piece_in p) ≡ true
      listed = all-of-first kind_listed (all-of-drop kind_listed _ i plan.kinds) pieces-here

      sized : piece_sized h.bucket_sectors (block_of h.block_sectors) (piece_in p) ≡ true
      sized = let t = piece_sized h.bucket_sectors (block_of h.block_sectors) in all-of-first t (all-of-drop t _ i plan.sizes) pieces-here

      pub stored-most : p.stored ≤ 128
      stored-most = stored-high _ _ (piece_in p) sized

      file-most : p.file ≤ 128
      file-most = file-high _ _ (piece_in p) sized

    module _ (t : Slot) (f : t ≡ get_or slots i no_slot) (o : t.offset < 65536) (p : Piece) (e : piece_in p ≡ get_or pieces i no_piece) (from : FileSector) (r : Reached i from)
        (k : h.bucket_sectors < 65536) (b : Bucket) (first : DeviceSector) (end : FileSector) (eb : b ≡ bucket_at no_bucket buckets t.index)
        (ef : first ≡ sector_at b h.bucket_sectors t.offset) (ee : end ≡ extent_end from p.file) where
      first-low : first.0 < 2 ^ 44
      first-low =
          let d : first.0 ≡ b.0 * h.bucket_sectors + t.offset = ap (λ (d : DeviceSector). d.0) ef in
          let m : b.0 < 65536 = ltb-true b.0 65536 (ap bucket_in_range eb ∙ low-at buckets plan.low t.index) in
          omega (arith, below 16 {a = b.0} {b = h.bucket_sectors} m k, o)

      pub stepped : PieceStepped s i from (record { piece = p; first = first; bucket = b; generation = get_or generations t.index 0; end = end })
      stepped =
          record {
            here =
                placed-here (read_call s) i from (piece_in p) (slot_in t) (pieces-here p e) (slots-here t f) b (get_or generations t.index 0) first end
                (ap (λ l. bucket_at no_bucket l t.index) (sym plan.taken) ∙ sym eb)
                (ap (gen_of (read_volume s).trees.gens) eb ∙ sym (gen-at t.index (index-low t f))) (rw bucket-sectors (sym ef)) (sym ee);
            reached =
                let d : end.0 ≡ from.0 + p.file = ap (λ (x : FileSector). x.0) ee in
                omega (arith, r, file-most p e);
            bounded =
                record {
                  stored = (stored_low _ _ (piece_in p) (sized p e), stored-most p e);
                  file = (file-low _ _ (piece_in p) (sized p e), file-most p e);
                  kind = kind-bound (piece_in p) (listed p e);
                  first = first-low;
                };
          }
