use Rattle.std.proofs.Common.{arith, ap, refl, ◌∙◌, ◌≡◌, ℕ, map, length, take, List, [], ◌∷◌}
use lib.ListN.{length-map}
use Rattle.calls.specs.Pieces.{next_fit, buckets_needed}
use Rattle.calls.specs.CallList as calls
use Rattle.reader.specs.Pieces.{piece_in}
use Rattle.reader.specs.PieceLists.{pieces_of}
use Rattle.reader.specs.declared.piece.Piece.{Piece}
use Rattle.next_fit.specs.Fit.{slots_in}
use Rattle.next_fit.specs.declared.slot.Slot.{Slot}
use Rattle.next_fit.proofs.layout.lay_out.Goals as goal

-- a record has the sectors of its piece
same_sectors : (ps : List Piece) → map (λ (p : Piece). p.stored) ps ≡ map (λ (p : calls.Piece). p.stored) (map piece_in ps)
same_sectors [] = refl
same_sectors (p ∷ ps) = ap (λ l. p.stored ∷ l) (same_sectors ps)

-- no pieces have no slots, and need no bucket
none_laid : (b : ℕ) (ps : List calls.Piece) (ts : List Slot) → length ps ≡ 0
    → (0 ≡ buckets_needed (next_fit b 0 0 (map (λ (p : calls.Piece). p.stored) ps)))
    × (slots_in (take (length ps) ts) ≡ next_fit b 0 0 (map (λ (p : calls.Piece). p.stored) ps))
unfolding slots_in next_fit buckets_needed
none_laid b [] ts e = (refl, refl)
none_laid b (p ∷ ps) ts e = absurd (omega arith)

-- the slots of the records are those of the pieces
pieces_laid : (b : ℕ) (rs : List Piece) (ts : List Slot) {ps : List calls.Piece} → map piece_in rs ≡ ps
    → slots_in (take (length rs) ts) ≡ next_fit b 0 0 (map (λ (p : Piece). p.stored) rs)
    → slots_in (take (length ps) ts) ≡ next_fit b 0 0 (map (λ (p : calls.Piece). p.stored) ps)
pieces_laid b rs ts e h = rw (← e, length-map rs piece_in, ← same_sectors rs) h

pub returns-then-n-eq0 : goal.returns-then-n-eq0
returns-then-n-eq0 c = none_laid c.args.bucket (pieces_of c.args.pieces.now) c.args.slots.now (omega (arith, c.len-n.ensures, c.if-n-eq0.true))

pub returns : goal.returns
returns c =
    let n = c.len-n.result in
    let read = ap (λ k. map piece_in (take k c.read_pieces-records.result)) c.len-n.ensures ∙ c.read_pieces-records.ensures in
    let laid = pieces_laid c.args.bucket (take n c.read_pieces-records.result) c.layout.new.slots read c.layout.ensures.1 in
    (c.buckets_needed.ensures ∙ ap buckets_needed (ap (λ k. slots_in (take k c.layout.new.slots)) c.len-n.ensures ∙ laid), laid)
