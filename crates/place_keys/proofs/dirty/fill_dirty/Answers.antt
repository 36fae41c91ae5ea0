use Rattle.std.proofs.Common.{arith, ap, ◌≡◌, ◌+◌, length, [], ◌∷◌, ◌++◌, length-append}
use Rattle.std.proofs.lemmas.Iterator.Consumers.{YieldsList-end}
use Rattle.std.proofs.lemmas.Slice.Zip.{length-zip}
use Rattle.reader.specs.Located.{no_piece}
use Rattle.reader.specs.Pieces.{piece_in}
use Rattle.reader.specs.PieceLists.{pieces_of, pieces_left}
use Rattle.place_keys.proofs.SlotTables.{no_slot}
use Rattle.place_keys.proofs.StepLaws.{slots-many, index-low, stored-most}
use Rattle.place_keys.proofs.BucketLaws.{counting-first, counting-next, counting-end}
use Rattle.place_keys.proofs.ZipLaws.{pair-turn, slice-and-rest}
use Rattle.place_keys.proofs.dirty.fill_dirty.Goals as goal

pub loop-slot-init : goal.loop-slot-init
loop-slot-init c = counting-first c.requires.0 c.requires.1

pub bounds-dirty-index : goal.bounds-dirty-index
bounds-dirty-index c =
    let p = c.args.plan.now in
    let chain =
    slice-and-rest piece_in pieces_left p.slots.now (pieces_of p.pieces) c.into_iter-slot-iterator.ensures.into_iter_gives c.zip-slot-items.ensures.first
    c.zip-slot-items.ensures.second c.iter.ensures.rest (ap pieces_of c.iter-2.ensures) in
    let turn = pair-turn p.slots.now (pieces_of p.pieces) chain c.loop-slot.yielded c.loop-slot.slot-iterator c.loop-slot.yielded_by c.next.result c.next.new.self _ c.in-Some.is c.next.ensures.steps in
    omega (arith, c.loop-slot.invariant.long, index-low p.planned (length c.loop-slot.yielded) turn.1 c.in-Some.slot.now (turn.2 no_slot))

pub bounds-dirty-index-in-loop-slot : goal.bounds-dirty-index-in-loop-slot
bounds-dirty-index-in-loop-slot c =
    let p = c.args.plan.now in
    let chain =
    slice-and-rest piece_in pieces_left p.slots.now (pieces_of p.pieces) c.into_iter-slot-iterator.ensures.into_iter_gives c.zip-slot-items.ensures.first
    c.zip-slot-items.ensures.second c.iter.ensures.rest (ap pieces_of c.iter-2.ensures) in
    let turn = pair-turn p.slots.now (pieces_of p.pieces) chain c.loop-slot.yielded c.loop-slot.slot-iterator c.loop-slot.yielded_by c.next.result c.next.new.self _ c.in-Some.is c.next.ensures.steps in
    omega (arith, c.loop-slot.invariant.long, index-low p.planned (length c.loop-slot.yielded) turn.1 c.in-Some.slot.now (turn.2 no_slot))

pub loop-slot-preserved : goal.loop-slot-preserved
loop-slot-preserved c =
    let p = c.args.plan.now in
    let chain =
    slice-and-rest piece_in pieces_left p.slots.now (pieces_of p.pieces) c.into_iter-slot-iterator.ensures.into_iter_gives c.zip-slot-items.ensures.first
    c.zip-slot-items.ensures.second c.iter.ensures.rest (ap pieces_of c.iter-2.ensures) in
    let turn = pair-turn p.slots.now (pieces_of p.pieces) chain c.loop-slot.yielded c.loop-slot.slot-iterator c.loop-slot.yielded_by c.next.result c.next.new.self _ c.in-Some.is c.next.ensures.steps in
    let more : length (c.loop-slot.yielded ++ (c.in-Some.slot, c.in-Some.piece) ∷ []) ≡ length c.loop-slot.yielded + 1 = length-append c.loop-slot.yielded _ in
    rw more (counting-next p.planned c.loop-slot.invariant turn.1 c.in-Some.piece (turn.3 no_piece) c.in-Some.slot.now (turn.2 no_slot))

pub returns : goal.returns
returns c =
    let p = c.args.plan.now in
    let chain =
    slice-and-rest piece_in pieces_left p.slots.now (pieces_of p.pieces) c.into_iter-slot-iterator.ensures.into_iter_gives c.zip-slot-items.ensures.first
    c.zip-slot-items.ensures.second c.iter.ensures.rest (ap pieces_of c.iter-2.ensures) in
    let end = YieldsList-end chain c.loop-slot.yielded c.loop-slot.slot-iterator c.loop-slot.yielded_by c.next.result c.next.new.self c.in-None.is c.next.ensures.steps in
    counting-end p.planned c.loop-slot.invariant (omega (arith, end.1, length-zip p.slots.now (pieces_of p.pieces), slots-many p.planned))

pub overflow_add-dirty : goal.overflow_add-dirty
overflow_add-dirty c =
    let p = c.args.plan.now in
    let chain =
    slice-and-rest piece_in pieces_left p.slots.now (pieces_of p.pieces) c.into_iter-slot-iterator.ensures.into_iter_gives c.zip-slot-items.ensures.first
    c.zip-slot-items.ensures.second c.iter.ensures.rest (ap pieces_of c.iter-2.ensures) in
    let turn = pair-turn p.slots.now (pieces_of p.pieces) chain c.loop-slot.yielded c.loop-slot.slot-iterator c.loop-slot.yielded_by c.next.result c.next.new.self _ c.in-Some.is c.next.ensures.steps in
    omega (
      arith,
      c.loop-slot.invariant.most c.in-Some.slot.now.index,
      turn.1,
      p.planned.few,
      stored-most p.planned (length c.loop-slot.yielded) turn.1 c.in-Some.piece (turn.3 no_piece),
    )
