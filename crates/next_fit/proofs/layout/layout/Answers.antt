use Rattle.std.proofs.Common.{arith, rules, ◌+◌, ◌<◌}
use lib.ListN.{get_or, drop, drop_of_length-le}
use Rattle.wire.proofs.OutputLaws.{drop-next}
use Rattle.reader.specs.declared.piece.Piece.{Piece}
use Rattle.next_fit.proofs.LaidLaws.{laid-first, laid_next, laid_end}
use Rattle.next_fit.proofs.layout.layout.Goals as goal

abbrev none : Piece
none = record { file = 0; stored = 0; kind = 0; checksum = 0 }

pub loop-i-init : goal.loop-i-init
loop-i-init c = laid-first c.args.bucket c.args.pieces.now c.args.slots.now

pub loop-i-preserved : goal.loop-i-preserved
loop-i-preserved c =
    let ps = c.args.pieces.now in
    let p = get_or ps c.loop-i.i none in
    let z : p.stored < 65536 = search rules in
    let d = laid_next c.loop-i.invariant p (drop (c.loop-i.i + 1) ps) (drop-next none ps c.loop-i.i c.loop-i-test.true) (omega (arith, c.requires.1, c.loop-i.auto.slots)) z c.requires.2 in
    rw (c.fit_piece-open.ensures.0, c.fit_piece-open.ensures.1) d

pub returns : goal.returns
returns c = laid_end c.loop-i.invariant (drop_of_length-le c.args.pieces.now {i = c.loop-i.i} (omega (arith, c.loop-i-test.false)))
