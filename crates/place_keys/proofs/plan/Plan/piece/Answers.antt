use Rattle.std.proofs.Common.{arith, ap, refl, ◌∙◌, get_or}
use borrow.Author.Tests.{ltb-true}
use Rattle.wire.specs.Kinds.{bucket_in_range}
use Rattle.reader.specs.Located.{no_piece}
use Rattle.place_keys.proofs.SlotTables.{no_slot}
use Rattle.place_keys.proofs.StepLaws.{gens-length, slots-many, index-low, bucket-at, low-at, stepped}
use Rattle.place_keys.proofs.plan.Plan.piece.Goals as goal

pub bounds-self-i : goal.bounds-self-i
bounds-self-i c = omega (arith, c.requires.i_in_bounds.0, slots-many c.args.self.now.planned)

pub bounds-self-index : goal.bounds-self-index
bounds-self-index c = index-low c.args.self.now.planned c.args.i c.requires.i_in_bounds.0 _ refl

pub sector_at-requires : goal.sector_at-requires
sector_at-requires c =
    let a = c.args.self.now in
    let k = (get_or a.slots.now c.args.i no_slot).index in
    (ltb-true _ 65536 (ap bucket_in_range (bucket-at a.taken.now k) ∙ low-at a.taken.now a.planned.low k), omega arith, omega arith)

pub bounds-self-index-2 : goal.bounds-self-index-2
bounds-self-index-2 c =
    omega (arith, index-low c.args.self.now.planned c.args.i c.requires.i_in_bounds.0 _ refl, gens-length c.args.self.now.planned)

pub returns : goal.returns
returns c =
    let a = c.args.self.now in
    let t = get_or a.slots.now c.args.i no_slot in
    stepped a.planned c.args.i c.requires.i_in_bounds.0 t refl (omega arith) c.get-piece.result (c.get-piece.ensures no_piece) c.args.end c.requires.i_in_bounds.1
    (omega arith) _ c.sector_at.result c.extent_end.result (bucket-at a.taken.now t.index) c.sector_at.ensures c.extent_end.ensures
