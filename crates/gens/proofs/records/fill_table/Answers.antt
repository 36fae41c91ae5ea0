use Rattle.std.proofs.Common.{◌≡◌, append-nil, ◌∙◌, [], ◌∷◌}
use Rattle.gens.proofs.RecordLaws.{noting-start, noting-on, last-left}
use Rattle.reader.specs.KeyHere.{Whole}
use Rattle.gens.proofs.records.fill_table.Goals as goal

pub loop-key-init : goal.loop-key-init
loop-key-init c = ([], append-nil _ ∙ cc, cc, noting-start _ _ c.requires)

pub loop-key-preserved : goal.loop-key-preserved
loop-key-preserved c =
    let h = c.loop-key.invariant in
    let step = c.in-Some.ensures.steps in
    let at = c.in-Some.key.at in
    let e = last-left c.next.new.self.iter.keys.places.now h.0 at step.places h.1 in
    let q : c.in-Some.key.list.now ≡ c.args.gens.list.now = step.list ∙ h.2 in
    let w : Whole c.args.gens.list.now at = rw q at c.in-Some.key.whole in
    (at ∷ h.0, e, step.same ∙ h.2, noting-on _ at w _ _ h.3 _ (rw q at c.note_record.ensures))
