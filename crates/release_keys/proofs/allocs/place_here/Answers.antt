use Rattle.std.proofs.Common.{ap, sym, ◌∙◌, arith, List, ℕ}
use lib.ListN.{length-map}
use Rattle.wire.specs.Order.{pos_same}
use Rattle.wire.specs.declared.bpos.Bpos.{Bpos}
use Rattle.reader.specs.KeyHere.{key_here}
use Rattle.reader.specs.ListedKeys.{keys_listed}
use Rattle.reader.proofs.ListedKeyLaws.{keys-at}
use Rattle.release_keys.proofs.AllocLaws.{here-none, here-tested}
use Rattle.release_keys.proofs.PlaceLaws.{missing}
use Rattle.release_keys.proofs.allocs.place_here.Goals as goal

pub returns-in_err-key : goal.returns-in_err-key
returns-in_err-key c =
    let keys = c.args.ascending.keys in
    rw c.from_residual.ensures (missing (here-none c.args.p (keys_listed keys) (omega (arith, c.in_err-key.ensures, length-map keys.places.now (key_here keys.list.now)))))

pub overflow_cast-key : goal.overflow_cast-key
overflow_cast-key c = omega (arith, c.in_ok-key.ensures.1.fits)

pub returns : goal.returns
returns c =
    let keys = c.args.ascending.keys in
    let k = c.in_ok-key.ensures in
    let a = (keys-at keys.whole).at 0 k.0 in
    rw c.then_some.ensures
    (here-tested c.args.p (keys_listed keys) c.args.ascending.ascend (c.requires k.0) (rw k.1.at a.whole) (omega (arith, k.0, length-map keys.places.now (key_here keys.list.now)))
    (rw k.1.at (sym a.is)) _
    (c.pos_same.ensures ∙ ap (λ (x : Bpos). pos_same x c.args.p) (c.pos.ensures ∙ ap (λ (s : List ℕ). (key_here s c.in_ok-key.key.at).pos) k.1.list)))
