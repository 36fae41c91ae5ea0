use Rattle.std.proofs.Common.{◌≡◌, ◌+◌, ◌*◌, ◌%◌, ◌^◌, arith}
use Rattle.format.proofs.BackpointerLaws.{backpointer-words}
use Rattle.format.proofs.backpointer.backpointer.Goals as goal

pub returns : goal.returns
returns c =
    let g = c.args.generation in
    let x = c.args.extent in
    let e : (4 * 2 ^ 16) % 2 ^ 64 + (g * 2 ^ 24) % 2 ^ 64 ≡ 4 * 2 ^ 16 + g * 2 ^ 24 = omega arith in
    let f : c.args.stored + (x.snapshot * 2 ^ 32) % 2 ^ 64 ≡ c.args.stored + x.snapshot * 2 ^ 32 = omega arith in
    rw (c.number-user.ensures, e, f) (backpointer-words g c.args.stored x (omega arith) (omega arith))
