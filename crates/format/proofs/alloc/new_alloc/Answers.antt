use Rattle.std.proofs.Common.{◌≡◌, ◌+◌, ◌*◌, ◌%◌, ◌^◌, arith}
use Rattle.format.proofs.PackingLaws.{new-words}
use Rattle.format.proofs.alloc.new_alloc.Goals as goal

pub returns : goal.returns
returns c =
    let g = c.args.generation in
    let e : 0x23 + (g * 2 ^ 32) % 2 ^ 64 + (g * 2 ^ 40) % 2 ^ 64 + (4 * 2 ^ 48) % 2 ^ 64 ≡ 0x23 + g * 2 ^ 32 + g * 2 ^ 40 + 4 * 2 ^ 48 = omega arith in
    rw (c.number-user.ensures, e) (new-words c.args.journal g c.args.dirty c.args.clock (omega arith) (omega arith))
