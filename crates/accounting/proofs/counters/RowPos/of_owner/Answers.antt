use Rattle.std.proofs.Common.{arith, refl, ◌∙◌, ◌≡◌, ◌+◌, ◌*◌, ◌/◌, ◌%◌, ◌^◌}
use Rattle.calls.specs.Accounting.{swapped}
use Rattle.accounting.proofs.PlaceRowLaws.{swapped-is}
use Rattle.accounting.proofs.counters.RowPos.of_owner.Goals as goal

pub returns : goal.returns
returns c =
    let y = c.swap_bytes-y.result in
    let x = swapped 8 c.args.inode in
    let e : y ≡ x = c.swap_bytes-y.ensures ∙ swapped-is c.args.inode in
    let a : 576460752303423488 + y / 256 ≡ (8 * 256 ^ 8 + x) / 256 = omega (arith, e, c.swap_bytes-y.type_inv) in
    let b : y % 256 * 72057594037927936 ≡ (8 * 256 ^ 8 + x) % 256 * 256 ^ 7 = omega (arith, e, c.swap_bytes-y.type_inv) in
    rw (a, b) refl
