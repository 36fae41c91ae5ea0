use Rattle.std.proofs.Common.{sym, ap, length}
use Rattle.format.specs.AllocV4.{discarded}
use Rattle.format.proofs.AllocLaws.{discarded-length}
use Rattle.format_c.proofs.SizedLaws.{whole, changed, left_alone}
use Rattle.format_c.proofs.format_discarded.Goals as goal

pub copy_from_slice-requires : goal.copy_from_slice-requires
copy_from_slice-requires c =
    rw (c.as_slice.ensures.gives, c.discarded.ensures, discarded-length c.in-Some.v) (ap length (sym (whole _ c.in-Some.ensures)))

pub returns-in-Some : goal.returns-in-Some
returns-in-Some c =
    rw (c.copy_from_slice.ensures.after, c.as_slice.ensures.gives, c.discarded.ensures) (changed 56 256 discarded c.args.value.now c.in-Some.v c.in-Some.ensures)

pub returns-in_default : goal.returns-in_default
returns-in_default c = left_alone 56 256 discarded c.args.value.now (sym c.in_default.ensures)
