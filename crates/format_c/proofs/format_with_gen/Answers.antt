use Rattle.std.proofs.Common.{sym, ap, length}
use Rattle.format.specs.Gens.{with_gen}
use Rattle.format.proofs.GenLaws.{gens-length}
use Rattle.format_c.proofs.SizedLaws.{whole, changed, left_alone}
use Rattle.format_c.proofs.format_with_gen.Goals as goal

pub copy_from_slice-requires : goal.copy_from_slice-requires
copy_from_slice-requires c =
    rw (c.as_slice.ensures.gives, c.with_gen.ensures, gens-length (record { 0 = c.args.bucket }) c.args.generation c.in-Some.v) (ap length (sym (whole _ c.in-Some.ensures)))

pub returns-in-Some : goal.returns-in-Some
returns-in-Some c =
    rw (c.copy_from_slice.ensures.after, c.as_slice.ensures.gives, c.with_gen.ensures) (changed 256 256 (with_gen (record { 0 = c.args.bucket }) c.args.generation) c.args.value.now c.in-Some.v c.in-Some.ensures)

pub returns-in_default : goal.returns-in_default
returns-in_default c = left_alone 256 256 (with_gen (record { 0 = c.args.bucket }) c.args.generation) c.args.value.now (sym c.in_default.ensures)
