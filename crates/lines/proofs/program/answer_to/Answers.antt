use Rattle.std.proofs.Common.{rules, arith, sym, ◌≡◌, ◌∙◌, length}
use Rattle.reader.specs.Heads.{call_byte}
use Rattle.lines.proofs.ProgramLaws.{answered-in, calls-place, calls-release, calls-discard, named_call, else_discard}
use Rattle.lines.proofs.program.answer_to.Goals as goal

-- the list's call byte is 1
pub returns-in-Place : goal.returns-in-Place
returns-in-Place c =
    let room : length c.args.change.now ≡ 65536 = search rules in
    let named : call_byte c.args.list.now ≡ 1 = sym c.call_byte.ensures ∙ named_call c.try_from.result c.try_from.ensures (sym c.unwrap_or.ensures ∙ c.in-Place.is) (λ d. omega (arith, d)) in
    answered-in c.place.result c.args.change.now c.place.new.out (calls-place c.args.list.now named room) c.place.ensures

-- it is 2
pub returns-in-Release : goal.returns-in-Release
returns-in-Release c =
    let room : length c.args.change.now ≡ 65536 = search rules in
    let named : call_byte c.args.list.now ≡ 2 = sym c.call_byte.ensures ∙ named_call c.try_from.result c.try_from.ensures (sym c.unwrap_or.ensures ∙ c.in-Release.is) (λ d. omega (arith, d)) in
    answered-in c.release.result c.args.change.now c.release.new.out
    (calls-release c.args.list.now (λ h. absurd (omega (arith, h, named))) named (search rules) room) (c.release.ensures).0

-- it is neither
pub returns-in-Discard : goal.returns-in-Discard
returns-in-Discard c =
    let room : length c.args.change.now ≡ 65536 = search rules in
    let other = else_discard c.try_from.result c.try_from.ensures (sym c.unwrap_or.ensures ∙ c.in-Discard.is) in
    answered-in c.discard.result c.args.change.now c.discard.new.out
    (calls-discard c.args.list.now (λ h. other.0 (c.call_byte.ensures ∙ h)) (λ h. other.1 (c.call_byte.ensures ∙ h)) room) c.discard.ensures
