use Rattle.std.proofs.Common.{ℕ, ◌<◌, ◌≡◌, arith, rules, of_calls, Option, Some, None, Result, Ok, Err}
use Rattle.std.specs.Option.{MatchOption, ok_or}
use Rattle.std.specs.Result.{MatchResult, IsErrAnd}
use Rattle.std.specs.Int.NonZero.{non_zero_u64_get}
use Rattle.std.proofs.lemmas.Bool.Decides.{nat_tests}
use Rattle.std.proofs.lemmas.Result.{err_from_is_err_and}
use lib.ListN.{take}
use Rattle.calls.specs.Answers.{read_call}
use Rattle.calls.specs.Place.{place_tests}
use Rattle.calls.specs.Refusals.{verdict}
use Rattle.format.specs.Checksums.{Names}
use Rattle.format.specs.declared.checksums.ChecksumOption.{ChecksumOption}
use Rattle.format.specs.declared.checksums.UnknownOption.{UnknownOption}
use Rattle.reader.specs.declared.refusal.Refusal.{Refusal}
use Rattle.reader.specs.declared.refusal.Refusal.TheVariants as variants
use Rattle.reader.specs.PieceLists.{Pieces, pieces_of}
use Rattle.reader.specs.declared.read_list.ReadList.{ReadList}
use Rattle.place_tests.specs.Called.{Called}
use Rattle.place_tests.proofs.RefusalLaws.{first_refusal, first_tests}
use Rattle.place_tests.proofs.asked.Placement.refuse_requests.Goals as goal

-- the first of refusals 4 to 9, by what the code holds
first : {r : ReadList} {ps : Pieces} → Called r ps → verdict (take 6 (place_tests (read_call r.list.now))) ≡ first_refusal (pieces_of ps) r.head
first {r} q = first_tests (read_call r.list.now) r.head q.head q.pieces

-- refusal 4: a bucket has no sectors
none-told : {T : Type 0} (get : T → ℕ) (o : Option T) {n : ℕ} {e : Refusal} → MatchOption o (n ≡ 0) (λ x. get x ≡ n)
    → ◌≡◌ {A = Result T Refusal} (Err e) (ok_or o variants.NoSectors) → (n ≡ 0) × (e ≡ variants.NoSectors)
none-told get None m h = (m, cc)
none-told get (Some x) m h = cc

-- refusal 5: a byte names no option
unknown-told : (r : Result ChecksumOption UnknownOption) {t : Result ChecksumOption Refusal} {byte : ℕ} {e : Refusal} (Q : UnknownOption → Refusal → Type 0) → Names byte r
    → MatchResult r (λ o. t ≡ Ok o) (λ u. IsErrAnd t (Q u)) → t ≡ Err e → (3 < byte) × ((u : UnknownOption) × Q u e)
unknown-told (Ok o) Q n m w = cc
unknown-told (Err u) Q n m w = (n.1, (u, rw w at m))

pub returns-in_err-sectors-clause-refusal : goal.returns-in_err-sectors-clause-refusal
returns-in_err-sectors-clause-refusal c =
    let r = err_from_is_err_and c.from_residual.result c.from_residual.ensures.1 in
    let t = none-told non_zero_u64_get c.new.result c.new.ensures c.in_err-sectors.ensures.value in
    rw (r.1, r.2, t.1, first c.args.self.now.called) (grind (arith, nat_tests, t.0))

pub returns-in_err-option-clause-refusal : goal.returns-in_err-option-clause-refusal
returns-in_err-option-clause-refusal c =
    let r = err_from_is_err_and c.from_residual-in_err-option.result c.from_residual-in_err-option.ensures.1 in
    let t = unknown-told c.try_from.result _ c.try_from.ensures c.map_err.ensures.cases c.in_err-option.was in
    let told : c.in_err-option.field-0.0 ≡ variants.ChecksumOption = let q = t.1.1 in search (rules, of_calls) in
    rw (r.1, r.2, told, first c.args.self.now.called) (grind (arith, nat_tests, t.0))

pub returns-then-not-kinds_listed-clause-refusal : goal.returns-then-not-kinds_listed-clause-refusal
returns-then-not-kinds_listed-clause-refusal c = rw (first c.args.self.now.called) (grind (arith, nat_tests))

pub returns-then-not-option_fits-clause-refusal : goal.returns-then-not-option_fits-clause-refusal
returns-then-not-option_fits-clause-refusal c = rw (first c.args.self.now.called) (grind (arith, nat_tests))

pub returns-then-not-block_fits-clause-refusal : goal.returns-then-not-block_fits-clause-refusal
returns-then-not-block_fits-clause-refusal c = rw (first c.args.self.now.called) (grind (arith, nat_tests))

pub returns-then-not-pieces_sized-clause-refusal : goal.returns-then-not-pieces_sized-clause-refusal
returns-then-not-pieces_sized-clause-refusal c = rw (first c.args.self.now.called) (grind (arith, nat_tests))

pub returns-clause-refusal : goal.returns-clause-refusal
returns-clause-refusal c = rw (first c.args.self.now.called) (grind (arith, nat_tests))
