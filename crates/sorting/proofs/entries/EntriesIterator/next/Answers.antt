-- The fields passed hold no key of the section, and the one found is one.
use Rattle.std.proofs.Common.{rules, tests, refl}
use Rattle.sorting.proofs.EntryStepLaws.{found-next, key-stands, key-found}
use Rattle.sorting.proofs.entries.EntriesIterator.next.Goals as goal

pub returns-in_err-field-clause-steps : goal.returns-in_err-field-clause-steps
returns-in_err-field-clause-steps c = rw c.from_residual.ensures (found-next c.args.self.now _ (λ x b q k. search (rules, tests)) c.in_err-field.ensures.ran)

pub invariant_of-result : goal.invariant_of-result
invariant_of-result c = record { stands = key-stands (found-next c.args.self.now _ (λ x b q k. search (rules, tests)) c.in_ok-field.ensures.ran) }

pub returns-clause-steps : goal.returns-clause-steps
returns-clause-steps c = key-found (found-next c.args.self.now _ (λ x b q k. search (rules, tests)) c.in_ok-field.ensures.ran) refl refl refl
