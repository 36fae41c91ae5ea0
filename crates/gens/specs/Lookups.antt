-- What the code's answers stand for.
use Rattle.std.specs.Prelude.{ℕ, Result, Ok, Err}
use Rattle.calls.specs.Generations.{GenFound, found, no_record, too_short}
use Rattle.gens.specs.declared.lookup.NoGeneration.{NoGeneration}
use Rattle.gens.specs.declared.lookup.NoGeneration.TheVariants.{NoRecord, TooShort}

abbrev pub lookup_is : Result ℕ NoGeneration → GenFound
lookup_is (Ok g) = found g
lookup_is (Err NoRecord) = no_record
lookup_is (Err TooShort) = too_short
