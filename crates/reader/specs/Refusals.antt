-- FORMAT.md, "Refusals": the number of each, and what is told of an answer.
use Rattle.std.specs.Prelude.{ℕ, List, Result, Ok, Err}
use Rattle.calls.specs.Answers.{Outcome, made, GenerationsOutcome, looked_up}
use Rattle.reader.specs.declared.refusal.Refusal.{Refusal}
use Rattle.reader.specs.declared.refusal.Refusal.TheVariants.{ShortScratch, Layout, Limit, NoSectors, ChecksumOption, CompressionKind, NoChecksum, BlockSectors, PieceSectors, RunsOverlap, TooFewFree, RunBeforeBuckets, BucketInUse, OutsideBucket, NoAlloc, ShortAlloc, DirtyPastBucket, FreedPastDirty, ShortGens, NoBatch, ShortOutput, Twice}

abbrev pub number_of : Refusal → ℕ
number_of ShortScratch = 1
number_of Layout = 2
number_of Limit = 3
number_of NoSectors = 4
number_of ChecksumOption = 5
number_of CompressionKind = 6
number_of NoChecksum = 7
number_of BlockSectors = 8
number_of PieceSectors = 9
number_of RunsOverlap = 10
number_of TooFewFree = 11
number_of RunBeforeBuckets = 12
number_of BucketInUse = 13
number_of OutsideBucket = 14
number_of NoAlloc = 15
number_of ShortAlloc = 16
number_of DirtyPastBucket = 17
number_of FreedPastDirty = 18
number_of ShortGens = 19
number_of NoBatch = 20
number_of ShortOutput = 21
number_of Twice = 22

-- the number of a refusal, or 0 where there is none
abbrev pub number_in : {A : Type 0} → Result A Refusal → ℕ
number_in (Ok a) = 0
number_in (Err r) = number_of r

-- what a call leaves that tells how many bytes it wrote, or why it refused
abbrev pub made_by : Result ℕ Refusal → List ℕ → Outcome
made_by (Ok count) output = made 0 count output
made_by (Err r) output = made (number_of r) 0 output

-- what a lookup of generations leaves that tells how many keys it visited, or why it refused
abbrev pub looked_up_by : Result ℕ Refusal → List ℕ → GenerationsOutcome
looked_up_by (Ok visited) output = looked_up 0 visited output
looked_up_by (Err r) output = looked_up (number_of r) 0 output
