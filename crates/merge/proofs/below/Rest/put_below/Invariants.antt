-- The keys below the limit that are left to be written.
use Rattle.std.proofs.Common.{length}
use Rattle.wire.specs.Bytes.{All}
use Rattle.merge.specs.Counts.{StandsWithin}
use Rattle.merge.specs.Merging.{left_in}
use Rattle.merge.proofs.SectionLaws.{Writing}
use Rattle.merge.proofs.below.Rest.put_below.Given as goal

abbrev pub invariant-loop-self : goal.invariant-loop-self
invariant-loop-self l =
    Writing l.fn.out l.fn.self l.lim l.out (left_in l.self-inside.section l.self-inside.vol.now l.self-inside.keys.now l.self-inside.count)
    × All (StandsWithin l.self-inside.section l.self-inside.vol.now) l.self-inside.keys.now

abbrev pub decreases-loop-self : goal.decreases-loop-self
decreases-loop-self l = length l.self-inside.keys.now
