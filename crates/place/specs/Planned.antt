-- The plan for the buckets taken, with the generations that a list gives.
use Rattle.std.specs.Prelude.{ℕ, List, map}
use Rattle.wire.specs.declared.kinds.Bucket.{Bucket}
use Rattle.calls.specs.Answers.{read_volume}
use Rattle.calls.specs.CallList.{Piece}
use Rattle.calls.specs.Generations.{gen_of}
use Rattle.format.specs.declared.checksums.ChecksumOption.{ChecksumOption}
use Rattle.next_fit.specs.declared.slot.Slot.{Slot}
use Rattle.reader.specs.declared.head.Head.{Head}
use Rattle.place_keys.specs.Plan.{Planned}

abbrev pub PlanFor : List ℕ → Head → List Piece → List Slot → List Bucket → ChecksumOption → Type 0
PlanFor s h ps ts buckets o = Planned s ps ts buckets (map (gen_of (read_volume s).trees.gens) buckets) h o
