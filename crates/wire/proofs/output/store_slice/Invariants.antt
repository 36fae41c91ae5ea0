use Rattle.std.proofs.Common.{◌≡◌, take}
use Rattle.wire.specs.Output.{put}
use Rattle.wire.proofs.output.store_slice.Given as goal

-- the first bytes are stored
abbrev pub invariant-loop-i : goal.invariant-loop-i
invariant-loop-i l = l.bytes ≡ put l.fn.bytes l.fn.at (take l.i l.fn.b)
