-- The lists keep their layouts.
use Rattle.apply.proofs.lists.apply_within.Goals as goal

pub roots_after-requires : goal.roots_after-requires
roots_after-requires g c = c.requires.0.change
