-- FORMAT.md, "Keys": the trees, by the tag of their keys.
use Rattle.std.specs.Prelude.{ℕ}
use Rattle.wire.specs.declared.trees.Tree.{Tree}
use Rattle.wire.specs.declared.trees.Tree.TheVariants.{Extents, Alloc, Lru, Freespace, NeedDiscard, Backpointers, BucketGens}

-- the tag of a tree's keys
abbrev pub tree_tag : Tree → ℕ
tree_tag Extents = 0
tree_tag Alloc = 4
tree_tag Lru = 10
tree_tag Freespace = 11
tree_tag NeedDiscard = 12
tree_tag Backpointers = 13
tree_tag BucketGens = 14
